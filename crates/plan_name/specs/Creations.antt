-- What a CREATE comes to before it is planned.
use Rattle.std.specs.Prelude.{◌≡◌, ◌≢◌, ◌<◌, ◌≤◌, ℕ, ◌==◌, Bool, true, false, List, length, Some, None, not, nat_lt, All}
use Rattle.std.specs.List.{position}
use Rattle.std.specs.FinMap.{get}
use Rattle.files_model.specs.declared.attributes.Attr.{Attr}
use Rattle.files_model.specs.declared.attributes.FileId.{FileId}
use Rattle.files_model.specs.declared.attributes.Sattr.{Sattr}
use Rattle.files_model.specs.declared.call.Call.TheVariants.{Create}
use Rattle.files_model.specs.declared.credential.Cred.{Cred}
use Rattle.files_model.specs.declared.reply.Reply.TheVariants as reply
use Rattle.files_model.specs.declared.reply.Stat.{Stat}
use Rattle.files_model.specs.Answers.{first_of, attr_of}
use Rattle.files_model.specs.Files.{Node, live}
use Rattle.files_model.specs.NameRows.{create_tests}
use Rattle.files_model.specs.Names.{has_name, number_at, place_for}
use Rattle.files_model.specs.Permission.{is_directory}
use Rattle.files_model.specs.Step.{step}
use Rattle.stable.specs.Store.{Image}
use Rattle.v7_layout.specs.declared.inode.Inode.{Inode}
use Rattle.v7_map.specs.Image.{is_inode, inode_at, inode_sector}
use Rattle.v7_map.specs.View.{view}
use Rattle.v7_strokes.specs.Entries.{entry_sector}
use Rattle.plan_name.specs.Created.{IsFreeName}
use Rattle.plan_name.specs.declared.judging_creation.Creation.{Creation}
use Rattle.plan_name.specs.declared.judging_creation.Creation.TheVariants as creation
use Rattle.plan_name.specs.declared.making.Spot.{Spot}

-- the call is refused so, whoever makes it and at whatever time
abbrev pub RefusesCreation : Image → FileId → List ℕ → Sattr → Stat → Type 0
RefusesCreation image dir name wanted status = (cred : Cred) (now : ℕ) → step (view image) (Create dir name wanted) cred now ≡ (reply.Refused status, view image)

-- No test before the name refuses, and the first slot of the name has this i-number, of an inode in use.
pub record IsTakenName (image : Image) (dir : FileId) (name : List ℕ) (wanted : Sattr) (i : ℕ) : Type 0 where
  pub directory : Node
  pub index : ℕ
  pub live : live (view image) dir ≡ Some directory
  pub tests : first_of (create_tests (view image) directory name wanted) ≡ None
  pub slot : position (has_name name) directory.slots ≡ Some index
  pub number : number_at directory.slots index ≡ i
  pub inode : is_inode image i ≡ true
  pub used : not ((inode_at image i).mode == 0) ≡ true

-- The name is free in directory d, whose new entries come at its end, or in an empty slot.
pub record IsFreeIn (image : Image) (dir : FileId) (name : List ℕ) (wanted : Sattr) (at_end : Bool) (d : Node) : Type 0 where
  pub free : IsFreeName (view image) dir name wanted d
  pub at : get (view image).nodes dir.ino ≡ Some d
  pub kind : is_directory d.kind ≡ true
  pub end : at_end ≡ not (nat_lt (place_for d.slots) (length d.slots))

-- The name is free in this slot's directory, whose first empty slot it is, and these are the directory's attributes.
pub record IsFreeSpot (image : Image) (name : List ℕ) (wanted : Sattr) (spot : Spot) (attr : Attr) : Type 0 where
  pub node : Node
  pub free : IsFreeIn image spot.directory name wanted false node
  pub attr_is : attr ≡ attr_of spot.directory.ino node
  pub place : spot.index ≡ place_for node.slots
  pub sector : spot.sector ≡ entry_sector image spot.directory.ino spot.index

-- The name is free, no slot is empty, and this is the directory's inode.
pub record IsFreeEnd (image : Image) (dir : FileId) (name : List ℕ) (wanted : Sattr) (inode : Inode) : Type 0 where
  pub node : Node
  pub free : IsFreeIn image dir name wanted true node
  pub inode_is : inode ≡ inode_at image dir.ino

-- what a CREATE comes to before it is planned
abbrev pub JudgesCreation : Image → FileId → List ℕ → Sattr → Creation → Type 0
JudgesCreation image dir name wanted (creation.Refused status) = RefusesCreation image dir name wanted status
JudgesCreation image dir name wanted (creation.Stands i) = IsTakenName image dir name wanted i
JudgesCreation image dir name wanted (creation.InPlace spot attr) = (spot.directory ≡ dir) × IsFreeSpot image name wanted spot attr
JudgesCreation image dir name wanted (creation.AtEnd inode) = IsFreeEnd image dir name wanted inode

-- a slot can have the name
abbrev pub FitsSlot : List ℕ → Type 0
FitsSlot name = (length name ≤ 14) × All (λ byte. byte ≢ 0) name

-- a slot past the super-block and its directory's inode stand within so many sectors
abbrev pub SpotWithin : ℕ → Spot → Type 0
SpotWithin sectors spot = (inode_sector spot.directory.ino < sectors) × (spot.sector < sectors) × (2 ≤ spot.sector)

-- a new entry has a name that a slot can have, and its slot stands within so many sectors
abbrev pub CreationWithin : ℕ → List ℕ → Creation → Type 0
CreationWithin sectors name (creation.Refused status) = Unit {0}
CreationWithin sectors name (creation.Stands i) = Unit {0}
CreationWithin sectors name (creation.InPlace spot attr) = SpotWithin sectors spot × FitsSlot name
CreationWithin sectors name (creation.AtEnd inode) = FitsSlot name
