-- What a builder is told of a new directory.
use Rattle.std.specs.Prelude.{◌≡◌, ◌≢◌, ◌<◌, ◌≤◌, ℕ, ◌+◌, min, List, length, Some}
use Rattle.std.specs.Option.{unwrap_or}
use Rattle.std.specs.FinMap.{get}
use Rattle.files_model.specs.declared.attributes.Sattr.{Sattr}
use Rattle.files_model.specs.declared.credential.Cred.{Cred}
use Rattle.files_model.specs.Files.{Node}
use Rattle.files_model.specs.NameRows.{new_directory}
use Rattle.files_model.specs.Names.{place_for}
use Rattle.files_model.specs.Space.{size_limit}
use Rattle.name_plans.specs.MakingDirectory.{IsMkdir}
use Rattle.plan_name.specs.Created.{CanBeNumber}
use Rattle.plan_name.specs.Creating.{LaysOut}
use Rattle.plan_name.specs.declared.creating_puts.Longer.{Longer}
use Rattle.plan_name.specs.declared.making.Spot.{Spot}
use Rattle.stable.specs.Store.{Image}
use Rattle.v7_layout.specs.declared.inode.Inode.{Inode}
use Rattle.v7_layout.specs.declared.slot.Slot.{Slot}
use Rattle.v7_map.specs.Frame.{Place, frame}
use Rattle.v7_map.specs.View.{view}
use Rattle.v7_sets.specs.Sets.{IsFreeBlock}
use Rattle.v7_strokes.specs.Entries.{entry_sector}
use Rattle.v7_strokes.specs.Inodes.{placed_inode}
use Rattle.v7_strokes.specs.Over.{slot_from}
use Rattle.plan_mkdir.specs.declared.directories.NewDirectory.{NewDirectory}

-- a store of so many sectors may have the new directory
pub record NewWithin (sectors : ℕ) (new : NewDirectory) : Type 0 where
  pub number : CanBeNumber sectors new.ino
  pub past : 2 ≤ new.block
  pub below : new.block < min sectors 1048576

-- a store of so many sectors may have the parent, and its slot past the super-block
pub record SpotWithin (sectors : ℕ) (spot : Spot) : Type 0 where
  pub parent : CanBeNumber sectors spot.directory.ino
  pub slot : spot.sector < sectors
  pub past : 2 ≤ spot.sector

-- A MKDIR of a free name makes the new directory, in a free block, by this slot of its parent.
pub record Makes (image : Image) (spot : Spot) (new : NewDirectory) (name : List ℕ) (wanted : Sattr) (cred : Cred) (now : ℕ) (d : Node) : Type 0 where
  pub making : IsMkdir (view image) spot.directory name wanted cred now d new.ino
  pub free : IsFreeBlock (frame image) new.block
  pub place : spot.index ≡ place_for d.slots

-- this is its inode, and this its name's slot
pub record HasParts (image : Image) (spot : Spot) (new : NewDirectory) (name : List ℕ) (wanted : Sattr) (cred : Cred) (now : ℕ) (inode : Inode) (slot : Slot) : Type 0 where
  pub inode_is : inode ≡ placed_inode (new_directory wanted cred new.ino spot.directory.ino now) (unwrap_or (get (view image).generations new.ino) 0 + 1) new.block
  pub slot_is : slot_from slot ≡ Some (new.ino, name)

-- The slot is an empty one, which stands in this sector.
pub record IsInside (image : Image) (spot : Spot) (d : Node) : Type 0 where
  pub inside : spot.index < length d.slots
  pub stands : spot.sector ≡ entry_sector image spot.directory.ino spot.index

-- The slot comes at the parent's end, where its blocks are to stand at these places, of which these are new. The new directory's block is none of them.
pub record IsAtEnd (image : Image) (spot : Spot) (block : ℕ) (longer : Longer) (d : Node) (target : Place → ℕ) (new : List ℕ) : Type 0 where
  pub end : spot.index ≡ length d.slots
  pub room : d.size + 16 ≤ size_limit
  pub lays : (slot : Slot) → LaysOut image (record { directory = spot.directory.ino; index = spot.index; sector = spot.sector; slot = slot }) longer target new
  pub apart : (p : Place) → target p ≢ block
