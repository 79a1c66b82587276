-- What a builder is told of a new link.
use Rattle.std.specs.Prelude.{◌≡◌, ◌<◌, ℕ, ◌+◌, true, false, List, length, get_or, Some}
use Rattle.std.specs.Option.{unwrap_or}
use Rattle.std.specs.FinMap.{get}
use Rattle.files_model.specs.declared.attributes.FileId.{FileId}
use Rattle.files_model.specs.declared.attributes.Sattr.{Sattr}
use Rattle.files_model.specs.declared.credential.Cred.{Cred}
use Rattle.files_model.specs.Among.{is_among}
use Rattle.files_model.specs.Files.{Node}
use Rattle.files_model.specs.NameRows.{new_link}
use Rattle.files_model.specs.Names.{place_for}
use Rattle.longer_plans.specs.SymlinkPuts.{AreTextBlocks, IsSymlink, held_inode}
use Rattle.stable.specs.Store.{Image}
use Rattle.v7_layout.specs.declared.inode.Inode.{Inode}
use Rattle.v7_layout.specs.declared.slot.Slot.{Slot}
use Rattle.v7_map.specs.Frame.{Place}
use Rattle.v7_map.specs.View.{view}
use Rattle.v7_strokes.specs.Entries.{entry_sector}
use Rattle.v7_strokes.specs.Over.{slot_from}
use Rattle.plan_name.specs.Creating.{LaysOut}
use Rattle.plan_name.specs.declared.creating_puts.Entry.{Entry}
use Rattle.plan_name.specs.declared.creating_puts.Longer.{Longer}

-- SYMLINK makes a new link at i-number i, whose text may stand in these blocks.
pub record MayLink (image : Image) (dir : FileId) (name text : List ℕ) (wanted : Sattr) (cred : Cred) (now : ℕ) (d : Node) (i : ℕ) (held : List ℕ) : Type 0 where
  pub symlink : IsSymlink (view image) dir name text wanted cred now d i
  pub blocks_are : AreTextBlocks image text held

-- It makes it as this inode, by this entry.
pub record MakesLink (image : Image) (dir : FileId) (name text : List ℕ) (wanted : Sattr) (cred : Cred) (now : ℕ) (d : Node) (i : ℕ) (held : List ℕ) (inode : Inode) (entry : Entry) : Type 0 where
  pub may : MayLink image dir name text wanted cred now d i held
  pub inode_is : inode ≡ held_inode (new_link wanted cred text now) (unwrap_or (get (view image).generations i) 0 + 1) held
  pub directory : entry.directory ≡ dir.ino
  pub place : entry.index ≡ place_for d.slots
  pub slot : slot_from entry.slot ≡ Some (i, name)

-- Slot `index` of directory p is an empty one, its first, which stands in this sector.
pub record IsEmptyAt (image : Image) (p index sector : ℕ) (d : Node) : Type 0 where
  pub place : index ≡ place_for d.slots
  pub inside : index < length d.slots
  pub stands : sector ≡ entry_sector image p index

-- these blocks are others than those
abbrev pub AreOthers : List ℕ → List ℕ → Type 0
AreOthers new held = (a : ℕ) → is_among a new ≡ true → is_among a held ≡ false

-- Slot `index` of directory p, which comes at its end, stands in this sector, and the directory's blocks are to stand at these places, of which these are new, and others than those of the text.
pub record IsNextAt (image : Image) (p index sector : ℕ) (longer : Longer) (d : Node) (target : Place → ℕ) (new held : List ℕ) : Type 0 where
  pub place : index ≡ place_for d.slots
  pub end : index ≡ length d.slots
  pub lays : (slot : Slot) → LaysOut image (record { directory = p; index = index; sector = sector; slot = slot }) longer target new
  pub others : AreOthers new held
