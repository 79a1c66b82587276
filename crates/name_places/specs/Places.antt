-- Where a name stands in a directory, or where a new entry of it comes.
use Rattle.std.specs.Prelude.{◌≡◌, ◌<◌, ◌≤◌, ℕ, ◌==◌, true, List, length, Some, None, not}
use Rattle.std.specs.List.{position}
use Rattle.files_model.specs.declared.attributes.FileId.{FileId}
use Rattle.files_model.specs.Files.{Node}
use Rattle.files_model.specs.Names.{has_name, number_at, place_for}
use Rattle.plan_name.specs.declared.making.Spot.{Spot}
use Rattle.stable.specs.Store.{Image}
use Rattle.v7_entries.specs.declared.named.NamedSlot.{NamedSlot}
use Rattle.v7_map.specs.Image.{inode_at, is_inode}
use Rattle.v7_strokes.specs.Entries.{entry_sector}
use Rattle.name_places.specs.declared.place.NamePlace.{NamePlace}
use Rattle.name_places.specs.declared.place.NamePlace.TheVariants as place

-- The first slot of the name in directory p, the inode in use that it names, and the sector where it stands.
pub record IsTakenBy (image : Image) (p : ℕ) (name : List ℕ) (d : Node) (slot : NamedSlot) : Type 0 where
  pub first : position (has_name name) d.slots ≡ Some slot.slot
  pub number : number_at d.slots slot.slot ≡ slot.ino
  pub sector : slot.sector ≡ entry_sector image p slot.slot
  pub inode : is_inode image slot.ino ≡ true
  pub used : not ((inode_at image slot.ino).mode == 0) ≡ true

-- The name is free, and this is the first empty slot of the directory.
pub record IsFreeAt (image : Image) (dir : FileId) (name : List ℕ) (d : Node) (spot : Spot) : Type 0 where
  pub absent : position (has_name name) d.slots ≡ None
  pub directory : spot.directory ≡ dir
  pub place : spot.index ≡ place_for d.slots
  pub inside : place_for d.slots < length d.slots
  pub sector : spot.sector ≡ entry_sector image dir.ino spot.index

-- The name is free, and no slot of the directory is empty.
pub record IsFreeAtEnd (name : List ℕ) (d : Node) : Type 0 where
  pub absent : position (has_name name) d.slots ≡ None
  pub full : length d.slots ≤ place_for d.slots

-- where the name stands in d, the directory of this handle, or where a new entry of it comes
abbrev pub IsNamePlace : Image → FileId → List ℕ → Node → NamePlace → Type 0
IsNamePlace image dir name d (place.Taken slot) = IsTakenBy image dir.ino name d slot
IsNamePlace image dir name d (place.Empty spot) = IsFreeAt image dir name d spot
IsNamePlace image dir name d place.End = IsFreeAtEnd name d

-- the slot stands past the super-block, within so many sectors
abbrev pub PlaceWithin : ℕ → NamePlace → Type 0
PlaceWithin sectors (place.Taken slot) = (2 ≤ slot.sector) × (slot.sector < sectors)
PlaceWithin sectors (place.Empty spot) = (2 ≤ spot.sector) × (spot.sector < sectors)
PlaceWithin sectors place.End = Unit {0}
