-- The slots of a RENAME.
use Rattle.std.specs.Prelude.{◌≡◌, ◌<◌, ◌≤◌, ℕ, List, [], ◌∷◌, set, None}
use Rattle.stable.specs.Store.{Image}
use Rattle.v7_map.specs.Image.{sector_at, inode_sector}
use Rattle.v7_strokes.specs.Merged.{merged}
use Rattle.v7_strokes.specs.Over.{slot_from}
use Rattle.v7_strokes.specs.Slots.{PutsSlot}
use Rattle.rename_puts.specs.declared.slots.Moved.{Moved}
use Rattle.rename_puts.specs.declared.slots.SlotPlace.{SlotPlace}

-- the slot's sector and its directory's inode are among so many sectors, and the slot's is past the super-block
pub record PlaceWithin (sectors : ℕ) (place : SlotPlace) : Type 0 where
  pub past : 2 ≤ place.sector
  pub slot : place.sector < sectors
  pub directory : inode_sector place.directory < sectors

-- so are both
pub record MovedWithin (sectors : ℕ) (moved : Moved) : Type 0 where
  pub old : PlaceWithin sectors moved.old
  pub new : PlaceWithin sectors moved.new

-- The new slot gets its content, and then the old slot is emptied, which is one put where both stand in one sector.
pub record PutsMoved (image : Image) (moved : Moved) (puts : List (ℕ × List ℕ)) : Type 0 where
  pub new_bytes : List ℕ
  pub old_bytes : List ℕ
  pub new : PutsSlot (sector_at image moved.new.sector) moved.new.index new_bytes (slot_from moved.slot)
  pub old : PutsSlot (sector_at (set image moved.new.sector new_bytes) moved.old.sector) moved.old.index old_bytes None
  pub all : puts ≡ merged ((moved.new.sector, new_bytes) ∷ (moved.old.sector, old_bytes) ∷ [])
