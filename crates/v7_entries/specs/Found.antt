-- What is found in a directory.
use Rattle.std.specs.Prelude.{◌≡◌, ◌/◌, ℕ, List, drop, Option, Some, None, Bool}
use Rattle.std.specs.List.{position, list_any}
use Rattle.std.specs.Option.{is_none, is_some}
use Rattle.v7_layout.specs.declared.inode.Inode.{Inode}
use Rattle.files_model.specs.Names.{has_name, number_at}
use Rattle.stable.specs.Store.{Image}
use Rattle.v7_entries.specs.Bodies.{slots_at, block_at}
use Rattle.v7_entries.specs.declared.empty.EmptySlot.{EmptySlot}
use Rattle.v7_entries.specs.declared.named.NamedSlot.{NamedSlot}

-- the first slot of this name, the i-number in it, and the sector where it stands
pub record IsNamedSlot (image : Image) (n : Inode) (name : List ℕ) (found : NamedSlot) : Type 0 where
  pub first : position (has_name name) (slots_at image n) ≡ Some found.slot
  pub number : found.ino ≡ number_at (slots_at image n) found.slot
  pub sector : found.sector ≡ block_at image n (found.slot / 32)

-- the first slot of a name, or none has it
abbrev pub FindsName : Image → Inode → List ℕ → Option NamedSlot → Type 0
FindsName image n name None = position (has_name name) (slots_at image n) ≡ None
FindsName image n name (Some found) = IsNamedSlot image n name found

-- the first empty slot, and the sector where it stands
pub record IsEmptySlot (image : Image) (n : Inode) (found : EmptySlot) : Type 0 where
  pub first : position is_none (slots_at image n) ≡ Some found.slot
  pub sector : found.sector ≡ block_at image n (found.slot / 32)

-- the first empty slot, or none is empty
abbrev pub FindsEmpty : Image → Inode → Option EmptySlot → Type 0
FindsEmpty image n None = position is_none (slots_at image n) ≡ None
FindsEmpty image n (Some found) = IsEmptySlot image n found

-- a slot past the first two isn't empty
abbrev pub any_entry : Image → Inode → Bool
any_entry image n = list_any is_some (drop 2 (slots_at image n))
