-- What is known of a board's entries once it was read.
use Rattle.std.specs.Prelude.{◌≡◌, ◌-◌, ◌^◌, ◌≤◌, ℕ, length, if◌then◌else◌, nat_eq, List, [], ◌∷◌}
use Rattle.rig.specs.Devices.{Devices, Sizes}
use Rattle.nvram_map.specs.Boards.{entries_from}
use Rattle.nvram_map.specs.Overlay.{entries}
use Rattle.nvram_map.specs.Words.{AreEntries}
use Rattle.nvram_map.specs.declared.board.BoardEntry.{BoardEntry}
use Rattle.presto_cache.specs.Slots.{at}
use Rattle.presto_cache.specs.declared.slot.Slot.{Slot}
use Rattle.presto_cache.specs.declared.slot.Slot.TheVariants.{Free, Set}

-- the entry with this index is set, where the board has one
abbrev pub slot_from : List BoardEntry → ℕ → Slot
slot_from [] index = Free
slot_from (e ∷ es) index = if nat_eq e.index index then Set e.sector e.buffer else slot_from es index

-- each entry of the board is set, and the others are free
abbrev pub IsMadeOf : List BoardEntry → List Slot → Type 0
IsMadeOf board slots = (index : ℕ) → at slots index ≡ slot_from board index

-- the entries are those that the words of these devices have, as of a board of these sizes
pub record AreReadFrom (sizes : Sizes) (board : List BoardEntry) (d : Devices) : Type 0 where
  pub words : length d.words - 2 ≡ sizes.buffers - 1
  pub sectors : sizes.sectors ≤ 2 ^ 32
  pub entries_are : AreEntries sizes (entries d)
  pub read : board ≡ entries_from 0 (entries d)
