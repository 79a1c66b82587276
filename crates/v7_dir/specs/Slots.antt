-- The slots that stand in a directory's bytes (docs/FORMATS.md, directory slot).
use Rattle.std.specs.Prelude.{ℕ, ◌*◌, ◌/◌, List, length, map}
use Rattle.std.specs.List.{range_with_len}
use Rattle.files_model.specs.Files.{Slot}
use Rattle.v7_layout.specs.Numbers.{part}
use Rattle.v7_map.specs.Frame.{slot_of}

-- slot k of a directory's bytes
abbrev pub slot_in : List ℕ → ℕ → Slot
slot_in bytes k = slot_of (part bytes (16 * k) 16)

-- the slots of a directory's bytes, one after the other; a rest of fewer than 16 bytes is none
unfoldable pub slots_in : List ℕ → List Slot
slots_in bytes = map (slot_in bytes) (range_with_len 0 (length bytes / 16))
