-- What is kept of inodes, and what is read of a directory.
use Rattle.std.specs.Prelude.{◌≡◌, ◌≢◌, ℕ, ◌+◌, ◌*◌, ◌/◌, ◌%◌, List, map, get_or, nat_lt, if◌then◌else◌}
use Rattle.std.specs.List.{range_with_len}
use Rattle.stable.specs.Store.{Image}
use Rattle.v7_layout.specs.declared.slot.Slot.{Slot}
use Rattle.v7_layout.specs.Numbers.{part}
use Rattle.v7_layout.specs.Records.{slot_of_bytes}
use Rattle.v7_map.specs.Image.{sector_at}
use Rattle.v7_damage.specs.declared.reader.InodeReader.{InodeReader}

-- what a reader keeps is a sector of the image
pub record Keeps (image : Image) (reader : InodeReader) : Type 0 where
  pub kept : reader.sector ≢ 0 → reader.bytes ≡ sector_at image reader.sector

-- the place of sector k of a body
abbrev pub place_of_body : ℕ → ℕ
place_of_body k = if nat_lt k 10 then k else k + 1

-- the block of sector k of a body whose blocks stand at these places
abbrev pub body_at : List ℕ → ℕ → ℕ
body_at places k = get_or places (place_of_body k) 0

-- ---- the slots of a directory

-- slot j of a sector
abbrev pub slot_in_sector : List ℕ → ℕ → Slot
slot_in_sector bytes j = slot_of_bytes (part bytes (16 * j) 16)

-- slot k of a directory whose sectors stand at these blocks
abbrev pub slot_in_body : Image → (ℕ → ℕ) → ℕ → Slot
slot_in_body image at k = slot_in_sector (sector_at image (at (k / 32))) (k % 32)

-- its first slots
unfoldable pub body_slots : Image → (ℕ → ℕ) → ℕ → List Slot
body_slots image at count = map (slot_in_body image at) (range_with_len 0 count)
