-- Storing one entry.
use Rattle.std.specs.Prelude.{◌≡◌, ◌^◌, ◌<◌, ℕ, List, [], get_or, set, Result, OnOk, OnErr, IfErr}
use Rattle.rig.specs.Devices.{Devices, Sizes}
use Rattle.nvram_map.specs.Overlay.{overlay}
use Rattle.presto_cache.specs.Slots.{IsPlace, IsUnused, at, sector_of, clear_failed}
use Rattle.presto_cache.specs.Board.{IsOf}
use Rattle.presto_cache.specs.declared.slot.Slot.{Slot}
use Rattle.presto_cache.specs.declared.slot.Slot.TheVariants.{Free, Set}

-- the sector's bytes may go into that buffer, and the entry may name both
pub record IsFill (sizes : Sizes) (slots : List Slot) (index sector buffer : ℕ) : Type 0 where
  pub place : IsPlace slots index sector
  pub unused : IsUnused slots buffer
  pub on_board : buffer < sizes.buffers
  pub on_disk : sector < sizes.sectors
  pub small : sector < 2 ^ 32

-- What is there after a fill: the entry names the buffer, and the sector is new; after an error the entry is as the answer says. The disk is as before.
pub record IsFilled {T : Type 0} (slots : List Slot) (index sector buffer : ℕ) (bytes : List ℕ) (old new : Devices) (result : Result T Slot) : Type 0 where
  pub done : OnOk result (IsOf (set slots index (Set sector buffer)) new)
  pub failed : IfErr result (λ slot. IsOf (set slots index slot) new)
  pub image : OnOk result (overlay new ≡ set (overlay old) sector bytes)
  pub disk : new.disk ≡ old.disk

-- the bytes that the disk has of an entry's sector
abbrev pub on_disk_at : List Slot → ℕ → Devices → List ℕ
on_disk_at slots index d = get_or d.disk (sector_of (at slots index)) []

-- What is there after a clearing: the entry is free, and its sector the disk's; after an error it is in doubt. The disk is as before.
pub record IsCleared {T E : Type 0} (slots : List Slot) (index : ℕ) (old new : Devices) (result : Result T E) : Type 0 where
  pub done : OnOk result (IsOf (set slots index Free) new)
  pub failed : OnErr result (IsOf (set slots index (clear_failed (at slots index))) new)
  pub image : OnOk result (overlay new ≡ set (overlay old) (sector_of (at slots index)) (on_disk_at slots index old))
  pub disk : new.disk ≡ old.disk
