-- What a put makes of a unit's parts, beside what each store promises of it.
use Rattle.std.specs.Prelude.{◌≡◌, ◌≢◌, ◌≤◌, ◌+◌, ℕ, List, [], get_or, set, length, None, Result, IsOk, IsSome, OnOk}
use Rattle.stable.specs.Counts.{Rose}
use Rattle.stable.specs.declared.state.Cause.{Cause}
use Rattle.stable.specs.declared.state.State.{State}
use Rattle.stable.specs.declared.state.State.TheVariants.{Up}
use Rattle.rig.specs.declared.rig.Rig.{Ghosts}
use Rattle.nvram_map.specs.Overlay.{overlay}
use Rattle.presto_cache.specs.Cache.{slots_of, entries_of, Becomes, Knows}
use Rattle.presto_cache.specs.Slots.{NoDoubt, at, find_in, place_in, sector_of}
use Rattle.presto_cache.specs.declared.slot.Slot.TheVariants.{Free}
use Rattle.presto_cache.specs.declared.cache.Cache.{Cache}
use Rattle.presto_unit.specs.Disk.{PutsOneMakingRoom}
use Rattle.presto_unit.specs.Flushing.{AddsNone, HasDevice, IsPutOnBoard, oldest_sector}

-- The sector is new in the overlay, and stands on the board; no entry is in doubt.
pub record StandsOnBoard {R : Type 0} (r : Ghosts R) (sector : ℕ) (bytes : List ℕ) (old new : R) (was is : Cache) : Type 0 where
  pub put : IsPutOnBoard sector was is
  pub stands : IsSome (find_in (slots_of is) sector)
  pub sure : NoDoubt (slots_of is)
  pub image : r.tells → overlay (r.contents new) ≡ set (overlay (r.contents old)) sector bytes

-- A sector was kept in UP, or a device failed; what is known stays known, and one entry is added at most.
pub record KeptUp {T R : Type 0} (r : Ghosts R) (sector : ℕ) (bytes : List ℕ) (old new : R) (was is : Cache) (result : Result T Cause) : Type 0 where
  pub knows : Knows r new is
  pub done : OnOk result (StandsOnBoard r sector bytes old new was is)
  pub few : length (entries_of is) ≤ length (entries_of was) + 1
  pub device : HasDevice (r.faults old) (r.faults new) result

-- The sector is new in the overlay, and stands on the disk; no entry of it is left.
pub record StandsOnDisk {R : Type 0} (r : Ghosts R) (sector : ℕ) (bytes : List ℕ) (old new : R) (is : Cache) : Type 0 where
  pub stands : r.tells → get_or (r.contents new).disk sector [] ≡ bytes
  pub free : find_in (slots_of is) sector ≡ None
  pub image : r.tells → overlay (r.contents new) ≡ set (overlay (r.contents old)) sector bytes

-- An entry was cleared: its sector is that of the disk.
pub record IsCleared {R : Type 0} (r : Ghosts R) (index : ℕ) (old new : R) (was is : Cache) : Type 0 where
  pub became : Becomes index Free was is
  pub image : r.tells → overlay (r.contents new) ≡ set (overlay (r.contents old)) (sector_of (at (slots_of was) index)) (get_or (r.contents old).disk (sector_of (at (slots_of was) index)) [])

-- A put by state: in UP it stays on the board, and else it goes past it. `from` and `to` are the states before and after, `was` and `is` the entries.
pub record PutsByState {T E R : Type 0} (r : Ghosts R) (sector : ℕ) (bytes : List ℕ) (from to : State) (was is : Cache) (old new : R) (result : Result T E) : Type 0 where
  -- in UP it is kept on the board, in room made by the oldest entry where there is none
  pub up : from ≡ Up → to ≡ Up → IsPutOnBoard sector was is
  -- and where there is room no sector of the disk is written
  pub quiet : from ≡ Up → to ≡ Up → place_in (slots_of was) sector ≢ None → r.disk_writes new ≡ r.disk_writes old
  -- UP is left only where a device failed
  pub stays : from ≡ Up → (Rose (r.faults old) (r.faults new) → ⊥) → (to ≡ Up) × IsOk result
  -- Ok outside UP says that it stands on the disk, and that no entry of it is left
  pub past : to ≢ Up → OnOk result (StandsOnDisk r sector bytes old new is)
  -- outside UP no entry is added
  pub adds : from ≢ Up → AddsNone was is
  -- at each moment no sector of the disk has changed but this one, and in UP that of the oldest entry
  pub crash : PutsOneMakingRoom r sector (oldest_sector (entries_of was)) bytes old new
  pub only : from ≢ Up → PutsOneMakingRoom r sector sector bytes old new
