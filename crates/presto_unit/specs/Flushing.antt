-- What a flush makes of the entries, and what puts leave of them.
use Rattle.std.specs.Prelude.{◌≡◌, ◌≢◌, ◌⊎◌, ◌<◌, ◌≤◌, ℕ, List, [], ◌∷◌, ◌++◌, true, false, None, Some, length, drop, set, Option, Result, Ok, Err, IsSome, IfSome, IfErr}
use Rattle.stable.specs.Counts.{Rose, RoseBy}
use Rattle.stable.specs.States.{IsDeviceError}
use Rattle.stable.specs.declared.state.Cause.{Cause}
use Rattle.stable.specs.declared.state.State.TheVariants.{Error}
use Rattle.presto_cache.specs.Cache.{slots_of, entries_of, Becomes, Same, IsKept}
use Rattle.presto_cache.specs.Entries.{Entry, entry_in, oldest_in}
use Rattle.presto_cache.specs.Slots.{at, is_dirty, sector_of, clear_failed, place_in}
use Rattle.presto_cache.specs.declared.slot.Slot.{Slot}
use Rattle.presto_cache.specs.declared.slot.Slot.TheVariants.{Free}
use Rattle.presto_cache.specs.declared.cache.Cache.{Cache}

-- a device failed, and not the battery
abbrev pub IsDeviceCause : Cause → Type 0
IsDeviceCause why = IsDeviceError (Error why)

-- A call failed only where the count of faults rose, and says which device failed.
pub record HasDevice {T : Type 0} (before now : ℕ) (result : Result T Cause) : Type 0 where
  pub later : before ≤ now
  pub failed : IfErr result (λ why. IsDeviceCause why × Rose before now)

-- a dirty entry
pub record IsDirtyAt (slots : List Slot) (index : ℕ) : Type 0 where
  pub within : index < length slots
  pub dirty : is_dirty (at slots index) ≡ true

-- No entry is added, nor one of another sector in its place.
pub record AddsNone (old new : Cache) : Type 0 where
  pub dirty : (i : ℕ) → is_dirty (at (slots_of new) i) ≡ true → is_dirty (at (slots_of old) i) ≡ true
  pub sector : (i : ℕ) → is_dirty (at (slots_of new) i) ≡ true → sector_of (at (slots_of new) i) ≡ sector_of (at (slots_of old) i)
  pub count : length (entries_of new) ≤ length (entries_of old)

-- no entry is set or in doubt
abbrev pub NoDirty : List Slot → Type 0
NoDirty slots = (i : ℕ) → is_dirty (at slots i) ≡ false

-- the sector of the oldest entry
abbrev pub oldest_sector : List Entry → ℕ
oldest_sector [] = 0
oldest_sector (e ∷ es) = sector_of e.slot

-- an entry was written and cleared: it is free; or it is as it was, or in doubt
abbrev pub IsWrittenOut : {T E : Type 0} → ℕ → Result T E → Cache → Cache → Type 0
IsWrittenOut index (Ok x) old new = Becomes index Free old new
IsWrittenOut index (Err e) old new = Same old new ⊎ Becomes index (clear_failed (at (slots_of old) index)) old new

-- The oldest entry, which has this index, is free.
pub record IsSent (index : ℕ) (old new : Cache) : Type 0 where
  pub slots : slots_of new ≡ set (slots_of old) index Free
  pub entries : entries_of new ≡ drop 1 (entries_of old)

-- It is the youngest, as it was or in doubt.
pub record IsStuck (index : ℕ) (old new : Cache) : Type 0 where
  pub slots : (slots_of new ≡ slots_of old) ⊎ (slots_of new ≡ set (slots_of old) index (clear_failed (at (slots_of old) index)))
  pub entries : entries_of new ≡ drop 1 (entries_of old) ++ entry_in (slots_of new) index ∷ []

-- the oldest entry was tried
abbrev pub IsTried : {T E : Type 0} → ℕ → Result T E → Cache → Cache → Type 0
IsTried index (Ok x) old new = IsSent index old new
IsTried index (Err e) old new = IsStuck index old new

-- an entry that failed: it is of the same index, as it was or in doubt
pub record IsStill (old new : Entry) : Type 0 where
  pub index : new.index ≡ old.index
  pub slot : (new.slot ≡ old.slot) ⊎ (new.slot ≡ clear_failed old.slot)

-- each entry was tried once, in order: those that failed are left, in order
abbrev pub AreTried : List Entry → List Entry → Type 0
AreTried [] left = left ≡ []
AreTried (e ∷ es) left = AreTried es left ⊎ ((f : Entry) × (rest : List Entry) × (left ≡ f ∷ rest) × IsStill e f × AreTried es rest)

-- The first of some entries was tried: it is gone, or it failed and is last. `first` and `result` are the causes of the first failure before and after.
pub record IsStuckNext (result : Option Cause) (before now : ℕ) (old new : List Entry) : Type 0 where
  pub some : IsSome result
  pub rose : Rose before now
  pub oldest : Entry
  pub first : old ≡ oldest ∷ drop 1 old
  pub failed : Entry
  pub last : new ≡ drop 1 old ++ failed ∷ []
  pub still : IsStill oldest failed

pub record IsTriedNext (first result : Option Cause) (before now : ℕ) (old new : List Entry) : Type 0 where
  pub later : before ≤ now
  pub device : IfSome result IsDeviceCause
  pub fate : ((result ≡ first) × (new ≡ drop 1 old)) ⊎ IsStuckNext result before now old new

-- All entries were tried, with the cause of the first failure. The entries and the counts of faults are those before and after.
pub record AreFlushed (first : Option Cause) (before now : ℕ) (old new : List Entry) : Type 0 where
  pub tried : AreTried old new
  pub none : first ≡ None → length new ≡ 0
  pub some : IsSome first → 1 ≤ length new
  pub device : IfSome first IsDeviceCause
  pub rose : RoseBy (length new) before now
  pub later : before ≤ now

-- Room was made for a sector: the oldest entry is gone, and the sector has the entry that is free then.
pub record RoomMade (sector : ℕ) (old new : Cache) : Type 0 where
  pub index : ℕ
  pub mid : Cache
  pub oldest : oldest_in (entries_of old) ≡ Some index
  pub sent : IsSent index old mid
  pub kept : IsKept sector mid new

-- A sector was put on the board: in its own entry or a free one, or in the room of the oldest.
pub record IsPutOnBoard (sector : ℕ) (old new : Cache) : Type 0 where
  pub kept : place_in (slots_of old) sector ≢ None → IsKept sector old new
  pub full : place_in (slots_of old) sector ≡ None → RoomMade sector old new
