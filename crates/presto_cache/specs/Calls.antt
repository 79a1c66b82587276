-- What the calls of a cache answer. `r` is what the rig's type tells, as `R.Rig` in a clause.
use Rattle.std.specs.Prelude.{◌≡◌, ◌<◌, ◌↔◌, ℕ, true, false, List, set, get_or, Option, None, Result, IfSome, OnOk, OnErr, IsOk}
use Rattle.stable.specs.Counts.{Rose, HasCause}
use Rattle.rig.specs.declared.rig.Rig.{Ghosts}
use Rattle.nvram_map.specs.Overlay.{overlay, entries}
use Rattle.presto_cache.specs.Slots.{MayBeRead, at, is_dirty, sector_of, spelled, clear_failed, place_in}
use Rattle.presto_cache.specs.Stores.{on_disk_at}
use Rattle.presto_cache.specs.Cache.{slots_of, Same, Becomes, IsKept, IsKeptInDoubt}
use Rattle.presto_cache.specs.declared.slot.Slot.TheVariants.{Free}
use Rattle.presto_cache.specs.declared.cache.Cache.{Cache}
use Rattle.presto_cache.specs.declared.cache.Keep.{Keep}
use Rattle.presto_cache.specs.declared.cache.Keep.TheVariants.{Kept, Full, Failed}

-- Kept: the sector has an entry, and its bytes are new.
pub record KeptIt {R : Type 0} (r : Ghosts R) (sector : ℕ) (bytes : List ℕ) (was now : R) (old new : Cache) : Type 0 where
  pub cache : IsKept sector old new
  pub image : r.tells → overlay (r.contents now) ≡ set (overlay (r.contents was)) sector bytes

-- Full: nothing was done.
pub record DidNothing {R : Type 0} (was now : R) (old new : Cache) : Type 0 where
  pub same : Same old new
  pub rig : now ≡ was

-- Failed: a device failed, and the sector's entry is as it was, or in doubt.
pub record FailedToKeep {R : Type 0} (r : Ghosts R) (sector : ℕ) (was now : R) (old new : Cache) : Type 0 where
  pub cache : IsKeptInDoubt sector old new
  pub cause : Rose (r.faults was) (r.faults now)

-- what each answer of `keep` says
abbrev pub KeepSays : {R : Type 0} → Ghosts R → ℕ → List ℕ → R → R → Cache → Cache → Keep → Type 0
KeepSays r sector bytes was now old new Kept = KeptIt r sector bytes was now old new
KeepSays r sector bytes was now old new Full = DidNothing was now old new
KeepSays r sector bytes was now old new Failed = FailedToKeep r sector was now old new

-- and Full comes exactly where the sector has no entry and none is free; the disk is as before
pub record KeepAnswers {R : Type 0} (r : Ghosts R) (sector : ℕ) (bytes : List ℕ) (was now : R) (old new : Cache) (result : Keep) : Type 0 where
  pub says : KeepSays r sector bytes was now old new result
  pub full : (result ≡ Full) ↔ (place_in (slots_of old) sector ≡ None)
  pub disk : r.tells → (r.contents now).disk ≡ (r.contents was).disk

-- What `drop_entry` answers: the entry is free, and its sector the disk's; after an error it is in doubt. Of a free entry nothing is done.
pub record DropAnswers {R T E : Type 0} (r : Ghosts R) (index : ℕ) (was now : R) (old new : Cache) (result : Result T E) : Type 0 where
  pub done : OnOk result (Becomes index Free old new)
  pub failed : OnErr result (Becomes index (clear_failed (at (slots_of old) index)) old new)
  pub free : is_dirty (at (slots_of old) index) ≡ false → IsOk result
  pub free_rig : is_dirty (at (slots_of old) index) ≡ false → now ≡ was
  pub image : r.tells → is_dirty (at (slots_of old) index) ≡ true → OnOk result (overlay (r.contents now) ≡ set (overlay (r.contents was)) (sector_of (at (slots_of old) index)) (on_disk_at (slots_of old) index (r.contents was)))
  pub cause : HasCause (r.faults was) (r.faults now) result
  pub disk : r.tells → (r.contents now).disk ≡ (r.contents was).disk

-- What the buffer is that was read of an entry: one that it may have, and of the board; and where the word is told, the word's.
pub record IsBufferAt {R : Type 0} (r : Ghosts R) (rig : R) (cache : Cache) (index : ℕ) (held : Option ℕ) : Type 0 where
  pub reads : MayBeRead (at (slots_of cache) index) held
  pub in_range : IfSome held (λ buffer. buffer < (r.sizes rig).buffers)
  pub word : r.tells → get_or (entries (r.contents rig)) index 0 ≡ spelled (sector_of (at (slots_of cache) index)) held
