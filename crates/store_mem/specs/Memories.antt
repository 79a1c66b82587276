-- A store in memory, and what a put makes of it.
use Rattle.std.specs.Prelude.{◌≡◌, ◌≢◌, ℕ, ◌+◌, ◌%◌, ◌^◌, List, set, replicate, get_or, min, nat_lt, if◌then◌else◌, None, Result, Ok, Err}
use Rattle.stable.specs.Counts.{one_more}
use Rattle.stable.specs.Store.{Image}
use Rattle.stable.specs.declared.battery.Battery.TheVariants.{Low}
use Rattle.stable.specs.declared.failure.Failed.{Failed}
use Rattle.store_mem.specs.declared.memory.Memory.{Memory}

-- A store of these sectors on which no call was made.
pub record IsNew (sectors : Image) (store : Memory) : Type 0 where
  pub holds : store.sectors.items ≡ sectors
  pub order : store.order ≡ replicate 8 0
  pub puts : store.puts ≡ 0
  pub reads : store.reads ≡ replicate 64 0
  pub polls : store.polls ≡ 0
  pub ups : store.ups ≡ 0
  pub faults : store.faults ≡ 0
  pub failing : store.failing ≡ 0
  pub battery : store.battery ≡ Low
  pub stop : store.stop ≡ None

-- One more read of a sector is counted, where it is one of the first 64, and nothing else changes.
pub record IsReadAt (sector : ℕ) (old new : Memory) : Type 0 where
  pub reads : new.reads ≡ (if nat_lt sector 64 then set old.reads sector (min (get_or old.reads sector 0 + 1) 4294967295) else old.reads)
  pub rest : new ≡ record old { reads = new.reads }

-- One more put was asked for; it is one of the first eight, or comes after them.
pub record IsCounted (sector : ℕ) (old new : Memory) : Type 0 where
  pub puts : new.puts ≡ (old.puts + 1) % 2 ^ 64
  pub order : new.order ≡ (if nat_lt old.puts 8 then set old.order old.puts sector else old.order)
  pub failing : new.failing ≡ old.failing
  pub reads : new.reads ≡ old.reads
  pub polls : new.polls ≡ old.polls
  pub ups : new.ups ≡ old.ups

-- A put that isn't the one to fail changes its sector.
pub record IsDone (sector : ℕ) (bytes : List ℕ) (old new : Memory) : Type 0 where
  pub other : new.puts ≢ old.failing
  pub holds : new.sectors.items ≡ set old.sectors.items sector bytes
  pub faults : new.faults ≡ old.faults

-- The one that is to fail counts a fault, and leaves each sector old.
pub record IsFailed (old new : Memory) : Type 0 where
  pub here : new.puts ≡ old.failing
  pub holds : new.sectors.items ≡ old.sectors.items
  pub faults : new.faults ≡ one_more old.faults

-- what a put leaves, by its answer
abbrev pub Leaves : ℕ → List ℕ → Memory → Memory → Result (Unit {0}) Failed → Type 0
Leaves sector bytes old new (Ok done) = IsDone sector bytes old new
Leaves sector bytes old new (Err failed) = IsFailed old new
