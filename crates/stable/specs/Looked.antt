-- What a call leaves of a store. `s` is what the store's type tells, as `S.Stable` in a clause.
use Rattle.std.specs.Prelude.{◌≡◌, ◌≤◌, ℕ, List, set, Result, OnOk}
use Rattle.stable.specs.Counts.{HasCause}
use Rattle.stable.specs.Moments.{LeavesOnly}
use Rattle.stable.specs.States.{ArePuts}
use Rattle.stable.specs.Store.{Same, SectorPut, KeepsName, StaysOpenable}
use Rattle.stable.specs.declared.store.Stable.{Ghosts}

-- A call that only looks: nothing that a store tells of itself has changed, at any moment, but for faults that were counted.
pub record Looked {S : Type 0} (s : Ghosts S) (old new : S) : Type 0 where
  pub image : s.image new ≡ s.image old
  pub crash : LeavesOnly s.moment s.left_since old new (Same (s.image old))
  pub opens : StaysOpenable s.opens_since s.moment old new
  pub later : s.faults old ≤ s.faults new
  pub sectors : s.sector_count new ≡ s.sector_count old
  pub snapshot : s.snapshot_of new ≡ s.snapshot_of old

-- No sector has changed, at any moment; the state and the counts may have.
pub record KeepsImage {S : Type 0} (s : Ghosts S) (old new : S) : Type 0 where
  pub image : s.tells → s.image new ≡ s.image old
  pub crash : LeavesOnly s.moment s.left_since old new (Same (s.image old))
  pub opens : StaysOpenable s.opens_since s.moment old new
  pub later : s.faults old ≤ s.faults new
  pub sectors : s.sector_count new ≡ s.sector_count old

-- Nothing that a store tells of itself has changed, nor has time gone on.
pub record Untouched {S : Type 0} (s : Ghosts S) (old new : S) : Type 0 where
  pub image : s.image new ≡ s.image old
  pub crash : LeavesOnly s.moment s.left_since old new (Same (s.image old))
  pub opens : StaysOpenable s.opens_since s.moment old new
  pub moment : s.moment new ≡ s.moment old
  pub faults : s.faults new ≡ s.faults old
  pub sectors : s.sector_count new ≡ s.sector_count old
  pub snapshot : s.snapshot_of new ≡ s.snapshot_of old

-- A sector was put, as each store promises it: after Ok it is new; at each moment, and after a failure, it is old or new. It is what `Stable::put` says, for stores that say more.
pub record IsPut {S T E : Type 0} (s : Ghosts S) (sector : ℕ) (bytes : List ℕ) (old new : S) (result : Result T E) : Type 0 where
  pub done : s.tells → OnOk result (s.image new ≡ set (s.image old) sector bytes)
  pub crash : LeavesOnly s.moment s.left_since old new (SectorPut sector bytes (s.image old))
  pub opens : KeepsName sector bytes (s.image old) → StaysOpenable s.opens_since s.moment old new
  pub cause : HasCause (s.faults old) (s.faults new) result
  pub sectors : s.sector_count new ≡ s.sector_count old
  pub snapshot : ArePuts 1 (s.faults old) (s.faults new) (s.snapshot_of old) (s.snapshot_of new)
