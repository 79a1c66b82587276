-- Puts of a run that are counted. `s` is what the store's type tells.
use Rattle.std.specs.Prelude.{◌≡◌, ◌≤◌, ℕ, Result, IfOk, OnErr}
use Rattle.stable.specs.Counts.{Rose}
use Rattle.stable.specs.Moments.{LeavesOnly}
use Rattle.stable.specs.States.{ArePuts}
use Rattle.stable.specs.Store.{Image, StaysOpenable}
use Rattle.stable.specs.declared.store.Stable.{Ghosts}

-- Exactly so many puts were made. At each moment the image has P, and what could be opened again after a crash still can.
pub record HasPut {S : Type 0} (s : Ghosts S) (P : Image → Type 0) (count : ℕ) (old new : S) : Type 0 where
  pub crash : LeavesOnly s.moment s.left_since old new P
  pub opens : StaysOpenable s.opens_since s.moment old new
  pub later : s.faults old ≤ s.faults new
  pub sectors : s.sector_count new ≡ s.sector_count old
  pub snapshot : ArePuts count (s.faults old) (s.faults new) (s.snapshot_of old) (s.snapshot_of new)

-- At most so many puts were made, after Ok as many as it answers; at each moment the image has P, and a failure has a cause.
pub record CountsPuts {S E : Type 0} (s : Ghosts S) (P : Image → Type 0) (most : ℕ) (old new : S) (result : Result ℕ E) : Type 0 where
  pub count : ℕ
  pub few : count ≤ most
  pub puts : HasPut s P count old new
  pub answer : IfOk result (λ changed. changed ≡ count)
  pub cause : OnErr result (Rose (s.faults old) (s.faults new))
