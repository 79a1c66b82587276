use Rattle.std.proofs.Common.{◌≡◌, ◌≤◌, ◌<◌, ℕ, false, not, ◌==◌, ◌&&◌, ltb}
use Rattle.v7_mend.specs.Settled.{entry}
use Rattle.v7_mend.proofs.settled.holds_address.Given as goal

abbrev pub invariant-loop-index : goal.invariant-loop-index
invariant-loop-index l = (k : ℕ) → 10 ≤ k → k < l.index → (ltb k l.sectors && not (entry l.block k == 0)) ≡ false
