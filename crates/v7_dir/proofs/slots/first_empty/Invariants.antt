use Rattle.std.proofs.Common.{◌≡◌, ℕ, ◌<◌, false}
use Rattle.std.specs.Option.{is_none}
use Rattle.v7_dir.specs.Slots.{slot_in}
use Rattle.v7_dir.proofs.slots.first_empty.Given as goal

abbrev pub invariant-loop-k : goal.invariant-loop-k
invariant-loop-k l = (j : ℕ) → j < l.k → is_none (slot_in l.slots j) ≡ false
