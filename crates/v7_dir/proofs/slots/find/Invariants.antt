use Rattle.std.proofs.Common.{◌≡◌, ℕ, ◌<◌, false}
use Rattle.files_model.specs.Names.{has_name}
use Rattle.v7_dir.specs.Slots.{slot_in}
use Rattle.v7_dir.proofs.slots.find.Given as goal

abbrev pub invariant-loop-k : goal.invariant-loop-k
invariant-loop-k l = (j : ℕ) → j < l.k → has_name l.fn.name (slot_in l.slots j) ≡ false
