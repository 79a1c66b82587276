use Rattle.std.proofs.Common.{◌≡◌, ℕ, ◌<◌, ◌≤◌, get_or}
use Rattle.plan_file.proofs.shorter.first_mapped.Given as goal

abbrev pub invariant-loop-index : goal.invariant-loop-index
invariant-loop-index l = (k : ℕ) → 10 ≤ k → k < l.index → get_or l.body k 0 ≡ 0
