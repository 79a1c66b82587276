use Rattle.std.proofs.Common.{◌≡◌, ℕ, ◌<◌, get_or, length}
use Rattle.plan_name.proofs.laying_out.direct_of.Given as goal

abbrev pub invariant-loop-index : goal.invariant-loop-index
invariant-loop-index l = record {
  long : length l.direct ≡ 10;
  same : (k : ℕ) → k < l.index → get_or l.direct k 0 ≡ get_or l.body k 0;
}
