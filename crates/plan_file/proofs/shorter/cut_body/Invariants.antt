use Rattle.std.proofs.Common.{◌≡◌, ℕ, ◌<◌, ◌≤◌, get_or, length}
use Rattle.plan_file.proofs.shorter.cut_body.Given as goal

abbrev pub invariant-loop-index : goal.invariant-loop-index
invariant-loop-index l = record {
  long : length l.cut ≡ 138;
  kept : (k : ℕ) → k < l.count → get_or l.cut k 0 ≡ get_or l.body k 0;
  gone : (k : ℕ) → k < l.index → l.count ≤ k → get_or l.cut k 0 ≡ 0;
}
