use Rattle.std.proofs.Common.{◌≡◌, ◌≤◌}
use Rattle.plan_file.specs.Accepted.{kept_of}
use Rattle.plan_file.specs.Contents.{touched_below}
use Rattle.plan_file.proofs.accepted.count_touched.Given as goal

abbrev pub invariant-loop-index : goal.invariant-loop-index
invariant-loop-index l = record {
  count : l.count ≡ touched_below (kept_of l.batch l.replies) l.index;
  few : l.count ≤ l.index;
}
