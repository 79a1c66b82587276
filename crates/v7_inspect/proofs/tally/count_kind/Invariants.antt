use Rattle.std.proofs.Common.{◌≡◌, ◌≤◌, ◌-◌}
use Rattle.std.specs.Prelude.{count_by}
use Rattle.std.specs.List.{range_with_len}
use Rattle.v7_inspect.specs.SeenNumbers.{is_counted}
use Rattle.v7_inspect.proofs.tally.count_kind.Given as goal

abbrev pub invariant-loop-index : goal.invariant-loop-index
invariant-loop-index l = record {
  counted : l.count ≡ count_by (is_counted l.kind l.known) (range_with_len 1 (l.index - 1));
  few : l.count ≤ l.index - 1;
}
