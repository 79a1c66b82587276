use Rattle.std.proofs.Common.{◌≡◌, ◌≤◌, ◌&&◌}
use Rattle.std.specs.Prelude.{count_by, nat_le}
use Rattle.std.specs.List.{range_with_len, list_any}
use Rattle.v7_damage.specs.Summaries.{is_at}
use Rattle.v7_damage.proofs.summary.needs_of.Given as goal

abbrev pub invariant-loop-index : goal.invariant-loop-index
invariant-loop-index l = record {
  counted : l.count ≡ count_by (is_at l.places) (range_with_len 0 l.index);
  any_far : l.far ≡ list_any (λ k. nat_le 10 k && is_at l.places k) (range_with_len 0 l.index);
  few : l.count ≤ l.index;
}
