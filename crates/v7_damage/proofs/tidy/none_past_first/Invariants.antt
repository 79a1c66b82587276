use Rattle.std.proofs.Common.{◌≡◌}
use Rattle.v7_damage.specs.Stored.{body_at}
use Rattle.v7_damage.specs.Summaries.{none_past}
use Rattle.v7_damage.proofs.tidy.none_past_first.Given as goal

abbrev pub invariant-loop-index : goal.invariant-loop-index
invariant-loop-index l = l.none ≡ none_past (body_at l.places) l.size l.index
