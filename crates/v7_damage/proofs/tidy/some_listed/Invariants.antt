use Rattle.std.proofs.Common.{◌≡◌}
use Rattle.v7_damage.specs.Stored.{body_at}
use Rattle.v7_damage.specs.Summaries.{some_listed}
use Rattle.v7_damage.proofs.tidy.some_listed.Given as goal

abbrev pub invariant-loop-index : goal.invariant-loop-index
invariant-loop-index l = l.some ≡ some_listed (body_at l.places) l.index
