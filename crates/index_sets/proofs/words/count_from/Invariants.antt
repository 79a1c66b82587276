use Rattle.std.proofs.Common.{◌≡◌, ◌-◌, ◌*◌}
use Rattle.index_sets.specs.Bits.{bit}
use Rattle.index_sets.proofs.BitCounts.{among}
use Rattle.index_sets.proofs.words.count_from.Given as goal

abbrev pub invariant-loop-at : goal.invariant-loop-at
invariant-loop-at l = l.total ≡ among (bit l.words) l.from (64 * l.at - l.from)
