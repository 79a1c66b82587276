use Rattle.std.proofs.Common.{◌≡◌, ◌<◌, ℕ, false}
use Rattle.presto_cache.specs.Slots.{at, in_doubt}
use Rattle.presto_cache.proofs.cache.tests.are_sure.Given as goal

abbrev pub invariant-loop-slot : goal.invariant-loop-slot
invariant-loop-slot l = (k : ℕ) → k < l.slot-index → in_doubt (at l.slots k) ≡ false
