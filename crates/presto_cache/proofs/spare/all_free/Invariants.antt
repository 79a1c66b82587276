use Rattle.std.proofs.Common.{◌≡◌, ◌<◌, ℕ, true, length}
use Rattle.index_sets.specs.Free.{is_free}
use Rattle.presto_cache.proofs.spare.all_free.Given as goal

abbrev pub invariant-loop-number : goal.invariant-loop-number
invariant-loop-number l = (length l.free ≡ l.size) × ((i : ℕ) → i < l.number → is_free l.free i ≡ true)
