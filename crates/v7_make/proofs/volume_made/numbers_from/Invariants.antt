use Rattle.std.proofs.Common.{◌≡◌, ◌≤◌, ◌<◌, ℕ, true, length}
use Rattle.index_sets.specs.Free.{is_free}
use Rattle.v7_make.proofs.volume_made.numbers_from.Given as goal

abbrev pub invariant-loop-number : goal.invariant-loop-number
invariant-loop-number l = record {
  long : length l.numbers ≡ l.size;
  only : (i : ℕ) → is_free l.numbers i ≡ true → l.from ≤ i;
  all : (i : ℕ) → l.from ≤ i → i < l.number → i < l.size → is_free l.numbers i ≡ true;
}
