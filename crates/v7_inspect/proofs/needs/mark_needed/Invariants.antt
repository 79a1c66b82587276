use Rattle.std.proofs.Common.{◌≡◌, ◌≢◌, ◌<◌, ◌==◌, ◌&&◌, ◌||◌, not, ℕ, length}
use Rattle.std.specs.Prelude.{nat_le}
use Rattle.std.specs.List.{range_with_len, list_any}
use Rattle.v7_damage.specs.Marks.{mark_at}
use Rattle.v7_damage.specs.Stored.{body_at}
use Rattle.v7_inspect.proofs.needs.mark_needed.Given as goal

abbrev pub invariant-loop-index : goal.invariant-loop-index
invariant-loop-index l = record {
  any_far : l.far ≡ list_any (λ k. nat_le 10 k && not (body_at l.places k == 0)) (range_with_len 0 l.index);
  marks : (b : ℕ) → b ≢ 0 → b < length l.fn.needed → mark_at l.needed b ≡ (mark_at l.fn.needed b || list_any (λ k. body_at l.places k == b) (range_with_len 0 l.index));
  long : length l.needed ≡ length l.fn.needed;
}
