use Rattle.std.proofs.Common.{◌≡◌, ◌≢◌, ℕ, length, take, get_or, ◌||◌, ◌&&◌, ◌==◌}
use Rattle.v7_damage.specs.Marks.{mark_at}
use Rattle.v7_damage.specs.Slots.{names}
use Rattle.v7_damage.proofs.parents.hold_named.Given as goal

abbrev pub invariant-loop-slot : goal.invariant-loop-slot
invariant-loop-slot l = record {
  marks : (i : ℕ) → i ≢ 0 → mark_at l.held i ≡ (mark_at l.fn.held i || ((get_or l.ups i 0 == l.parent) && names (take l.slot-index l.slots) i));
  length : length l.held ≡ length l.fn.held;
}
