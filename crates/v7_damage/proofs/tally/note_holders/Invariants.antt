use Rattle.std.proofs.Common.{◌≡◌, ◌≢◌, ◌<◌, ℕ, length, take, get_or, cond}
use Rattle.v7_damage.specs.Slots.{names}
use Rattle.v7_damage.proofs.tally.note_holders.Given as goal

abbrev pub invariant-loop-slot : goal.invariant-loop-slot
invariant-loop-slot l = record {
  each : (i : ℕ) → i ≢ 0 → i < length l.fn.holders.items → get_or l.holders.items i 0 ≡ cond (names (take l.slot-index l.slots) i) l.holder (get_or l.fn.holders.items i 0);
  length : length l.holders.items ≡ length l.fn.holders.items;
}
