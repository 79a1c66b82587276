use Rattle.std.proofs.Common.{◌≡◌, ◌≤◌, ℕ, length, take, ◌||◌, ◌&&◌}
use Rattle.v7_damage.specs.Marks.{mark_at}
use Rattle.v7_damage.specs.Slots.{names}
use Rattle.v7_damage.specs.Walk.{AreListed, is_dir_in}
use Rattle.v7_damage.proofs.walk.find_named.Given as goal

abbrev pub invariant-loop-slot : goal.invariant-loop-slot
invariant-loop-slot l = record {
  marks : (i : ℕ) → mark_at l.found i ≡ (mark_at l.fn.found i || (is_dir_in l.types i && names (take l.slot-index l.slots) i));
  listed : AreListed l.fn.found l.fn.list.items → AreListed l.found l.list.items;
  front : take (length l.fn.list.items) l.list.items ≡ l.fn.list.items;
  longer : length l.fn.list.items ≤ length l.list.items;
  length : length l.found ≡ length l.fn.found;
}
