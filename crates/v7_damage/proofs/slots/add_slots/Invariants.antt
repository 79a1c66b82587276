use Rattle.std.proofs.Common.{◌≡◌, ◌++◌, map}
use Rattle.std.specs.List.{range_with_len}
use Rattle.v7_damage.specs.Stored.{slot_in_sector}
use Rattle.v7_damage.proofs.slots.add_slots.Given as goal

abbrev pub invariant-loop-index : goal.invariant-loop-index
invariant-loop-index l = l.slots.items ≡ l.fn.slots.items ++ map (slot_in_sector l.bytes) (range_with_len 0 l.index)
