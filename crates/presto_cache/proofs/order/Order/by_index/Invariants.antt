use Rattle.std.proofs.Common.{◌≡◌, length, take}
use Rattle.std.specs.List.Sorted.{IsStrictlyIncreasing}
use Rattle.presto_cache.specs.Order.{IsOrderOf, listed, room_of}
use Rattle.presto_cache.proofs.order.Order.by_index.Given as goal

abbrev pub invariant-loop-index : goal.invariant-loop-index
invariant-loop-index l = IsOrderOf (take l.index l.slots) (listed l.order) × IsStrictlyIncreasing (listed l.order) × (room_of l.order ≡ length l.slots)
