use Rattle.std.proofs.Common.{◌≡◌, ◌-◌, ◌^◌, length, take}
use Rattle.presto_cache.specs.Slots.{AllBelowSectors}
use Rattle.presto_cache.specs.Made.{IsMadeOf}
use Rattle.presto_cache.proofs.made.slots_for.Given as goal

abbrev pub invariant-loop-entry : goal.invariant-loop-entry
invariant-loop-entry l = (length l.slots.items ≡ l.buffers - 1) × IsMadeOf (take l.entry-index l.board) l.slots.items × AllBelowSectors (2 ^ 32) l.slots.items
