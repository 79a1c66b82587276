use Rattle.std.proofs.Common.{◌≡◌, ℕ, ◌<◌, ◌≤◌, false}
use Rattle.std.specs.Option.{is_some}
use Rattle.v7_dir.specs.Slots.{slot_in}
use Rattle.v7_entries.proofs.sector.is_used_from.Given as goal

abbrev pub invariant-loop-index : goal.invariant-loop-index
invariant-loop-index l = (k : ℕ) → l.from ≤ k → k < l.index → is_some (slot_in l.bytes k) ≡ false
