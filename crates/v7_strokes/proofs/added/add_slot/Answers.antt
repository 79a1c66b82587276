use Rattle.std.proofs.Common.{subst}
use Rattle.v7_strokes.specs.Over.{slot_from}
use Rattle.v7_strokes.specs.Slots.{PutsSlot}
use Rattle.v7_strokes.proofs.added.add_slot.Goals as goal

pub returns-clause-put : goal.returns-clause-put
returns-clause-put g c = λ tells. subst (λ s. PutsSlot s c.args.index c.with_slot-changed.result (slot_from c.args.slot.now)) (c.in_ok-sector.ensures.done tells) c.with_slot-changed.ensures
