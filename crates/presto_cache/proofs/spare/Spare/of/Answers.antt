use Rattle.std.proofs.Common.{◌∙◌, ap, false, not, set}
use Rattle.presto_cache.specs.Slots.{is_dirty}
use Rattle.presto_cache.specs.Spare.{marked}
use Rattle.presto_cache.specs.declared.slot.Slot.{Slot}
use Rattle.presto_cache.proofs.Sparing.{one_more_beside}
use Rattle.presto_cache.proofs.spare.Spare.of.Goals as goal

pub loop-index-preserved : goal.loop-index-preserved
loop-index-preserved c =
    let l = c.loop-index in
    one_more_beside l.invariant c.loop-index-test.true
    (c.follow.ensures.buffers ∙ ap (λ (s : Slot). marked s false l.spare.buffers) c.slot_at.ensures)
    (c.follow.ensures.entries ∙ ap (λ (s : Slot). set l.spare.entries l.index (not (is_dirty s))) c.slot_at.ensures)
