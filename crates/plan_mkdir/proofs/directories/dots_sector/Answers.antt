use Rattle.std.proofs.Common.{subst}
use Rattle.v7_strokes.specs.Slots.{PutsSlot}
use Rattle.plan_mkdir.proofs.FirstSector.{two_slots}
use Rattle.plan_mkdir.proofs.directories.dots_sector.Goals as goal

pub returns : goal.returns
returns c = two_slots c.empty_sector.result c.with_slot-sector.result c.with_slot.result c.args.ino c.args.parent
    (subst (PutsSlot c.empty_sector.result 0 c.with_slot-sector.result) c.slot_of.ensures c.with_slot-sector.ensures)
    (subst (PutsSlot c.with_slot-sector.result 1 c.with_slot.result) c.slot_of-2.ensures c.with_slot.ensures)
