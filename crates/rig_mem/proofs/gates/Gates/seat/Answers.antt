use Rattle.std.proofs.Common.{rules, []}
use Rattle.rig_mem.specs.Gates.{nothing_known}
use Rattle.rig_mem.proofs.Raising.{begun}
use Rattle.rig_mem.proofs.gates.Gates.seat.Goals as goal

pub load_new_seat-requires : goal.load_new_seat-requires
load_new_seat-requires c = (search rules, begun _ _ _ (nothing_known, []))
