use Rattle.std.proofs.Common.{rules}
use Rattle.rig_mem.proofs.Raising.{looked}
use Rattle.rig_mem.proofs.gates.Gates.is_raised.Goals as goal

pub load-requires : goal.load-requires
load-requires c = (search rules, search rules, looked _ _ _ _ _)
