use Rattle.std.proofs.Common.{rules}
use Rattle.rig_mem.proofs.Raising.{raised}
use Rattle.rig_mem.proofs.gates.Gates.raise.Goals as goal

pub store-requires : goal.store-requires
store-requires c = (search rules, search rules, raised _ _ _ _ _ (search rules))
