use Rattle.std.proofs.Common.{◌<◌, ℕ, [], get_or}
use Rattle.rig.specs.Devices.{IsSector}
use Rattle.rig_mem.proofs.mem_rig.sectors.are_whole.Given as goal

abbrev pub invariant-loop-sector : goal.invariant-loop-sector
invariant-loop-sector l = (i : ℕ) → i < l.sector-index → IsSector (get_or l.disk i [])
