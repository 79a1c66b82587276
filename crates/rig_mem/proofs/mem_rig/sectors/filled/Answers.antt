use Rattle.rig_mem.proofs.Sectors.{filled_sector}
use Rattle.rig_mem.proofs.mem_rig.sectors.filled.Goals as goal

pub returns-clause-sector : goal.returns-clause-sector
returns-clause-sector c = filled_sector c.args.byte c.ranges.byte.fits
