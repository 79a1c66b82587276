use Rattle.std.proofs.Common.{refl}
use Rattle.plan_file.proofs.Listed.{block-reads}
use Rattle.plan_name.proofs.laying_out.map_block.Goals as goal

pub returns-clause-reads : goal.returns-clause-reads
returns-clause-reads c = block-reads c.write_u32_into.new.dst c.args.body.now 128 refl c.told-body c.fits-body c.write_u32_into.ensures
