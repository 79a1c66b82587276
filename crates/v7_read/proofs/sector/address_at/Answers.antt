use Rattle.std.proofs.Common.{arith, ◌∙◌}
use Rattle.v7_layout.proofs.Little.{number_at_place}
use Rattle.v7_read.proofs.sector.address_at.Goals as goal

pub returns : goal.returns
returns c = c.read_u32.ensures ∙ number_at_place 4 c.args.at c.args.block.now (omega arith)
