use Rattle.std.proofs.Common.{arith, ◌∙◌}
use Rattle.v7_layout.proofs.Little.{number_at_place}
use Rattle.v7_layout.proofs.fields.short_at.Goals as goal

pub returns : goal.returns
returns c = c.read_u16.ensures ∙ number_at_place 2 c.args.at c.args.bytes.now (omega arith)
