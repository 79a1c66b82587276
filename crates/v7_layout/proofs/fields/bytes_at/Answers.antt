use Rattle.std.proofs.Common.{◌∙◌}
use Rattle.v7_layout.proofs.Parts.{part-cut}
use Rattle.v7_layout.proofs.fields.bytes_at.Goals as goal

pub returns : goal.returns
returns g c = c.copy_from_slice.ensures.after ∙ part-cut c.args.bytes.now c.args.at _
