use Rattle.v7_layout.proofs.Little.{byte-field}
use Rattle.v7_layout.proofs.fields.byte_at.Goals as goal

pub returns : goal.returns
returns c = byte-field c.args.at c.args.bytes.now c.requires
