use Rattle.std.proofs.Common.{◌*◌, ◌∙◌, ap}
use Rattle.v7_layout.proofs.Parts.{part-cut}
use Rattle.v7_layout.specs.Records.{slot_of_bytes}
use Rattle.v7_damage.proofs.slots.slot_at.Goals as goal

pub returns : goal.returns
returns c = c.read.ensures.record_of ∙ ap slot_of_bytes (part-cut c.args.bytes.now (16 * c.args.index) 16)
