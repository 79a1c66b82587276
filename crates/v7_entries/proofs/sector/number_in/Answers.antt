use Rattle.std.proofs.Common.{◌*◌, ◌∙◌, ap}
use Rattle.v7_layout.proofs.Parts.{part-cut}
use Rattle.v7_layout.specs.Numbers.{part}
use Rattle.v7_layout.specs.Records.{slot_of_bytes}
use Rattle.v7_layout.specs.declared.slot.Slot.{Slot}
use Rattle.v7_entries.proofs.SectorSlots.{number-slot}
use Rattle.v7_entries.proofs.sector.number_in.Goals as goal

pub returns : goal.returns
returns c =
    ap (λ (s : Slot). s.ino) (c.read.ensures.record_of ∙ ap slot_of_bytes (part-cut c.args.bytes.now (16 * c.args.index) 16))
    ∙ number-slot (part c.args.bytes.now (16 * c.args.index) 16)
