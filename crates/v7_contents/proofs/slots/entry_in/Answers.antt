use Rattle.std.proofs.Common.{◌+◌, ◌*◌, ◌%◌, ◌∙◌, Some, ap}
use Rattle.v7_layout.proofs.Parts.{part-cut}
use Rattle.v7_layout.specs.Numbers.{part}
use Rattle.v7_layout.specs.Records.{slot_of_bytes}
use Rattle.v7_contents.proofs.Stored.{no_entry, one_entry}
use Rattle.v7_contents.proofs.slots.entry_in.Goals as goal

pub returns-then-found-eq0-clause-entry : goal.returns-then-found-eq0-clause-entry
returns-then-found-eq0-clause-entry c =
    let at = 16 * (c.args.slot % 32) in
    no_entry c.args.slot (part c.args.bytes.now at 16) c.read-found.result (c.read-found.ensures.record_of ∙ ap slot_of_bytes (part-cut c.args.bytes.now at 16)) c.if-found-eq0.true

pub returns-clause-entry : goal.returns-clause-entry
returns-clause-entry c =
    let at = 16 * (c.args.slot % 32) in
    (λ z. Some (record { fileid = c.from.ensures z; name = c.name_in.ensures.name z; cookie = c.args.slot + 1 }))
    ∙ one_entry c.args.slot (part c.args.bytes.now at 16) c.read-found.result (c.read-found.ensures.record_of ∙ ap slot_of_bytes (part-cut c.args.bytes.now at 16)) c.if-found-eq0.false
