use Rattle.std.proofs.Common.{rules, ◌≡◌, ap, ◌∙◌, length, drop, ◌++◌, replicate}
use Rattle.v7_strokes.specs.Over.{slot_from}
use Rattle.v7_strokes.proofs.SlotNames.{slot_from-named}
use Rattle.v7_strokes.proofs.records.slot_of.Goals as goal

pub returns : goal.returns
returns c =
    let copied : c.copy_from_slice.new.self ≡ c.args.name.now = search rules in
    ap (λ bytes. slot_from record { ino = c.args.ino; name = bytes ++ drop (length c.args.name.now) (replicate 14 0) }) copied
    ∙ slot_from-named c.args.ino 14 c.args.name.now c.requires.number c.requires.whole
