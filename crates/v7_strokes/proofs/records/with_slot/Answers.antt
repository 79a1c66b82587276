use Rattle.std.proofs.Common.{rules, ◌≡◌, ◌+◌, ◌-◌, ◌*◌, ◌%◌, length, arith}
use Rattle.v7_layout.specs.Records.{slot_of_bytes}
use Rattle.v7_layout.proofs.Parts.{put_mid-splice}
use Rattle.v7_strokes.proofs.Replacing.{replaces-slot}
use Rattle.v7_strokes.proofs.records.with_slot.Goals as goal

pub returns : goal.returns
returns c =
    let long : length c.args.sector.now ≡ 512 = search rules in
    let size : length c.copy_from_slice.new.self ≡ 16 = search rules in
    let reads : slot_of_bytes c.copy_from_slice.new.self ≡ c.args.slot.now = search rules in
    replaces-slot c.args.sector.now c.args.index c.args.slot.now c.copy_from_slice.new.self _ long size reads
    (put_mid-splice (16 * (c.args.index % 32)) (16 * (c.args.index % 32) + 16 - 16 * (c.args.index % 32)) c.args.sector.now c.copy_from_slice.new.self (omega arith))
