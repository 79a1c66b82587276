use Rattle.std.proofs.Common.{rules, ◌≡◌, ◌-◌, ◌*◌, ◌+◌, ◌^◌, ◌<◌, length, arith}
use Rattle.byteorder.specs.Endian.{little_bytes}
use Rattle.v7_layout.proofs.Parts.{put_mid-splice}
use Rattle.v7_strokes.proofs.Addresses.{puts-address}
use Rattle.v7_strokes.proofs.records.with_address.Goals as goal

pub returns : goal.returns
returns c =
    let whole : length c.args.block.now ≡ 512 = search rules in
    let is : c.copy_from_slice.new.self ≡ little_bytes 4 c.args.address = search rules in
    let four : length c.copy_from_slice.new.self ≡ 4 = search rules in
    let fits : c.args.address < 256 ^ 4 = search rules in
    let low = c.requires.indirect in
    let high = c.requires.within in
    puts-address c.args.block.now c.copy_from_slice.new.self _ (c.args.index - 10) c.args.address whole (omega arith) four is fits
    (put_mid-splice (4 * (c.args.index - 10)) (4 * (c.args.index - 10) + 4 - 4 * (c.args.index - 10)) c.args.block.now c.copy_from_slice.new.self (omega arith))
