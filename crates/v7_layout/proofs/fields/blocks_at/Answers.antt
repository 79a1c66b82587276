use Rattle.std.proofs.Common.{arith, ◌+◌, ◌-◌}
use Rattle.v7_layout.proofs.Little.{numbers_at_place}
use Rattle.v7_layout.proofs.fields.blocks_at.Goals as goal

pub returns : goal.returns
returns c =
    numbers_at_place 4 50 c.args.at (c.args.at + 200 - c.args.at) c.args.bytes.now c.read_u32_into.new.dst
    (omega arith) (omega arith) (omega arith) c.read_u32_into.ensures
