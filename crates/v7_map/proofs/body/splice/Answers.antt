use Rattle.std.proofs.Common.{arith, rules}
use Rattle.v7_map.proofs.Edits.{splice-is}
use Rattle.v7_map.proofs.body.splice.Goals as goal

pub returns : goal.returns
returns c = rw c.copy_from_slice.ensures.after
    (splice-is c.args.offset c.args.bytes.now c.args.index c.min-before.result c.min-skipped.result c.min-count.result c.args.sector.now (search rules) (omega arith) (omega arith) (omega arith))
