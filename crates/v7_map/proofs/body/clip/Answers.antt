use Rattle.std.proofs.Common.{arith, rules}
use Rattle.v7_map.proofs.Edits.{clip-is}
use Rattle.v7_map.proofs.body.clip.Goals as goal

pub returns : goal.returns
returns c = rw c.copy_from_slice.ensures.after (clip-is c.args.size c.args.index c.min-kept.result c.args.sector.now (search rules) (omega arith))
