use Rattle.std.proofs.Common.{arith}
use Rattle.plan_mkdir.proofs.JudgedNew.{few-added}
use Rattle.plan_mkdir.proofs.judging.blocks_needed.Goals as goal

pub overflow_add-result : goal.overflow_add-result
overflow_add-result c = let few = few-added c.args.size in let is = c.added_blocks.ensures in omega arith
