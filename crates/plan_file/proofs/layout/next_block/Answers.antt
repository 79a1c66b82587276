use Rattle.plan_file.proofs.Placing.{lowest-there, lowest-next}
use Rattle.plan_file.proofs.layout.next_block.Goals as goal

pub returns-clause-next : goal.returns-clause-next
returns-clause-next c = lowest-next c.args.blocks.now c.args.from c.in-Some.number c.in-Some.ensures

pub unreachable-requires : goal.unreachable-requires
unreachable-requires c = lowest-there c.args.blocks.now c.args.from c.requires c.in-None.ensures
