use Rattle.std.proofs.Common.{arith}
use Rattle.plan_symlink.proofs.Blocks.{lacks-first, lacks-second}
use Rattle.plan_symlink.proofs.text_blocks.choose_text.Goals as goal

pub returns-in_default-clause-none : goal.returns-in_default-clause-none
returns-in_default-clause-none c = λ spare.
    let none = lacks-first c.args.blocks.now c.args.from (c.in_default.ensures.none spare) in
    let some = c.if-count-eq0.false in omega arith

pub returns-in_default-spare_block-clause-none : goal.returns-in_default-spare_block-clause-none
returns-in_default-spare_block-clause-none c = λ spare.
    let one = lacks-second c.args.blocks.now c.args.from c.in-Some.first c.in-Some.ensures.lowest (c.in_default-spare_block.ensures.none spare) in
    let some = c.if-count-eq0.false in let two = c.if-count-eq1.false in omega arith
