use Rattle.name_plans.proofs.CreatingLonger.{longer-plan, longer-own, longer-others}
use Rattle.name_plans.proofs.creating.a_creation_with_new_blocks_is_planned.Goals as goal

pub returns-clause-planned : goal.returns-clause-planned
returns-clause-planned c image asked now p name d i m n target b1 b2 maps direct single b3 strong x = longer-plan image asked now p name d i m n target b1 b2 maps direct single b3 strong x

pub returns-clause-own_blocks : goal.returns-clause-own_blocks
returns-clause-own_blocks c image asked now p name d i m n target b1 b2 maps direct single b3 strong x = longer-own image asked now p name d i m n target b1 b2 maps direct single b3 strong x

pub returns-clause-other_blocks : goal.returns-clause-other_blocks
returns-clause-other_blocks c image asked now p name d i m n target b1 b2 maps direct single b3 strong x = longer-others image asked now p name d i m n target b1 b2 maps direct single b3 strong x
