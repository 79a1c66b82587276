use Rattle.v7_plans.proofs.ShrinkPlan.{shrink-plan}
use Rattle.v7_plans.proofs.laws.shrinking_is_planned.Goals as goal

pub returns : goal.returns
returns c image asked now i n m v b inner strong x y cut = shrink-plan image asked now i n m v b strong x y inner cut
