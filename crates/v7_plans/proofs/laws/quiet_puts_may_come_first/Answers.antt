use Rattle.v7_plans.proofs.Quieting.{quiet-plan}
use Rattle.v7_plans.proofs.laws.quiet_puts_may_come_first.Goals as goal

pub returns : goal.returns
returns c image calls now first puts quiet weak plan = quiet-plan image calls now first puts quiet weak plan
