use Rattle.v7_plans.proofs.SettingPlan.{setting-plan, setting-blocks}
use Rattle.v7_plans.proofs.laws.setting_is_planned.Goals as goal

pub returns-clause-planned : goal.returns-clause-planned
returns-clause-planned c image asked now i n m v b strong x y = setting-plan image asked now i n m v b strong x y

pub returns-clause-own_blocks : goal.returns-clause-own_blocks
returns-clause-own_blocks c image asked now i n m v b strong x y = (setting-blocks image asked now i n m v b strong x y).0

pub returns-clause-other_blocks : goal.returns-clause-other_blocks
returns-clause-other_blocks c image asked now i n m v b strong x y = (setting-blocks image asked now i n m v b strong x y).1
