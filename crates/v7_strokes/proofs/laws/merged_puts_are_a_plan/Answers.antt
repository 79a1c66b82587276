use Rattle.v7_strokes.proofs.Merging.{merged-plan, merged-all, merged-with, length-with_put}
use Rattle.v7_strokes.proofs.laws.merged_puts_are_a_plan.Goals as goal

pub returns-clause-plan : goal.returns-clause-plan
returns-clause-plan c image calls now puts plan = merged-plan image calls now puts plan

pub returns-clause-image : goal.returns-clause-image
returns-clause-image c image puts = merged-all puts image

pub returns-clause-step : goal.returns-clause-step
returns-clause-step c puts put = merged-with puts put

pub returns-clause-few : goal.returns-clause-few
returns-clause-few c puts put = length-with_put puts put
