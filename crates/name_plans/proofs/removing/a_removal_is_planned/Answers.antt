use Rattle.name_plans.proofs.RemovingPlan.{removal-plan, removal-freed}
use Rattle.name_plans.proofs.removing.a_removal_is_planned.Goals as goal

pub returns-clause-planned : goal.returns-clause-planned
returns-clause-planned c image dir name cred now d k i n before after b1 bs cs b strong x t = removal-plan image dir name cred now d k i n strong x before after b1 bs cs b t

pub returns-clause-freed : goal.returns-clause-freed
returns-clause-freed c image dir name cred now d k i n before after b1 bs cs b strong x t = removal-freed image dir name cred now d k i n strong x before after b1 bs cs b t
