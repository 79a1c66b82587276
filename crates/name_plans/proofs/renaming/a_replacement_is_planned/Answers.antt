use Rattle.name_plans.proofs.ReplaceAccepted.{rename-replacing}
use Rattle.name_plans.proofs.ReplacePlan.{replace-plan, replace-blocks}
use Rattle.name_plans.proofs.renaming.a_replacement_is_planned.Goals as goal

pub returns-clause-planned : goal.returns-clause-planned
returns-clause-planned c image from to name new_name cred now i r k l n w dp dq b1 b2 before after bs cs b strong x y z =
    replace-plan image from to name new_name cred now i r k l n w dp dq strong (rename-replacing image from to name new_name cred now i r k l n w dp dq strong x) b1 y.new b2 y.old before after bs cs b z

pub returns-clause-freed : goal.returns-clause-freed
returns-clause-freed c image from to name new_name cred now i r k l n w dp dq b1 b2 before after bs cs b strong x y z =
    replace-blocks image from to name new_name cred now i r k l n w dp dq strong (rename-replacing image from to name new_name cred now i r k l n w dp dq strong x) b1 y.new b2 y.old before after bs cs b z
