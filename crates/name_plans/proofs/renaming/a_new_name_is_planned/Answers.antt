use Rattle.files_model.specs.declared.call.Call.TheVariants as call
use Rattle.name_plans.proofs.NameAccepted.{rename-named}
use Rattle.name_plans.proofs.NamePlan.{name-plan, name-sets}
use Rattle.name_plans.proofs.renaming.a_new_name_is_planned.Goals as goal

pub returns-clause-planned : goal.returns-clause-planned
returns-clause-planned c image from to name new_name cred now i k n d b1 b2 strong x y = name-plan image (call.Rename from name to new_name, cred) now from.ino name new_name d k i n strong (rename-named image from to name new_name cred now i k n d strong x) b1 y.entry b2 y.times

pub returns-clause-sets : goal.returns-clause-sets
returns-clause-sets c image from to name new_name cred now i k n d b1 b2 strong x y blocks inodes sets = name-sets image (call.Rename from name to new_name, cred) now from.ino name new_name d k i n strong (rename-named image from to name new_name cred now i k n d strong x) b1 y.entry b2 y.times blocks inodes sets
