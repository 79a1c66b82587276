use Rattle.name_plans.proofs.RmdirAccepted.{rmdir-taking}
use Rattle.name_plans.proofs.RmdirPlan.{rmdir-parent_first, rmdir-parent_first_freed, rmdir-own_first, rmdir-own_first_freed}
use Rattle.name_plans.proofs.removing_directories.a_removal_of_a_directory_is_planned.Goals as goal
use Rattle.files_model.specs.declared.call.Call.TheVariants as call

pub returns-clause-parent_first : goal.returns-clause-parent_first
returns-clause-parent_first c image dir name cred now d k i n b1 b2 b3 strong x t = let y = rmdir-taking image dir name cred now d k i n strong x in
    (rmdir-parent_first image (call.Rmdir dir name, cred) now dir.ino name d k i n strong y b1 t.entry b2 b3 t.parent t.own, rmdir-parent_first_freed image (call.Rmdir dir name, cred) now dir.ino name d k i n strong y b1 t.entry b2 b3 t.parent t.own)

pub returns-clause-own_first : goal.returns-clause-own_first
returns-clause-own_first c image dir name cred now d k i n b1 b2 b3 strong x t = let y = rmdir-taking image dir name cred now d k i n strong x in
    (rmdir-own_first image (call.Rmdir dir name, cred) now dir.ino name d k i n strong y b1 t.entry b2 b3 t.own t.parent, rmdir-own_first_freed image (call.Rmdir dir name, cred) now dir.ino name d k i n strong y b1 t.entry b2 b3 t.own t.parent)
