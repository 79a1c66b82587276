use Rattle.name_plans.proofs.MkdirQuiet.{dots-at_end}
use Rattle.name_plans.proofs.making_directories.a_new_directory_at_the_end_is_planned.Goals as goal

pub returns : goal.returns
returns c image dir name wanted cred now d i a g b0 b1 b3 inner strong x y z = dots-at_end image dir name wanted cred now d i a b0 b1 strong x y g b3 inner z
