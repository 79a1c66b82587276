use Rattle.name_plans.proofs.MkdirQuiet.{dots-in_place}
use Rattle.name_plans.proofs.MkdirSets.{mkdir-sets}
use Rattle.name_plans.proofs.making_directories.a_new_directory_in_place_is_planned.Goals as goal

pub returns-clause-planned : goal.returns-clause-planned
returns-clause-planned c image dir name wanted cred now d i a b0 b1 b2 b3 strong x y z = dots-in_place image dir name wanted cred now d i a b0 b1 strong x y b2 b3 z

pub returns-clause-sets : goal.returns-clause-sets
returns-clause-sets c image dir name wanted cred now d i a b0 b1 b2 b3 strong x y z blocks inodes sets = mkdir-sets image dir name wanted cred now d i a b0 b1 b2 b3 strong x y z blocks inodes sets
