use Rattle.name_plans.proofs.CreatingSets.{in_place-sets, longer-sets}
use Rattle.name_plans.proofs.creating.the_sets_follow_a_creation.Goals as goal

pub returns-clause-in_place : goal.returns-clause-in_place
returns-clause-in_place c image asked now p name d i m n b1 b2 b3 strong x bare blocks inodes sets = in_place-sets image asked now p name d i m n b1 b2 b3 strong x bare blocks inodes sets

pub returns-clause-longer : goal.returns-clause-longer
returns-clause-longer c image asked now p name d i m n target b1 b2 maps direct single b3 strong x bare new fresh blocks inodes sets = longer-sets image asked now p name d i m n target b1 b2 maps direct single b3 strong x bare new fresh blocks inodes sets
