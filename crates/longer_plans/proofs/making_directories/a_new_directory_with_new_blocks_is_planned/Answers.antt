use Rattle.longer_plans.proofs.MkdirLongerSets.{mkdir-longer, mkdir-apart_blocks, mkdir-longer_sets}
use Rattle.longer_plans.proofs.making_directories.a_new_directory_with_new_blocks_is_planned.Goals as goal

pub returns-clause-planned : goal.returns-clause-planned
returns-clause-planned c image dir name wanted cred now d i a target b0 b1 b2 maps direct single b3 strong x y z = mkdir-longer image dir name wanted cred now d i a target b0 b1 b2 maps direct single b3 strong x y z

pub returns-clause-apart : goal.returns-clause-apart
returns-clause-apart c image dir name wanted cred now d i a target b0 b1 b2 maps direct single b3 strong x y z r = mkdir-apart_blocks image dir name wanted cred now d i a target b0 b1 b2 maps direct single b3 strong x y z r

pub returns-clause-sets : goal.returns-clause-sets
returns-clause-sets c image dir name wanted cred now d i a target b0 b1 b2 maps direct single b3 strong x y z new fresh blocks inodes sets =
    mkdir-longer_sets image dir name wanted cred now d i a target b0 b1 b2 maps direct single b3 strong x y z new fresh blocks inodes sets
