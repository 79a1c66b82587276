use Rattle.longer_plans.proofs.SymlinkPlans.{symlink-growing}
use Rattle.longer_plans.proofs.SymlinkSets.{symlink-longer_sets}
use Rattle.longer_plans.proofs.making_links.a_new_link_at_the_end_is_planned.Goals as goal

pub returns-clause-planned : goal.returns-clause-planned
returns-clause-planned c image dir name text wanted cred now d i held b1 target b2 maps direct single b3 strong x y z = symlink-growing image dir name text wanted cred now d i held b1 strong x y target b2 maps direct single b3 z

pub returns-clause-sets : goal.returns-clause-sets
returns-clause-sets c image dir name text wanted cred now d i held b1 target b2 maps direct single b3 strong x y z new fresh blocks inodes sets = symlink-longer_sets image dir name text wanted cred now d i held b1 strong x y blocks inodes sets target b2 maps direct single b3 z new fresh
