use Rattle.longer_plans.proofs.SymlinkPlans.{symlink-plan}
use Rattle.longer_plans.proofs.SymlinkSets.{symlink-sets}
use Rattle.longer_plans.proofs.making_links.a_new_link_in_place_is_planned.Goals as goal

pub returns-clause-planned : goal.returns-clause-planned
returns-clause-planned c image dir name text wanted cred now d i held b1 b2 b3 strong x y z = symlink-plan image dir name text wanted cred now d i held b1 strong x y b2 b3 z

pub returns-clause-sets : goal.returns-clause-sets
returns-clause-sets c image dir name text wanted cred now d i held b1 b2 b3 strong x y z blocks inodes sets = symlink-sets image dir name text wanted cred now d i held b1 strong x y blocks inodes sets b2 b3 z
