use Rattle.name_plans.proofs.RmdirSets.{rmdir-sets}
use Rattle.name_plans.proofs.removing_directories.the_sets_follow_a_removal_of_a_directory.Goals as goal

pub returns : goal.returns
returns c image dir name cred now d k i n puts strong x plan moved freed are blocks inodes sets = rmdir-sets image dir name cred now d k i n puts strong x plan moved freed are blocks inodes sets
