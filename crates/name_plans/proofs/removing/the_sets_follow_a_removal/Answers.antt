use Rattle.name_plans.proofs.RemovingSets.{removal-sets}
use Rattle.name_plans.proofs.removing.the_sets_follow_a_removal.Goals as goal

pub returns : goal.returns
returns c image dir name cred now d k i n before after b1 bs cs b strong x t freed are blocks inodes sets = removal-sets image dir name cred now d k i n before after b1 bs cs b strong x t freed are blocks inodes sets
