use Rattle.name_plans.proofs.ReplaceSets.{replace-sets}
use Rattle.name_plans.proofs.renaming.the_sets_follow_a_replacement.Goals as goal

pub returns : goal.returns
returns c image from to name new_name cred now i r k l n w dp dq puts strong x plan moved freed are blocks inodes sets = replace-sets image from to name new_name cred now i r k l n w dp dq puts strong x plan moved freed are blocks inodes sets
