use Rattle.name_plans.proofs.CreatingInPlace.{creation-making}
use Rattle.name_plans.proofs.creating.an_accepted_create_makes_a_file.Goals as goal

pub returns : goal.returns
returns c image dir name wanted cred now d i strong x = creation-making image dir name wanted cred now d i strong x
