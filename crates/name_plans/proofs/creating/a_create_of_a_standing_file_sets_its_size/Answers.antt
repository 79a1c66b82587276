use Rattle.name_plans.proofs.CreatingStanding.{standing-step, standing-plan}
use Rattle.name_plans.proofs.creating.a_create_of_a_standing_file_sets_its_size.Goals as goal

pub returns-clause-step : goal.returns-clause-step
returns-clause-step c image dir name wanted cred now d k i n size strong x sized = standing-step image dir name wanted cred now d k i n strong x size sized

pub returns-clause-plan : goal.returns-clause-plan
returns-clause-plan c image dir name wanted cred now d k i n size strong x sized puts plan = standing-plan image dir name wanted cred now d k i n strong x size sized puts plan
