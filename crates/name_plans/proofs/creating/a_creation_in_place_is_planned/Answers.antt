use Rattle.name_plans.proofs.CreatingInPlace.{create-plan}
use Rattle.name_plans.proofs.creating.a_creation_in_place_is_planned.Goals as goal

pub returns : goal.returns
returns c image asked now p name d i m n b1 b2 b3 strong x = create-plan image asked now p name d i m strong x.making n x.new x.raised b1 x.inode x.inside b2 b3 x.entry x.times
