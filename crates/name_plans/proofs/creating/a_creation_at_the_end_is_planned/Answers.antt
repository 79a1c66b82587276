use Rattle.name_plans.proofs.CreatingAtEnd.{create-growing}
use Rattle.name_plans.proofs.creating.a_creation_at_the_end_is_planned.Goals as goal

pub returns : goal.returns
returns c image asked now p name d i m n g b1 b3 inner strong x = create-growing image asked now p name d i m strong x.making n x.new x.raised b1 x.inode inner x.muted x.full g b3 x.grows x.times x.directory
