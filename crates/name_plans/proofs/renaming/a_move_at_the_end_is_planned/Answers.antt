use Rattle.name_plans.proofs.MoveAccepted.{rename-move_at_end}
use Rattle.name_plans.proofs.MoveAtEnd.{move-growing}
use Rattle.name_plans.proofs.renaming.a_move_at_the_end_is_planned.Goals as goal

pub returns : goal.returns
returns c image from to name new_name cred now i k n dp dq g b1 b2 b3 inner strong x y = move-growing image from to name new_name cred now i k n dp dq g b1 b2 b3 inner strong (rename-move_at_end image from to name new_name cred now i k n dp dq strong x y.full) y
