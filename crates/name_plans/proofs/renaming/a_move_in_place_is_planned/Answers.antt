use Rattle.files_model.specs.Names.{place_for}
use Rattle.name_plans.proofs.MoveAccepted.{rename-move}
use Rattle.name_plans.proofs.MovePlan.{move-old_first, move-old_sets, move-new_first, move-new_sets}
use Rattle.name_plans.proofs.renaming.a_move_in_place_is_planned.Goals as goal

pub returns-clause-old_first : goal.returns-clause-old_first
returns-clause-old_first c image from to name new_name cred now i k n dp dq b1 b2 b3 b4 strong x y = (
  move-old_first image from to name new_name cred now i k (place_for dq.slots) n dp dq strong (rename-move image from to name new_name cred now i k n dp dq strong x y.inside) b1 y.slots.new b2 y.slots.old b3 b4 y.times.first y.times.second,
  move-old_sets image from to name new_name cred now i k (place_for dq.slots) n dp dq strong (rename-move image from to name new_name cred now i k n dp dq strong x y.inside) b1 y.slots.new b2 y.slots.old b3 b4 y.times.first y.times.second,
)

pub returns-clause-new_first : goal.returns-clause-new_first
returns-clause-new_first c image from to name new_name cred now i k n dp dq b1 b2 b3 b4 strong x y = (
  move-new_first image from to name new_name cred now i k (place_for dq.slots) n dp dq strong (rename-move image from to name new_name cred now i k n dp dq strong x y.inside) b1 y.slots.new b2 y.slots.old b3 b4 y.times.first y.times.second,
  move-new_sets image from to name new_name cred now i k (place_for dq.slots) n dp dq strong (rename-move image from to name new_name cred now i k n dp dq strong x y.inside) b1 y.slots.new b2 y.slots.old b3 b4 y.times.first y.times.second,
)
