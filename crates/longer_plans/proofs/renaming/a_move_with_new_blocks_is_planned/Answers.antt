use Rattle.v7_map.specs.View.{view}
use Rattle.name_plans.proofs.MoveAccepted.{rename-move_at_end}
use Rattle.longer_plans.proofs.MoveLonger.{move-room, move-longer, move-own, move-others, move-taken}
use Rattle.longer_plans.proofs.renaming.a_move_with_new_blocks_is_planned.Goals as goal

pub returns-clause-planned : goal.returns-clause-planned
returns-clause-planned c image from to name new_name cred now i k n dp dq target b maps direct single b1 b2 b3 strong x y =
    move-longer image from to name new_name cred now i k n dp dq target b maps direct single b1 b2 b3 strong (rename-move_at_end image from to name new_name cred now i k n dp dq strong x y.full) (move-room (view image) from to name new_name cred now i k n dp dq x y.full) y

pub returns-clause-own_blocks : goal.returns-clause-own_blocks
returns-clause-own_blocks c image from to name new_name cred now i k n dp dq target b maps direct single b1 b2 b3 strong x y =
    move-own image from to name new_name cred now i k n dp dq target b maps direct single b1 b2 b3 strong (rename-move_at_end image from to name new_name cred now i k n dp dq strong x y.full) (move-room (view image) from to name new_name cred now i k n dp dq x y.full) y

pub returns-clause-other_blocks : goal.returns-clause-other_blocks
returns-clause-other_blocks c image from to name new_name cred now i k n dp dq target b maps direct single b1 b2 b3 strong x y =
    move-others image from to name new_name cred now i k n dp dq target b maps direct single b1 b2 b3 strong (rename-move_at_end image from to name new_name cred now i k n dp dq strong x y.full) (move-room (view image) from to name new_name cred now i k n dp dq x y.full) y

pub returns-clause-sets : goal.returns-clause-sets
returns-clause-sets c image from to name new_name cred now i k n dp dq target b maps direct single b1 b2 b3 strong x y new fresh blocks inodes sets =
    move-taken image from to name new_name cred now i k n dp dq target b maps direct single b1 b2 b3 strong (rename-move_at_end image from to name new_name cred now i k n dp dq strong x y.full) (move-room (view image) from to name new_name cred now i k n dp dq x y.full) y new fresh blocks inodes sets
