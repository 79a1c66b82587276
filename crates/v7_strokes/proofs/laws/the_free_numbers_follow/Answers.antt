use Rattle.v7_strokes.proofs.SetsAfter.{numbers-stay, number-taken, number-given}
use Rattle.v7_strokes.proofs.laws.the_free_numbers_follow.Goals as goal

pub returns-clause-kept : goal.returns-clause-kept
returns-clause-kept c f g before after inodes keeps holds = numbers-stay f g before after inodes keeps holds

pub returns-clause-taken : goal.returns-clause-taken
returns-clause-taken c old new i n inodes changes holds taken = number-taken old new i n inodes changes holds taken

pub returns-clause-given : goal.returns-clause-given
returns-clause-given c old new i n inodes changes holds room free = number-given old new i n inodes changes holds room free
