use Rattle.v7_plans.proofs.CutQuiet.{cut-quiet}
use Rattle.v7_plans.proofs.laws.zeros_past_the_size_are_quiet.Goals as goal

pub returns : goal.returns
returns c image i k a bytes weak file is there same long = cut-quiet image i k a bytes weak file is there same long
