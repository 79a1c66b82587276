use Rattle.v7_strokes.proofs.FreeQuiet.{free-quiet}
use Rattle.v7_strokes.proofs.laws.a_free_block_takes_a_put.Goals as goal

pub returns : goal.returns
returns c image a bytes weak free long = free-quiet image a bytes weak free long
