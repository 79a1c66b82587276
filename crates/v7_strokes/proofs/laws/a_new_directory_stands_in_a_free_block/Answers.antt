use Rattle.v7_strokes.proofs.NewBody.{new-directory}
use Rattle.v7_strokes.proofs.laws.a_new_directory_stands_in_a_free_block.Goals as goal

pub returns : goal.returns
returns c image i p a generation m weak free kind mode two size sectors slots dot dots = new-directory image i p a generation m weak free kind mode two size sectors slots dot dots
