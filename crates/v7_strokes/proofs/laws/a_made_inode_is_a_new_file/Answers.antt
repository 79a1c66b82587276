use Rattle.v7_strokes.proofs.NewFile.{made-is_new}
use Rattle.v7_strokes.proofs.laws.a_made_inode_is_a_new_file.Goals as goal

pub returns : goal.returns
returns c image i generation m regular mode one size sectors slots = made-is_new image i generation m regular mode one size sectors slots
