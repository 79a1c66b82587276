use Rattle.v7_strokes.proofs.Ended.{ended-frees}
use Rattle.v7_strokes.proofs.laws.an_ended_inode_frees_its_blocks.Goals as goal

pub returns : goal.returns
returns c image i generation bytes weak puts low unnamed = ended-frees image i generation bytes weak puts low unnamed
