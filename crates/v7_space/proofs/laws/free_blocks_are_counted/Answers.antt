use Rattle.v7_space.proofs.Space.{free_blocks-counted}
use Rattle.v7_space.proofs.laws.free_blocks_are_counted.Goals as goal

pub returns : goal.returns
returns c image blocks inodes strong are = free_blocks-counted image blocks inodes strong are
