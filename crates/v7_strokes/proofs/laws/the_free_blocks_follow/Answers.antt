use Rattle.v7_strokes.proofs.SetsAfter.{blocks-given, blocks-taken}
use Rattle.v7_strokes.proofs.laws.the_free_blocks_follow.Goals as goal

pub returns-clause-given : goal.returns-clause-given
returns-clause-given c f g i old new weak freed isize holds gives = blocks-given f g i old new weak freed isize holds gives

pub returns-clause-taken : goal.returns-clause-taken
returns-clause-taken c f g i old new weak gains holds takes = blocks-taken f g i old new weak gains holds takes
