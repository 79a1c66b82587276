use Rattle.v7_strokes.proofs.AttrPut.{attr-weak, attr-sizes, attr-tree, attr-head, attr-heads, attr-addresses, attr-view}
use Rattle.v7_strokes.proofs.Times.{view_after_times}
use Rattle.v7_strokes.proofs.laws.attributes_are_put.Goals as goal

pub returns-clause-changed : goal.returns-clause-changed
returns-clause-changed c image i bytes n weak puts used alike generation = record {
  weak = attr-weak image i bytes n weak puts used alike;
  sizes = attr-sizes image i bytes n weak puts used alike;
  same_tree = attr-tree image i bytes n weak puts used alike;
  head = attr-head image i bytes n weak puts used alike;
  heads = attr-heads image i bytes n weak puts used alike;
  blocks = attr-addresses image i bytes n weak puts used alike;
  files = attr-view image i bytes n weak puts used alike generation;
}

pub returns-clause-times : goal.returns-clause-times
returns-clause-times c image i now bytes n weak at puts = view_after_times image i n weak at bytes now puts
