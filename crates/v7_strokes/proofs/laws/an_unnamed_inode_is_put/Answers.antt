use Rattle.v7_strokes.proofs.Unnamed.{unnamed-weak, unnamed-sizes, unnamed-head, unnamed-heads, unnamed-address, unnamed-addresses, unnamed-links, unnamed-named, unnamed-view}
use Rattle.v7_strokes.proofs.Numbers.{unnamed-numbers}
use Rattle.v7_strokes.proofs.laws.an_unnamed_inode_is_put.Goals as goal

pub returns-clause-left : goal.returns-clause-left
returns-clause-left c image i bytes n weak puts placed low unnamed = record {
  weak = unnamed-weak image i bytes n weak puts placed low unnamed;
  sizes = unnamed-sizes image i bytes n weak puts placed low unnamed;
  head = unnamed-head image i bytes n weak puts placed low unnamed;
  heads = unnamed-heads image i bytes n weak puts placed low unnamed;
  own = unnamed-address image i bytes n weak puts placed low unnamed;
  blocks = unnamed-addresses image i bytes n weak puts placed low unnamed;
  linked = unnamed-links image i bytes n weak puts placed low unnamed;
  named = unnamed-named image i bytes n weak puts placed low unnamed;
  files = unnamed-view image i bytes n weak puts placed low unnamed;
}

pub returns-clause-numbers : goal.returns-clause-numbers
returns-clause-numbers c image i bytes n weak puts placed low unnamed within = unnamed-numbers image i bytes n weak puts placed low unnamed within
