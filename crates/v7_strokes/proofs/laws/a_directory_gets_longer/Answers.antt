use Rattle.v7_strokes.proofs.GrowStep.{grow-weak, grow-sizes, grow-head, grow-heads, grow-address, grow-addresses, grow-links, grow-view}
use Rattle.v7_strokes.proofs.laws.a_directory_gets_longer.Goals as goal

pub returns : goal.returns
returns c image d k n bytes s weak puts x = record {
  weak = grow-weak image d k n bytes s weak puts x;
  sizes = grow-sizes image d k n bytes s weak puts x;
  head = grow-head image d k n bytes s weak puts x;
  heads = grow-heads image d k n bytes s weak puts x;
  own = grow-address image d k n bytes s weak puts x;
  blocks = grow-addresses image d k n bytes s weak puts x;
  linked = grow-links image d k n bytes s weak puts x;
  files = λ i m only apart within at. grow-view image d k n bytes s weak puts x i only apart m at within;
}
