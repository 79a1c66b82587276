use Rattle.v7_strokes.proofs.DirStep.{dir-weak, dir-sizes, dir-head, dir-address, dir-links_here, dir-links_parent, dir-links_other, dir-view}
use Rattle.v7_strokes.proofs.laws.a_directory_is_named.Goals as goal

pub returns : goal.returns
returns c image d k i name bytes weak x = record {
  weak = dir-weak image d k i name bytes weak x;
  sizes = dir-sizes image d k i name bytes weak x;
  heads = dir-head image d k i name bytes weak x;
  blocks = dir-address image d k i name bytes weak x;
  two = dir-links_here image d k i name bytes weak x;
  one_more = dir-links_parent image d k i name bytes weak x;
  linked = dir-links_other image d k i name bytes weak x;
  files = λ m at within. dir-view image d k i name bytes weak x m at within;
}
