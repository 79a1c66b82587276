use Rattle.v7_strokes.proofs.DirTaken.{gone-weak, gone-sizes, gone-head, gone-address, gone-unnamed, gone-links_parent, gone-links_other, gone-view}
use Rattle.v7_strokes.proofs.laws.a_directory_is_taken_away.Goals as goal

pub returns : goal.returns
returns c image d k i name bytes weak x = record {
  weak = gone-weak image d k i name bytes weak x;
  sizes = gone-sizes image d k i name bytes weak x;
  heads = gone-head image d k i name bytes weak x;
  blocks = gone-address image d k i name bytes weak x;
  unnamed = gone-unnamed image d k i name bytes weak x;
  one_less = gone-links_parent image d k i name bytes weak x;
  linked = gone-links_other image d k i name bytes weak x;
  files = λ m at within. gone-view image d k i name bytes weak x m at within;
}
