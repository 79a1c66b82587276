use Rattle.v7_strokes.proofs.SlotStep.{step-weak, step-sizes, step-heads, step-addresses, step-links}
use Rattle.v7_strokes.proofs.Nodewise.{slot-node_other, slot-node_counted, slot-node_dir, slot-rest}
use Rattle.v7_strokes.proofs.laws.a_slot_is_put.Goals as goal

pub returns : goal.returns
returns c image d k a bytes s weak x = record {
  weak = step-weak image d k a bytes s weak x;
  sizes = step-sizes image d k a bytes s weak x;
  heads = step-heads image d k a bytes s weak x;
  blocks = step-addresses image d k a bytes s weak x;
  linked = step-links image d k a bytes s weak x;
  directory = slot-node_dir image d k a bytes s weak x;
  named = slot-node_counted image d k a bytes s weak x;
  others = slot-node_other image d k a bytes s weak x;
  rest = slot-rest image d k a bytes s weak x;
}
