use Rattle.std.proofs.Common.{◌≤◌}
use Rattle.arrayvec.specs.ArrayVec.{array_vec_len}
use Rattle.plan_name.specs.Freeing.{AreBlocksOf}
use Rattle.plan_name.proofs.removing.blocks_of.Given as goal

abbrev pub invariant-loop-index : goal.invariant-loop-index
invariant-loop-index l = record {
  blocks : AreBlocksOf l.places l.index l.blocks.items;
  few : array_vec_len l.blocks ≤ l.index;
}
