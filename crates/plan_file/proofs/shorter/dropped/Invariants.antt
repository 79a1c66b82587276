use Rattle.std.proofs.Common.{◌≤◌, ◌+◌}
use Rattle.arrayvec.specs.ArrayVec.{array_vec_len}
use Rattle.plan_file.specs.Shorter.{AreDropped}
use Rattle.plan_file.proofs.shorter.dropped.Given as goal

abbrev pub invariant-loop-index : goal.invariant-loop-index
invariant-loop-index l = record {
  dropped : AreDropped l.old l.new l.index l.blocks.items;
  few : array_vec_len l.blocks ≤ l.index + 1;
}
