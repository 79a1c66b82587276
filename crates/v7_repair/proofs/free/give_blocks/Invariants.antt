use Rattle.std.proofs.Common.{◌≡◌, length}
use Rattle.v7_repair.specs.Free.{is_left}
use Rattle.v7_repair.proofs.Giving.{HasBelow}
use Rattle.v7_repair.proofs.free.give_blocks.Given as goal

abbrev pub invariant-loop-block : goal.invariant-loop-block
invariant-loop-block l = record {
  has : HasBelow (is_left l.isize l.needed) l.sets.blocks l.block;
  long : length l.sets.blocks ≡ length l.needed;
  inodes : l.sets.inodes ≡ l.fn.sets.inodes;
}
