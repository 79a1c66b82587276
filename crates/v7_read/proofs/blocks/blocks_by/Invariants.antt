use Rattle.std.proofs.Common.{◌≡◌, ℕ, ◌<◌, get_or, length}
use Rattle.v7_read.specs.Places.{block_in}
use Rattle.v7_read.proofs.blocks.blocks_by.Given as goal

abbrev pub invariant-loop-place : goal.invariant-loop-place
invariant-loop-place l = record {
  so_far : (k : ℕ) → k < l.place → get_or l.places k 0 ≡ block_in l.inode l.listing k;
  long : length l.places ≡ 140;
}
