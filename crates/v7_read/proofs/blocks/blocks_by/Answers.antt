use Rattle.std.proofs.Common.{rules, arith, ◌≢◌, ◌<◌, length, below_more, get_or-set_other, get_or-set_same}
use Rattle.v7_read.proofs.blocks.blocks_by.Goals as goal

pub loop-place-preserved : goal.loop-place-preserved
loop-place-preserved c = record {
  so_far = below_more _ _
      (λ k h. let ne : k ≢ c.loop-place.place = omega arith in rw get_or-set_other (c.loop-place.invariant.so_far k h))
      (let lt : c.loop-place.place < length c.loop-place.places = let l = c.loop-place.invariant.long in let t = c.loop-place-test.true in omega arith in rw get_or-set_same c.block_at.ensures);
  long = search rules;
}
