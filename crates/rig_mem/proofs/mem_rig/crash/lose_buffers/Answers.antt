use Rattle.std.proofs.Common.{◌∙◌, ap, arith, [], length, replicate}
use Rattle.rig_mem.proofs.Sectors.{all_same}
use Rattle.rig_mem.proofs.mem_rig.crash.lose_buffers.Goals as goal

pub returns : goal.returns
returns c =
    all_same c.loop-i.buffers.items (length c.args.buffers.now.items) c.filled-bytes.result [] (omega arith) (λ k lt. c.loop-i.invariant.each k (omega arith))
    ∙ ap (λ x. replicate (length c.args.buffers.now.items) x) c.filled-bytes.ensures.is
