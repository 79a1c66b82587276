use Rattle.std.proofs.Common.{refl, arith, length}
use Rattle.rig_mem.proofs.Sectors.{each_filled, each_word}
use Rattle.rig_mem.proofs.mem_rig.MemRig.crash.Goals as goal

pub invariant_of-self-2-clause-shape : goal.invariant_of-self-2-clause-shape
invariant_of-self-2-clause-shape c =
    let whole = c.args.self.shape in
    record {
      disk = refl;
      words = refl;
      buffers = refl;
      each_sector = whole.each_sector;
      each_word = each_word c.args.pick c.ranges.pick.fits _ (length c.args.self.words.items) c.lose_words.ensures;
      each_buffer = each_filled _ (omega arith) _ (length c.args.self.buffers.items) c.lose_buffers.ensures;
    }
