use Rattle.std.proofs.Common.{◌≡◌, replicate, rules, arith, refl}
use Rattle.rig_mem.proofs.Sectors.{each_filled, each_word}
use Rattle.rig_mem.proofs.mem_rig.MemRig.new.Goals as goal

pub with_devices-requires-clause-shape : goal.with_devices-requires-clause-shape
with_devices-requires-clause-shape c =
    let words : c.in_ok-words.words.items ≡ replicate c.if-buffers-eq0.words 0 = search rules in
    record {
      disk = refl;
      words = refl;
      buffers = refl;
      each_sector = each_filled 0 (omega arith) _ c.args.sectors c.in_ok-disk.ensures;
      each_word = each_word 0 (omega arith) _ c.if-buffers-eq0.words words;
      each_buffer = each_filled 0 (omega arith) _ c.args.buffers c.in_ok-buffers.ensures;
    }
