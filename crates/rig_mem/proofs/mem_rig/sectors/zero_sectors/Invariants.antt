use Rattle.std.proofs.Common.{◌≡◌, replicate}
use Rattle.rig_mem.proofs.mem_rig.sectors.zero_sectors.Given as goal

abbrev pub invariant-loop-i : goal.invariant-loop-i
invariant-loop-i l = l.sectors.items ≡ replicate l.i (replicate 512 0)
