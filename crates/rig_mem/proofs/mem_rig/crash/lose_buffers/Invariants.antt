use Rattle.std.proofs.Common.{◌≡◌, ◌<◌, ℕ, [], length, get_or}
use Rattle.rig_mem.proofs.mem_rig.crash.lose_buffers.Given as goal

abbrev pub invariant-loop-i : goal.invariant-loop-i
invariant-loop-i l = record {
  size : length l.buffers.items ≡ length l.initial.buffers.items;
  each : (k : ℕ) → k < l.i → get_or l.buffers.items k [] ≡ l.bytes;
}
