use Rattle.std.proofs.Common.{◌≡◌}
use Rattle.rig_mem.specs.Gates.{known, with_looks}
use Rattle.rig_mem.proofs.gate_pauser.wait_for.Given as goal

abbrev pub invariant-loop : goal.invariant-loop
invariant-loop g l = record {
  ours : l.seat.table_id ≡ l.fn.seat.table_id;
  known : known l.seat ≡ with_looks (known l.fn.seat) l.counter;
}
