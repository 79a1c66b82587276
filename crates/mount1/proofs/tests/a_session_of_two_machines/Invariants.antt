use Rattle.std.specs.Prelude.{◌≡◌}
use Rattle.mount1.proofs.tests.a_session_of_two_machines.Given as goal

abbrev pub invariant-loop-procedure : goal.invariant-loop-procedure
invariant-loop-procedure g l = l.mounts.volumes ≡ 2
