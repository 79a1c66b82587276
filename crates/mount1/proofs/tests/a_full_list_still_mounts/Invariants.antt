use Rattle.std.specs.Prelude.{◌≡◌}
use Rattle.mount1.proofs.tests.a_full_list_still_mounts.Given as goal

abbrev pub invariant-loop-machine : goal.invariant-loop-machine
invariant-loop-machine g l = l.mounts.volumes ≡ 2
