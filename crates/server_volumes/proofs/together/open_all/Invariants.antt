use Rattle.std.proofs.Common.{◌≡◌, ◌≤◌, length}
use Rattle.std.specs.Prelude.{vec_capacity}
use Rattle.server_volumes.specs.Opens.{OpensAll}
use Rattle.server_volumes.proofs.together.open_all.Given as goal

abbrev pub invariant-loop-named : goal.invariant-loop-named
invariant-loop-named g l = record {
  opens : OpensAll g.H.Host g.H.Say g.H.R.Rig l.options l.fn.host l.host l.volumes.items;
  count : length l.volumes.items ≡ l.named-index;
  room : length l.asked ≤ vec_capacity l.volumes;
}
