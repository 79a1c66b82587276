use Rattle.std.proofs.Common.{◌≡◌, ◌+◌, ◌≤◌, ◌++◌, length}
use Rattle.std.specs.List.{AllByRecursion}
use Rattle.std.specs.Vec.Iter.{into_iter_items, into_iter_len}
use Rattle.volume.specs.Rests.{Rests}
use Rattle.run_lines.specs.Overlays.{unit_store}
use Rattle.server_volumes.specs.Ends.{EndsAll}
use Rattle.server_volumes.proofs.ending.stop_all.Given as goal

abbrev pub invariant-loop-volume : goal.invariant-loop-volume
invariant-loop-volume g l = record {
  ends : EndsAll g.H.Host g.H.Say g.H.R.Rig l.fn.host l.host l.yielded l.all.items;
  rest : AllByRecursion (Rests (unit_store g.H.R.Rig)) (into_iter_items l.volume-iterator);
  whole : l.yielded ++ into_iter_items l.volume-iterator ≡ into_iter_items l.initial.volume-iterator;
  left : into_iter_len l.volume-iterator ≡ length (into_iter_items l.volume-iterator);
}
