use Rattle.std.specs.Prelude.{length}
use Rattle.std.specs.List.{AllByRecursion}
use Rattle.nfs_worker.specs.Turns.{TurnsTaken}
use Rattle.nfs_worker.specs.Volumes.{AreOpen}
use Rattle.volume.specs.Rests.{Rests}
use Rattle.nfs_worker.proofs.working.work.Given as goal

abbrev pub invariant-loop-count : goal.invariant-loop-count
invariant-loop-count g l = record {
  taken : TurnsTaken g.S.Stable g.L.Link g.C.Clock l.fn.cells.volumes.items l.cells.volumes.items l.fn.cells.desk l.cells.desk l.fn.post.link l.post.link l.fn.post.clock l.post.clock l.fn.pass l.pass l.count;
  rest : AllByRecursion (Rests g.S.Stable) l.cells.volumes.items;
  desk : AreOpen (length l.cells.volumes.items) l.cells.desk;
}
