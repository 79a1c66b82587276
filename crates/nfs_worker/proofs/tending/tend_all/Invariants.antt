use Rattle.std.specs.Prelude.{◌≡◌, length}
use Rattle.nfs_worker.specs.Turns.{Tends}
use Rattle.nfs_worker.proofs.Places.{DoneTo}
use Rattle.nfs_worker.proofs.tending.tend_all.Given as goal

abbrev pub invariant-loop-at : goal.invariant-loop-at
invariant-loop-at g l = record {
  done : DoneTo (Tends g.S.Stable l.fn.is_new_second) l.at l.fn.volumes.items l.volumes.items;
  same : length l.volumes.items ≡ length l.fn.volumes.items;
}
