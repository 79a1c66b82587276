use Rattle.std.specs.Prelude.{◌≡◌, map, take}
use Rattle.nfs_worker.specs.Volumes.{puts_of}
use Rattle.nfs_worker.proofs.cells.puts_of.Given as goal

abbrev pub invariant-loop-volume : goal.invariant-loop-volume
invariant-loop-volume g l = l.puts.items ≡ map (puts_of g.S.Stable) (take l.volume-index l.volumes.items)
