use Rattle.std.specs.Prelude.{◌≡◌, map, take}
use Rattle.volume.specs.Mounted.{root_of}
use Rattle.nfs_worker.proofs.cells.roots_of.Given as goal

abbrev pub invariant-loop-volume : goal.invariant-loop-volume
invariant-loop-volume g l = l.roots.items ≡ map root_of (take l.volume-index l.volumes.items)
