use Rattle.rig.specs.Looked.{Stays}
use Rattle.presto_cache.specs.Cache.{entries_of, Knows}
use Rattle.presto_unit.specs.Disk.{FlushesAll}
use Rattle.presto_unit.specs.Flushing.{AddsNone}
use Rattle.presto_unit.proofs.Tried.{HaveTried}
use Rattle.presto_unit.proofs.flush.flush_all.Given as goal

abbrev pub invariant-loop-done : goal.invariant-loop-done
invariant-loop-done g l =
    let R = g.R.Rig in
    record {
      knows : Knows R l.rig l.cache;
      tried : HaveTried (entries_of l.fn.cache) l._done l.first (R.faults l.fn.rig) (R.faults l.rig) (entries_of l.cache);
      adds : AddsNone l.fn.cache l.cache;
      crash : FlushesAll R l.fn.rig l.rig;
      stays : Stays R l.fn.rig l.rig;
    }
