use Rattle.presto_cache.proofs.Sparing.{IsSpareBeside}
use Rattle.presto_cache.proofs.spare.Spare.of.Given as goal

abbrev pub invariant-loop-index : goal.invariant-loop-index
invariant-loop-index l = IsSpareBeside l.initial.buffers l.index l.slots l.spare
