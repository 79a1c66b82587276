use Rattle.std.proofs.Common.{◌∙◌, inr, sym}
use Rattle.presto_unit.proofs.Entries.{stuck_adds, stuck_next}
use Rattle.presto_unit.proofs.flush.flush_next.Goals as goal

pub returns-in-Err-clause-tried : goal.returns-in-Err-clause-tried
returns-in-Err-clause-tried g c = record {
  later = c.flush_oldest.ensures.device.later;
  device = c.first_of.ensures.device;
  fate = inr (stuck_next c.args.cache.now c.flush_oldest.new.cache c.in-Some.index c.first_of.result _ _ c.in-Some.ensures.dirty.0 (sym c.oldest.ensures.oldest ∙ c.in-Some.is) c.in-Err.ensures.tried c.first_of.ensures.some c.in-Err.ensures.device.failed.1);
}

pub returns-in-Err-clause-adds : goal.returns-in-Err-clause-adds
returns-in-Err-clause-adds g c =
    stuck_adds c.args.cache.now c.in-Some.index c.in-Some.ensures.dirty.0 c.in-Some.ensures.dirty.1 (sym c.oldest.ensures.oldest ∙ c.in-Some.is) _ c.in-Err.ensures.tried
