use Rattle.presto_unit.proofs.Entries.{cleared_adds, last_adds}
use Rattle.presto_unit.proofs.through.clear_or_put_last.Goals as goal

pub returns-in-Ok-clause-adds : goal.returns-in-Ok-clause-adds
returns-in-Ok-clause-adds g c = cleared_adds c.args.cache.now c.args.index c.requires.dirty.within c.requires.dirty.dirty _ c.in-Ok.ensures.answers.done

pub returns-in-Err-clause-adds : goal.returns-in-Err-clause-adds
returns-in-Err-clause-adds g c = last_adds c.args.cache.now c.args.index c.requires.dirty.within c.requires.dirty.dirty _ _ c.in-Err.ensures.answers.failed c.put_last.ensures
