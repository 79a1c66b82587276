use Rattle.presto_cache.proofs.Places.{some_unused}
use Rattle.presto_cache.proofs.Sparing.{lowest_unused, all_used, buffer_below}
use Rattle.presto_cache.proofs.cache.Cache.lowest_unused.Goals as goal

pub returns-in-Some-clause-lowest : goal.returns-in-Some-clause-lowest
returns-in-Some-clause-lowest c = lowest_unused c.args.self.now.unused c.in-Some.buffer c.in-Some.ensures

pub returns-in-Some-clause-in_range : goal.returns-in-Some-clause-in_range
returns-in-Some-clause-in_range c = buffer_below c.args.self.now.unused c.in-Some.buffer c.in-Some.ensures

pub returns-in-None-clause-lowest : goal.returns-in-None-clause-lowest
returns-in-None-clause-lowest c =
    let self = c.args.self.now in
    absurd (some_unused self.buffers self.slots.items self.are c.requires.sure c.requires.some (all_used self.unused c.in-None.ensures))
