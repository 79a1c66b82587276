use Rattle.std.proofs.Common.{◌∙◌, sym}
use Rattle.presto_cache.specs.Order.{listed}
use Rattle.presto_cache.proofs.Listing.{none_listed}
use Rattle.presto_cache.proofs.Counting.{listed_count}
use Rattle.presto_cache.proofs.cache.Cache.dirty.Goals as goal

pub returns-clause-none : goal.returns-clause-none
returns-clause-none c =
    let self = c.args.self.now in
    λ zero. none_listed self.slots.items (listed self.order) self.ordered (sym c.len.ensures ∙ zero)

pub returns-clause-number : goal.returns-clause-number
returns-clause-number c =
    let self = c.args.self.now in
    c.len.ensures ∙ listed_count self.slots.items (listed self.order) self.ordered
