use Rattle.std.proofs.Common.{◌≡◌, ◌<◌, None, get_or, length, ap, subst, ◌∙◌}
use Rattle.std.specs.Option.{IfSome}
use Rattle.index_sets.proofs.Gaps.{below_size}
use Rattle.index_sets.proofs.index_queue.IndexQueue.first.Goals as goal

pub returns-clause-below : goal.returns-clause-below
returns-clause-below c =
    let is : c.first.result ≡ get_or c.self.inside.row.items.items c.self.inside.row.head None = c.first.ensures ∙ c.self.invariant.first in
    let size : length c.self.inside.row.places.items ≡ c.args.self.now.size = c.self.invariant.size ∙ ap (λ queue. queue.size) c.self.view_is in
    subst (λ n. IfSome c.first.result (λ number. number < n)) size (below_size c.self.inside.row.items.items c.self.inside.row.places.items c.self.inside.row.head c.first.result c.self.invariant.agrees is)
