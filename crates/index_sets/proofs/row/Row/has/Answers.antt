use Rattle.std.proofs.Common.{rules, ◌≡◌, None, get_or, ap, ◌∙◌}
use Rattle.std.specs.Option.{is_some}
use Rattle.index_sets.proofs.Gaps.{has_is}
use Rattle.index_sets.proofs.row.Row.has.Goals as goal

pub returns : goal.returns
returns c =
    let place : c.place_of.result ≡ get_or c.args.self.now.places.items c.args.number None = search rules in
    let is : c.is_some.result ≡ is_some c.place_of.result = search rules in
    is ∙ ap is_some place ∙ has_is c.args.self.now.items.items c.args.self.now.places.items c.args.number c.requires.agrees
