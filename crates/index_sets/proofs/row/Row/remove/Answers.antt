use Rattle.std.proofs.Common.{rules, ◌≡◌, None, get_or, sym, ap, ◌∙◌}
use Rattle.std.specs.Option.{is_some}
use Rattle.index_sets.proofs.Gaps.{numbers_not, has_is}
use Rattle.index_sets.proofs.row.Row.remove.Goals as goal

pub returns-in-None-clause-listed : goal.returns-in-None-clause-listed
returns-in-None-clause-listed c =
    let none : get_or c.args.self.now.places.items c.args.number None ≡ None = search rules in
    numbers_not c.args.self.now.items.items c.args.number (λ p here. let e = c.requires.agrees.placed p c.args.number here in cc)

pub returns-in-None-clause-gone : goal.returns-in-None-clause-gone
returns-in-None-clause-gone c =
    let none : get_or c.args.self.now.places.items c.args.number None ≡ None = search rules in
    sym (has_is c.args.self.now.items.items c.args.self.now.places.items c.args.number c.requires.agrees) ∙ ap is_some none
