use Rattle.std.proofs.Common.{rules, arith, ◌≡◌, ◌/◌, ◌%◌, ◌==◌, refl, get_or, sym, ap, ◌∙◌}
use Rattle.std.specs.Int.{bit_at}
use Rattle.index_sets.specs.Free.{is_free}
use Rattle.index_sets.proofs.SetBits.{bit_at_place, free_is, free-past}
use Rattle.index_sets.proofs.free_set.FreeSet.has.Goals as goal

pub returns-then-number-self : goal.returns-then-number-self
returns-then-number-self c = sym (ap (λ s. is_free s c.args.number) (sym c.self.view_is) ∙ free-past c.self.inside.words.items c.self.inside.size c.args.number (omega (arith, c.if-number-self.true)))

pub returns : goal.returns
returns c =
    let word : c.word_at.result ≡ get_or c.self.inside.words.items (c.args.number / 64) 0 = search rules in
    c.has_bit.ensures ∙ ap (λ w. bit_at w (c.args.number % 64) == 1) word
    ∙ sym (ap (λ s. is_free s c.args.number) (sym c.self.view_is) ∙ free_is c.self.inside.words.items c.self.inside.size c.args.number c.self.invariant.within
    ∙ bit_at_place c.self.inside.words.items c.args.number (c.args.number / 64) (c.args.number % 64) refl refl)
