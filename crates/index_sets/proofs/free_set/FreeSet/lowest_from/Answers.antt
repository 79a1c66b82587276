use Rattle.std.proofs.Common.{arith, ◌≡◌, ℕ, true, sym, ap, ◌∙◌}
use Rattle.index_sets.specs.Free.{is_free}
use Rattle.index_sets.specs.Bits.{bit}
use Rattle.index_sets.proofs.SetBits.{free_is, set_inside}
use Rattle.index_sets.proofs.free_set.FreeSet.lowest_from.Goals as goal

pub lowest_from-requires-clause-small : goal.lowest_from-requires-clause-small
lowest_from-requires-clause-small c = let words = c.self.invariant.words in let small = c.self.invariant.small in omega arith

pub overflow_cast-result : goal.overflow_cast-result
overflow_cast-result c =
    let found : bit c.self.inside.words.items c.in-Some.number ≡ true = ap (λ words. bit words c.in-Some.number) (sym c.as_slice.ensures.value) ∙ c.in-Some.ensures.1 in
    let below = set_inside c.self.inside.words.items c.self.inside.size c.in-Some.number c.self.invariant.within found in
    let small = c.self.invariant.small in
    omega arith

-- a number is free by its bit
pub returns-in-Some : goal.returns-in-Some
returns-in-Some c =
    let seen : (i : ℕ) → is_free c.args.self.now i ≡ bit c.as_slice.result.now i = λ i.
    ap (λ free. is_free free i) (sym c.self.view_is) ∙ free_is c.self.inside.words.items c.self.inside.size i c.self.invariant.within ∙ ap (λ words. bit words i) (sym c.as_slice.ensures.value) in
    (c.in-Some.ensures.0, seen c.in-Some.number ∙ c.in-Some.ensures.1, λ i low high. seen i ∙ c.in-Some.ensures.2 i low high)

pub returns-in-None : goal.returns-in-None
returns-in-None c = λ i low.
    ap (λ free. is_free free i) (sym c.self.view_is) ∙ free_is c.self.inside.words.items c.self.inside.size i c.self.invariant.within
    ∙ ap (λ words. bit words i) (sym c.as_slice.ensures.value) ∙ c.in-None.ensures i low
