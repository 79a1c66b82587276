-- Marks of the numbers of a list.
use Rattle.std.proofs.Common.{◌≡◌, ◌≢◌, ℕ, ◌<◌, Bool, true, false, ◌||◌, ◌==◌, List, [], ◌∷◌, ◌++◌, length, refl, sym, ap, subst, ◌∙◌, ⊎_elim, eq-eqb}
use Rattle.std.specs.Prelude.{set}
use Rattle.std.proofs.lemmas.Bool.{cases_eq, ne_eqb}
use Rattle.std.proofs.lemmas.List.{length-set, get_or-set_same, get_or-set_other}
use Rattle.std.proofs.lemmas.List.Folds.{list_any-append}
use Rattle.std.specs.List.{list_any}
use Rattle.v7_damage.specs.Marks.{mark_at, is_among, AreSeen}

or_right_false : (a : Bool) → (a || false) ≡ a
or_right_false true = refl
or_right_false false = refl

or_right_true : (a : Bool) → (a || true) ≡ true
or_right_true true = refl
or_right_true false = refl

-- a list with one number more
pub among-more : (xs : List ℕ) (x i : ℕ) → is_among (xs ++ x ∷ []) i ≡ (is_among xs i || (x == i))
unfolding is_among
among-more xs x i = list_any-append (λ y. y == i) xs (x ∷ []) ∙ ap (λ b. list_any (λ y. y == i) xs || b) (or_right_false (x == i))

pub among-other : (xs : List ℕ) (x i : ℕ) → x ≢ i → is_among (xs ++ x ∷ []) i ≡ is_among xs i
among-other xs x i ne = among-more xs x i ∙ ap (λ b. is_among xs i || b) (ne_eqb x i ne) ∙ or_right_false (is_among xs i)

pub among-here : (xs : List ℕ) (x : ℕ) → is_among (xs ++ x ∷ []) x ≡ true
among-here xs x = among-more xs x x ∙ ap (λ b. is_among xs x || b) (eq-eqb x x refl) ∙ or_right_true (is_among xs x)

-- 0 is no block
pub seen_none : (seen : List Bool) (blocks : List ℕ) (b : ℕ) → b ≡ 0 → AreSeen seen blocks → AreSeen seen (blocks ++ b ∷ [])
seen_none seen blocks b none was = record { each = λ c some within. was.each c some within ∙ sym (among-other blocks b c (λ e. some (sym e ∙ none))) }

-- one block more
pub seen_more : (seen : List Bool) (blocks : List ℕ) (b : ℕ) → b < length seen → AreSeen seen blocks → AreSeen (set seen b true) (blocks ++ b ∷ [])
seen_more seen blocks b lt was = record {
  each = λ c some within.
      let inside : c < length seen = subst (λ n. c < n) (length-set seen b true) within in
      ⊎_elim
      (λ (e : c ≡ b). subst (λ d. mark_at (set seen b true) d ≡ is_among (blocks ++ b ∷ []) d) (sym e) (get_or-set_same seen b true false lt ∙ sym (among-here blocks b)))
      (λ (ne : c ≢ b). get_or-set_other seen b c true false ne ∙ was.each c some inside ∙ sym (among-other blocks b c (λ e. ne (sym e))))
      (cases_eq c b);
}
