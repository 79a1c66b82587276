-- Sets that were given some, or from which some were taken.
use Rattle.std.proofs.Common.{◌≡◌, ◌≢◌, ◌⊎◌, ℕ, zero, suc, ◌<◌, ◌≤◌, Bool, true, false, ◌||◌, List, [], ◌∷◌, length, set, refl, sym, ap, subst, ◌∙◌, arith, inl, inr, ⊎_elim, eqb, eq-eqb, length-set, get_or-set_same, get_or-set_other}
use Rattle.std.proofs.lemmas.Bool.{cases_eq, cases_lt, eqb-true}
use Rattle.files_model.specs.Among.{is_among}
use Rattle.index_sets.specs.Free.{is_free}
use Rattle.v7_map.proofs.Walks.{or_cases}
use Rattle.v7_sets.specs.Given.{given}

pub length-given : (freed : List ℕ) (blocks : List Bool) → length (given freed blocks) ≡ length blocks
length-given [] blocks = refl
length-given (x ∷ xs) blocks = length-given xs (set blocks x true) ∙ length-set blocks x true

set-has : (blocks : List Bool) (x a : ℕ) → is_free blocks a ≡ true → is_free (set blocks x true) a ≡ true
set-has blocks x a h = ⊎_elim
    (λ (e : a ≡ x). ⊎_elim
    (λ (lt : x < length blocks). ap (λ q. is_free (set blocks x true) q) e ∙ get_or-set_same blocks x true false lt)
    (λ (ge : length blocks ≤ x). absurd (past blocks a (subst (λ q. length blocks ≤ q) (sym e) ge) h))
    (cases_lt x (length blocks)))
    (λ (ne : a ≢ x). get_or-set_other blocks x a true false ne ∙ h)
    (cases_eq a x)
  where
    past : (bs : List Bool) (k : ℕ) → length bs ≤ k → is_free bs k ≡ true → ⊥
    past [] k le e = cc
    past (b ∷ bs) zero le e = omega arith
    past (b ∷ bs) (suc k) le e = past bs k (omega arith) e

pub given-has : (freed : List ℕ) (blocks : List Bool) (a : ℕ) → is_free blocks a ≡ true → is_free (given freed blocks) a ≡ true
given-has [] blocks a h = h
given-has (x ∷ xs) blocks a h = given-has xs (set blocks x true) a (set-has blocks x a h)

pub given-new : (freed : List ℕ) (blocks : List Bool) (a : ℕ) → is_among a freed ≡ true → a < length blocks → is_free (given freed blocks) a ≡ true
given-new [] blocks a h lt = absurd (cc)
given-new (x ∷ xs) blocks a h lt = ⊎_elim
    (λ (e : eqb x a ≡ true). let same : x ≡ a = eqb-true x a e in given-has xs (set blocks x true) a (subst (λ q. is_free (set blocks q true) a ≡ true) (sym same) (get_or-set_same blocks a true false lt)))
    (λ (e : is_among a xs ≡ true). given-new xs (set blocks x true) a e (let l = length-set blocks x true in omega arith))
    (or_cases (eqb x a) (is_among a xs) h)

pub given-only : (freed : List ℕ) (blocks : List Bool) (a : ℕ) → is_free (given freed blocks) a ≡ true → (is_free blocks a ≡ true) ⊎ (is_among a freed ≡ true)
given-only [] blocks a h = inl h
given-only (x ∷ xs) blocks a h = ⊎_elim
    (λ (e : a ≡ x). inr (ap (λ t. t || is_among a xs) (eq-eqb x a (sym e))))
    (λ (ne : a ≢ x). ⊎_elim
    (λ (y : is_free (set blocks x true) a ≡ true). inl (sym (get_or-set_other blocks x a true false ne) ∙ y))
    (λ (y : is_among a xs ≡ true). inr (right (eqb x a) (is_among a xs) y))
    (given-only xs (set blocks x true) a h))
    (cases_eq a x)
  where
    right : (s t : Bool) → t ≡ true → (s || t) ≡ true
    right true t e = refl
    right false t e = e
