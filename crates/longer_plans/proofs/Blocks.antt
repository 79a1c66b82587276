-- The blocks of an inode, from its direct ones and those of its block of addresses.
use Rattle.std.proofs.Common.{◌≡◌, ℕ, ◌-◌, ◌<◌, ◌≤◌, true, sym, ap, ◌∙◌, ⊎_elim, get_or}
use Rattle.std.proofs.lemmas.Bool.{cases_lt}
use Rattle.stable.specs.Store.{Image}
use Rattle.v7_map.specs.Frame.{Head, Place, Body, Single, Double, address_of, listed}
use Rattle.name_plans.proofs.Lengthening.{place-direct, place-listed, place-past, place-single, place-double}

module _ (image : Image) (h : Head) (used : h.is_used ≡ true) (target : Place → ℕ) (direct : (l : ℕ) → l < 10 → get_or h.direct l 0 ≡ target (Body l)) (single : h.single ≡ target Single)
    (lists : (l : ℕ) → 10 ≤ l → l < 138 → listed image (target Single) (l - 10) ≡ target (Body l)) (past : (l : ℕ) → 138 ≤ l → target (Body l) ≡ 0) (double : h.double ≡ target Double) where
  pub gives-blocks : (p : Place) → address_of image h p ≡ target p
  gives-blocks (Body l) = ⊎_elim
      (λ (lt : l < 10). place-direct image h used l lt ∙ direct l lt)
      (λ (ge : 10 ≤ l). ⊎_elim
      (λ (lt : l < 138). place-listed image h used l ge lt ∙ ap (λ b. listed image b (l - 10)) single ∙ lists l ge lt)
      (λ (le : 138 ≤ l). place-past image h used l le ∙ sym (past l le))
      (cases_lt l 138))
      (cases_lt l 10)
  gives-blocks Single = place-single image h used ∙ single
  gives-blocks Double = place-double image h used ∙ double
