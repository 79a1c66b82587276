-- One block more is dropped, or isn't.
use Rattle.std.proofs.Common.{◌≡◌, ◌≢◌, ℕ, ◌+◌, Bool, true, false, cond, ◌||◌, ◌==◌, List, [], ◌∷◌, ◌++◌, get_or, refl, sym, ap, ◌∙◌, arith, ⊎_elim, eqb, eq-eqb}
use Rattle.std.proofs.lemmas.Bool.{cases_eq, cases_Bool, ne_eqb}
use Rattle.std.proofs.lemmas.List.Folds.{list_any-append}
use Rattle.files_model.specs.Among.{is_among}
use Rattle.plan_file.specs.declared.places.Places.{Places}
use Rattle.plan_file.specs.Shorter.{is_dropped, AreDropped}

or_true : (t : Bool) → (t || true) ≡ true
or_true true = refl
or_true false = refl

module _ (old new : Places) where
  pub dropped-none : (bs : List ℕ) → bs ≡ cond (is_dropped old.single new.single) (old.single ∷ []) [] → AreDropped old new 0 bs
  dropped-none bs is = record {
    body = λ k lt. absurd (omega arith);
    single = λ d. ap (is_among old.single) (is ∙ ap (λ t. cond t (old.single ∷ []) []) d) ∙ ap (λ t. t || false) (eq-eqb old.single old.single refl);
    others = λ a bodies single. ⊎_elim
        (λ (d : is_dropped old.single new.single ≡ true). ap (is_among a) (is ∙ ap (λ t. cond t (old.single ∷ []) []) d) ∙ ap (λ t. t || false) (ne_eqb old.single a (single d)))
        (λ (d : is_dropped old.single new.single ≡ false). ap (is_among a) (is ∙ ap (λ t. cond t (old.single ∷ []) []) d))
        (cases_Bool (is_dropped old.single new.single));
  }

  module _ (i : ℕ) (bs : List ℕ) (x : AreDropped old new i bs) where
    pub dropped-same : is_dropped (get_or old.body i 0) (get_or new.body i 0) ≡ false → AreDropped old new (i + 1) bs
    dropped-same none = record {
      body = λ k lt d. ⊎_elim
          (λ (e : k ≡ i). let no' : is_dropped (get_or old.body k 0) (get_or new.body k 0) ≡ false = ap (λ q. is_dropped (get_or old.body q 0) (get_or new.body q 0)) e ∙ none in absurd (cc))
          (λ (ne : k ≢ i). x.body k (omega arith) d)
          (cases_eq k i);
      single = x.single;
      others = λ a bodies single. x.others a (λ k lt. bodies k (omega arith)) single;
    }

    pub dropped-more : is_dropped (get_or old.body i 0) (get_or new.body i 0) ≡ true → (more : List ℕ) → more ≡ bs ++ get_or old.body i 0 ∷ [] → AreDropped old new (i + 1) more
    dropped-more yes' more is = record {
      body = λ k lt d. split (get_or old.body k 0) ∙ ⊎_elim
          (λ (e : k ≡ i). ap (λ t. is_among (get_or old.body k 0) bs || (t || false)) (eq-eqb (get_or old.body i 0) (get_or old.body k 0) (ap (λ q. get_or old.body q 0) (sym e))) ∙ or_true (is_among (get_or old.body k 0) bs))
          (λ (ne : k ≢ i). ap (λ t. t || (eqb (get_or old.body i 0) (get_or old.body k 0) || false)) (x.body k (omega arith) d))
          (cases_eq k i);
      single = λ d. split old.single ∙ ap (λ t. t || (eqb (get_or old.body i 0) old.single || false)) (x.single d);
      others = λ a bodies single. split a ∙ (λ z. x.others a (λ k lt. bodies k (omega arith)) single z || (ne_eqb (get_or old.body i 0) a (bodies i (omega arith) yes') z || false));
    }
      where
        split : (a : ℕ) → is_among a more ≡ (is_among a bs || (eqb (get_or old.body i 0) a || false))
        split a = ap (is_among a) is ∙ list_any-append (λ q. q == a) bs (get_or old.body i 0 ∷ [])
