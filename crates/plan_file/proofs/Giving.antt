-- A set of free blocks is given those that a file has dropped.
use Rattle.std.proofs.Common.{◌≡◌, ◌≢◌, ◌⊎◌, ℕ, zero, suc, ◌<◌, ◌≤◌, Bool, true, false, ◌||◌, List, [], ◌∷◌, length, set, refl, sym, ap, subst, ◌∙◌, arith, inl, inr, ⊎_elim, eqb, eq-eqb, length-set, get_or-set_same, get_or-set_other}
use Rattle.std.proofs.lemmas.Bool.{cases_eq, cases_lt, cases_Bool, eqb-true}
use Rattle.files_model.specs.Among.{is_among}
use Rattle.index_sets.specs.Free.{is_free}
use Rattle.v7_map.specs.Frame.{Frame, Place}
use Rattle.v7_map.specs.Weak.{IsWeak}
use Rattle.v7_map.proofs.Walks.{or_cases}
use Rattle.v7_sets.specs.Sets.{IsFreeBlock}
use Rattle.plan_file.specs.Free.{AreFree}
use Rattle.v7_sets.specs.Given.{given}
pub use Rattle.v7_sets.proofs.Given.{length-given, given-has, given-new, given-only}

-- the places of file i change from f to g, and these blocks are dropped
module _ (f g : Frame) (i : ℕ) (freed : List ℕ) (weak : IsWeak f) (same_isize : g.isize ≡ f.isize) (same_fsize : g.fsize ≡ f.fsize)
    (others : (j : ℕ) → j ≢ i → (p : Place) → g.address j p ≡ f.address j p) (kept : (p : Place) → g.address i p ≢ 0 → g.address i p ≡ f.address i p)
    (back : (p : Place) → f.address i p ≢ 0 → g.address i p ≡ 0 → is_among (f.address i p) freed ≡ true)
    (only : (a : ℕ) → ((p : Place) → f.address i p ≢ 0 → g.address i p ≡ 0 → f.address i p ≢ a) → is_among a freed ≡ false)
    (blocks : List Bool) (are : AreFree f blocks) (room : f.fsize ≤ length blocks) where
  clash : (t : Bool) → t ≡ true → t ≡ false → ⊥
  clash true x y = cc
  clash false x y = cc

  from_old : (a : ℕ) → IsFreeBlock f a → IsFreeBlock g a
  from_old a x =
      let low = x.low in let three = weak.sizes.low in
      let some : a ≢ 0 = λ z. omega arith in record {
        low = subst (λ n. n ≤ a) (sym same_isize) x.low;
        high = subst (λ n. a < n) (sym same_fsize) x.high;
        nowhere = λ j p e. ⊎_elim
            (λ (q : j ≡ i). let here : g.address i p ≡ a = ap (λ k. g.address k p) (sym q) ∙ e in x.nowhere i p (sym (kept p (λ z. some (sym here ∙ z))) ∙ here))
            (λ (ne : j ≢ i). x.nowhere j p (sym (others j ne p) ∙ e))
            (cases_eq j i);
      }

  in_range : (a : ℕ) → is_among a freed ≡ true → (f.isize ≤ a) × (a < f.fsize)
  in_range a h = (
    ⊎_elim (λ (lt : a < f.isize). absurd (clash (is_among a freed) h (only a (λ p nz z e. let d = (weak.data_block i p nz).0 in omega arith)))) (λ (ge : f.isize ≤ a). ge) (cases_lt a f.isize),
    ⊎_elim (λ (lt : a < f.fsize). lt) (λ (ge : f.fsize ≤ a). absurd (clash (is_among a freed) h (only a (λ p nz z e. let d = (weak.data_block i p nz).1 in omega arith)))) (cases_lt a f.fsize),
  )

  from_freed : (a : ℕ) → is_among a freed ≡ true → IsFreeBlock g a
  from_freed a h =
      let r = in_range a h in
      let three = weak.sizes.low in
      let some : a ≢ 0 = λ z. let low : f.isize ≤ a = r.0 in omega arith in record {
        low = subst (λ n. n ≤ a) (sym same_isize) r.0;
        high = subst (λ n. a < n) (sym same_fsize) r.1;
        nowhere = λ j p e. ⊎_elim
            (λ (q : j ≡ i). let here : g.address i p ≡ a = ap (λ k. g.address k p) (sym q) ∙ e in
            let was : f.address i p ≡ a = sym (kept p (λ z. some (sym here ∙ z))) ∙ here in
            clash (is_among a freed) h (only a (λ r' nz z e2. let u = weak.unshared i i r' p nz (e2 ∙ sym was) in some (sym here ∙ ap (g.address i) (sym u.1) ∙ z))))
            (λ (ne : j ≢ i).
            let was : f.address j p ≡ a = sym (others j ne p) ∙ e in
            clash (is_among a freed) h (only a (λ r' nz z e2. let u = weak.unshared i j r' p nz (e2 ∙ sym was) in ne (sym u.0))))
            (cases_eq j i);
      }

  pub given-free : AreFree g (given freed blocks)
  given-free = record {
    free = λ a h. ⊎_elim (λ (y : is_free blocks a ≡ true). from_old a (are.free a y)) (λ (y : is_among a freed ≡ true). from_freed a y) (given-only freed blocks a h);
    each = λ a x. ⊎_elim
        (λ (y : is_free blocks a ≡ true). given-has freed blocks a y)
        (λ (n : is_free blocks a ≡ false). ⊎_elim
        (λ (y : is_among a freed ≡ true). given-new freed blocks a y (let h : a < g.fsize = x.high in let h' : a < f.fsize = subst (λ m. a < m) same_fsize h in omega arith))
        (λ (out : is_among a freed ≡ false). absurd (clash (is_free blocks a) (are.each a (was_free a x out)) n))
        (cases_Bool (is_among a freed)))
        (cases_Bool (is_free blocks a));
  }
    where
      was_free : (a : ℕ) → IsFreeBlock g a → is_among a freed ≡ false → IsFreeBlock f a
      was_free a x out =
          let low : f.isize ≤ a = subst (λ n. n ≤ a) same_isize x.low in
          let three = weak.sizes.low in
          let some : a ≢ 0 = λ z. omega arith in record {
            low = low;
            high = subst (λ n. a < n) same_fsize x.high;
            nowhere = λ j p e. ⊎_elim
                (λ (q : j ≡ i). let here : f.address i p ≡ a = ap (λ k. f.address k p) (sym q) ∙ e in ⊎_elim
                (λ (z : g.address i p ≡ 0). clash (is_among a freed) (ap (λ n. is_among n freed) (sym here) ∙ back p (λ y. some (sym here ∙ y)) z) out)
                (λ (nz : g.address i p ≢ 0). x.nowhere i p (kept p nz ∙ here))
                (cases_eq (g.address i p) 0))
                (λ (ne : j ≢ i). x.nowhere j p (others j ne p ∙ e))
                (cases_eq j i);
          }
