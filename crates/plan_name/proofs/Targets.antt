-- The places of a directory of which a sector is to be held are a target.
use Rattle.std.proofs.Common.{◌≡◌, ◌≢◌, ℕ, ◌<◌, ◌≤◌, Bool, true, false, cond, not, ◌||◌, ◌==◌, [], ◌∷◌, ◌++◌, refl, sym, ap, subst, ◌∙◌, arith, ⊎_elim, eqb, eq-eqb, Option, Some, None}
use Rattle.std.proofs.lemmas.Bool.{cases_eq, cases_lt, ne_eqb, eqb-true}
use Rattle.std.proofs.lemmas.List.Folds.{list_any-append}
use Rattle.std.specs.List.{range_with_len, list_any}
use Rattle.files_model.specs.Among.{is_among}
use Rattle.name_plans.specs.Lengthening.{MapPuts, same, changed}
use Rattle.name_plans.specs.Taken.{AreNewBlocks}
use Rattle.v7_map.specs.Frame.{Frame, Place, Body, Single, Double, IsFrame}
use Rattle.v7_map.specs.Weak.{IsStrong}
use Rattle.v7_map.proofs.Walks.{among, any_found, any_at, among-range, or_left, or_right}
use Rattle.v7_sets.specs.Sets.{IsFreeBlock}
use Rattle.v7_strokes.specs.Targets.{IsTarget}
use Rattle.plan_name.specs.Creating.{map_puts}
use Rattle.plan_name.specs.LayingOut.{PutsMap, if_new, one_of}
use Rattle.plan_name.specs.declared.creating_puts.Listing.{Listing}

-- the places of directory d with sector q at block a, and the block of addresses at b
abbrev pub laid_at : Frame → ℕ → ℕ → ℕ → ℕ → Place → ℕ
laid_at f d q a b (Body k) = cond (eqb k q) a (f.address d (Body k))
laid_at f d q a b Single = b
laid_at f d q a b Double = 0

module _ (f : Frame) (d q a b : ℕ) (strong : IsStrong f) (is_frame : IsFrame f) (below : q < 138)
    (sector_old : f.address d (Body q) ≢ 0 → a ≡ f.address d (Body q)) (sector_new : f.address d (Body q) ≡ 0 → IsFreeBlock f a)
    (single_old : f.address d Single ≢ 0 → b ≡ f.address d Single) (single_direct : q < 10 → b ≡ f.address d Single)
    (single_new : f.address d Single ≡ 0 → 10 ≤ q → IsFreeBlock f b × (a < b)) where
  here : (k : ℕ) → k ≡ q → laid_at f d q a b (Body k) ≡ a
  here k e = ap (λ t. cond t a (f.address d (Body k))) (eq-eqb k q e)

  other : (k : ℕ) → k ≢ q → laid_at f d q a b (Body k) ≡ f.address d (Body k)
  other k ne = ap (λ t. cond t a (f.address d (Body k))) (ne_eqb k q ne)

  nonzero : (c : ℕ) → IsFreeBlock f c → c ≢ 0
  nonzero c free z = let low = free.low in let three = strong.weak.sizes.low in omega arith

  sector_some : a ≢ 0
  sector_some z = ⊎_elim
      (λ (e : f.address d (Body q) ≡ 0). nonzero a (sector_new e) z)
      (λ (h : f.address d (Body q) ≢ 0). h (sym (sector_old h) ∙ z))
      (cases_eq (f.address d (Body q)) 0)

  -- a new block of addresses is one for sector q
  single_taken : f.address d Single ≡ 0 → b ≢ 0 → (10 ≤ q) × IsFreeBlock f b × (a < b)
  single_taken z nz = ⊎_elim
      (λ (lt : q < 10). absurd (nz (single_direct lt ∙ z)))
      (λ (ge : 10 ≤ q). let r = single_new z ge in (ge, r.0, r.1))
      (cases_lt q 10)

  kept : (p : Place) → f.address d p ≢ 0 → laid_at f d q a b p ≡ f.address d p
  kept (Body k) h = ⊎_elim
      (λ (e : k ≡ q). let same_place : f.address d (Body k) ≡ f.address d (Body q) = ap (λ j. f.address d (Body j)) e in here k e ∙ sector_old (λ z. h (same_place ∙ z)) ∙ sym same_place)
      (λ (ne : k ≢ q). other k ne)
      (cases_eq k q)
  kept Single h = single_old h
  kept Double h = absurd (h (strong.weak.no_double d))

  fresh : (p : Place) → f.address d p ≡ 0 → laid_at f d q a b p ≢ 0 → IsFreeBlock f (laid_at f d q a b p)
  fresh (Body k) z nz = ⊎_elim
      (λ (e : k ≡ q). subst (IsFreeBlock f) (sym (here k e)) (sector_new (ap (λ j. f.address d (Body j)) (sym e) ∙ z)))
      (λ (ne : k ≢ q). absurd (nz (other k ne ∙ z)))
      (cases_eq k q)
  fresh Single z nz = (single_taken z nz).1
  fresh Double z nz = absurd (nz refl)

  new_body : (k : ℕ) → f.address d (Body k) ≡ 0 → laid_at f d q a b (Body k) ≢ 0 → k ≡ q
  new_body k z nz = ⊎_elim (λ (e : k ≡ q). e) (λ (ne : k ≢ q). absurd (nz (other k ne ∙ z))) (cases_eq k q)

  body_single : (k : ℕ) → f.address d (Body k) ≡ 0 → f.address d Single ≡ 0 → laid_at f d q a b (Body k) ≢ 0 → laid_at f d q a b (Body k) ≡ b → ⊥
  body_single k z y nz e =
      let s = single_taken y (λ t. nz (e ∙ t)) in
      let lt : a < b = s.2 in
      let equal : a ≡ b = sym (here k (new_body k z nz)) ∙ e in omega (arith, lt, equal)

  both_new : (p r : Place) → f.address d p ≡ 0 → f.address d r ≡ 0 → laid_at f d q a b p ≢ 0 → laid_at f d q a b p ≡ laid_at f d q a b r → p ≡ r
  both_new (Body k) (Body l) z y nz e = ap Body (new_body k z nz ∙ sym (new_body l y (λ t. nz (e ∙ t))))
  both_new (Body k) Single z y nz e = absurd (body_single k z y nz e)
  both_new (Body k) Double z y nz e = absurd (nz e)
  both_new Single (Body l) z y nz e = absurd (body_single l y z (λ t. nz (e ∙ t)) (sym e))
  both_new Single Single z y nz e = refl
  both_new Single Double z y nz e = absurd (nz e)
  both_new Double r z y nz e = absurd (nz refl)

  apart : (p r : Place) → laid_at f d q a b p ≢ 0 → laid_at f d q a b p ≡ laid_at f d q a b r → p ≡ r
  apart p r nz e = ⊎_elim
      (λ (z : f.address d p ≡ 0). ⊎_elim
      (λ (y : f.address d r ≡ 0). both_new p r z y nz e)
      (λ (h : f.address d r ≢ 0). absurd ((fresh p z nz).nowhere d r (sym (kept r h) ∙ sym e)))
      (cases_eq (f.address d r) 0))
      (λ (h : f.address d p ≢ 0). ⊎_elim
      (λ (y : f.address d r ≡ 0). absurd ((fresh r y (λ t. nz (e ∙ t))).nowhere d p (sym (kept p h) ∙ e)))
      (λ (g : f.address d r ≢ 0). (strong.weak.unshared d d p r h (sym (kept p h) ∙ e ∙ kept r g)).1)
      (cases_eq (f.address d r) 0))
      (cases_eq (f.address d p) 0)

  clash : (t : Bool) → t ≡ true → not t ≡ true → ⊥
  clash true x y = cc
  clash false x y = cc

  reached : (k : ℕ) → is_among k (range_with_len 10 128) ≡ true → laid_at f d q a b (Body k) ≢ 0 → list_any (λ l. not (laid_at f d q a b (Body l) == 0)) (range_with_len 10 128) ≡ true
  unfolding among
  reached k in' nz = any_at (λ l. not (laid_at f d q a b (Body l) == 0)) (range_with_len 10 128) k in' (ap not (ne_eqb (laid_at f d q a b (Body k)) 0 nz))

  map_needed : b ≢ 0 → list_any (λ l. not (laid_at f d q a b (Body l) == 0)) (range_with_len 10 128) ≡ true
  unfolding among
  map_needed nz = ⊎_elim
      (λ (z : f.address d Single ≡ 0). let s = single_taken z nz in let ten : 10 ≤ q = s.0 in reached q (among-range q 10 128 ten (omega arith)) (λ t. sector_some (sym (here q refl) ∙ t)))
      (λ (h : f.address d Single ≢ 0).
      let r = any_found (λ l. not (f.address d (Body l) == 0)) (range_with_len 10 128) (strong.single_needed d h) in
      let some' : f.address d (Body r.0) ≢ 0 = λ z. clash (f.address d (Body r.0) == 0) (eq-eqb (f.address d (Body r.0)) 0 z) r.2 in
      reached r.0 r.1 (λ z. some' (sym (kept (Body r.0) some') ∙ z)))
      (cases_eq (f.address d Single) 0)

  pub laid-target : IsTarget f d q (laid_at f d q a b)
  laid-target = record {
    kept = kept;
    fresh = fresh;
    apart = apart;
    held = λ z. sector_some (sym (here q refl) ∙ z);
    added = new_body;
    map_needed = map_needed;
    double = refl;
  }

  -- ---- the new blocks

  in_new : (old new : ℕ) → old ≡ 0 → new ≢ 0 → is_among new (one_of (if_new old new)) ≡ true
  in_new old new z nz = ap (λ t. is_among new (one_of (cond t None (Some new)))) (ne_eqb old new (λ e. nz (sym e ∙ z))) ∙ ap (λ t. t || false) (eq-eqb new new refl)

  not_new : (old new c : ℕ) → new ≢ c → is_among c (one_of (if_new old new)) ≡ false
  not_new old new c ne = by_test (eqb old new)
    where
      by_test : (t : Bool) → is_among c (one_of (cond t None (Some new))) ≡ false
      by_test true = refl
      by_test false = ap (λ t. t || false) (ne_eqb new c ne)

  split : (c : ℕ) → is_among c (one_of (if_new (f.address d (Body q)) a) ++ one_of (if_new (f.address d Single) b)) ≡ (is_among c (one_of (if_new (f.address d (Body q)) a)) || is_among c (one_of (if_new (f.address d Single) b)))
  split c = list_any-append (λ t. t == c) (one_of (if_new (f.address d (Body q)) a)) (one_of (if_new (f.address d Single) b))

  each_new : (p : Place) → f.address d p ≡ 0 → laid_at f d q a b p ≢ 0 → is_among (laid_at f d q a b p) (one_of (if_new (f.address d (Body q)) a) ++ one_of (if_new (f.address d Single) b)) ≡ true
  each_new (Body k) z nz =
      let e = new_body k z nz in
      let none : f.address d (Body q) ≡ 0 = ap (λ j. f.address d (Body j)) (sym e) ∙ z in
      subst (λ c. is_among c (one_of (if_new (f.address d (Body q)) a) ++ one_of (if_new (f.address d Single) b)) ≡ true) (sym (here k e))
      (split a ∙ or_left (is_among a (one_of (if_new (f.address d (Body q)) a))) (is_among a (one_of (if_new (f.address d Single) b))) (in_new (f.address d (Body q)) a none sector_some))
  each_new Single z nz = split b ∙ or_right (is_among b (one_of (if_new (f.address d (Body q)) a))) (is_among b (one_of (if_new (f.address d Single) b))) (in_new (f.address d Single) b z nz)
  each_new Double z nz = absurd (nz refl)

  pub laid-new : AreNewBlocks f d (laid_at f d q a b) (one_of (if_new (f.address d (Body q)) a) ++ one_of (if_new (f.address d Single) b))
  laid-new = record {
    each = each_new;
    only = λ c out. split c ∙ (λ z. not_new (f.address d (Body q)) a c (λ e. out (Body q) (here q refl ∙ e)) z || not_new (f.address d Single) b c (λ e. out Single e) z);
  }

  -- ---- the put of the block of addresses

  through_stays : (f.address d (Body q) ≡ 0 → q < 10) → b ≡ f.address d Single
  through_stays direct = ⊎_elim
      (λ (z : f.address d Single ≡ 0). ⊎_elim
      (λ (lt : q < 10). single_direct lt)
      (λ (ge : 10 ≤ q). let lt = direct (is_frame.through d q ge z) in absurd (omega arith))
      (cases_lt q 10))
      (λ (h : f.address d Single ≢ 0). single_old h)
      (cases_eq (f.address d Single) 0)

  single_some : 10 ≤ q → b ≢ 0
  single_some ge z = ⊎_elim
      (λ (e : f.address d Single ≡ 0). nonzero b (single_new e ge).0 z)
      (λ (h : f.address d Single ≢ 0). h (sym (single_old h) ∙ z))
      (cases_eq (f.address d Single) 0)

  pub laid-map : (o : Option Listing) → PutsMap q (f.address d (Body q) == 0) b (λ l. laid_at f d q a b (Body l)) o → MapPuts f d q (laid_at f d q a b) (map_puts o)
  laid-map None h = let direct : f.address d (Body q) ≡ 0 → q < 10 = λ z. h (eq-eqb (f.address d (Body q)) 0 z) in same direct (through_stays direct) refl
  laid-map (Some listing) (ge, new, block, long, reads) =
      changed listing.bytes ge (eqb-true (f.address d (Body q)) 0 new) (single_some ge) long reads (ap (λ c. (c, listing.bytes) ∷ []) block)
