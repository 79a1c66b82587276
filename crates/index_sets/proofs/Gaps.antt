-- Numbers in a row with gaps.
use Rattle.std.proofs.Common.{◌≡◌, ◌≢◌, ◌⊎◌, inl, inr, ⊎_elim, ℕ, zero, suc, ◌+◌, ◌<◌, ◌≤◌, Bool, true, false, cond, ◌||◌, nat_eq, Option, Some, None, List, [], ◌∷◌, ◌++◌, length, get_or, set, count_by, refl, sym, ap, subst, ◌∙◌, arith, replicate, get_or-set_same, get_or-set_other, length-set, eq-eqb}
use Rattle.std.proofs.lemmas.List.{get_or_past, set-set}
use Rattle.std.proofs.lemmas.Bool.{cases_eq, cases_lt, ne_eqb}
use Rattle.std.proofs.lemmas.List.Sums.{sum_by-set, sum_by-cons, count_by-le-length}
use Rattle.std.specs.Option.{is_some, IfSome}
use Rattle.index_sets.specs.Queue.{is_listed, without, first_of}
use Rattle.index_sets.specs.Row.{numbers_in, Points, Agrees}

-- a place has a number or none
pub gap_or_number : (item : Option ℕ) → (item ≡ None) ⊎ ((k : ℕ) × (item ≡ Some k))
gap_or_number None = inl refl
gap_or_number (Some k) = inr (k, refl)

-- gaps alone
pub numbers_none : (items : List (Option ℕ)) → ((p : ℕ) → get_or items p None ≡ None) → numbers_in items ≡ []
numbers_none [] gaps = refl
numbers_none (None ∷ xs) gaps = numbers_none xs (λ p. gaps (suc p))
numbers_none (Some k ∷ xs) gaps = let e = gaps 0 in cc

-- the first number behind gaps
first_number : (items : List (Option ℕ)) (at k : ℕ) → ((p : ℕ) → p < at → get_or items p None ≡ None) → get_or items at None ≡ Some k → first_of (numbers_in items) ≡ Some k
first_number [] at k gaps here = cc
first_number (None ∷ xs) zero k gaps here = cc
first_number (Some j ∷ xs) zero k gaps here = here
first_number (None ∷ xs) (suc at) k gaps here = first_number xs at k (λ p lt. gaps (suc p) (omega arith)) here
first_number (Some j ∷ xs) (suc at) k gaps here = let e = gaps 0 (omega arith) in cc

pub first_is : (items : List (Option ℕ)) (at end : ℕ) → at ≤ end → ((p : ℕ) → p < at → get_or items p None ≡ None) → (at < end → get_or items at None ≢ None) → ((p : ℕ) → end ≤ p → get_or items p None ≡ None)
    → first_of (numbers_in items) ≡ get_or items at None
first_is items at end le before here past = ⊎_elim
    (λ (none : get_or items at None ≡ None). ⊎_elim
    (λ (lt : at < end). absurd (here lt none))
    (λ (ge : end ≤ at). ap first_of (numbers_none items (λ p. ⊎_elim (λ (low : p < at). before p low) (λ (high : at ≤ p). past p (omega arith)) (cases_lt p at))) ∙ sym none)
    (cases_lt at end))
    (λ (some : (k : ℕ) × (get_or items at None ≡ Some k)). first_number items at some.0 before some.1 ∙ sym some.1)
    (gap_or_number (get_or items at None))

-- a number leaves a gap
pub numbers_without : (items : List (Option ℕ)) (at k : ℕ) → get_or items at None ≡ Some k → ((p : ℕ) → p < at → get_or items p None ≢ Some k) → numbers_in (set items at None) ≡ without k (numbers_in items)
numbers_without [] at k here other = cc
numbers_without (None ∷ xs) zero k here other = cc
numbers_without (Some j ∷ xs) zero k here other = let e : j ≡ k = cc in sym (ap (λ b. cond b (numbers_in xs) (j ∷ without k (numbers_in xs))) (eq-eqb j k e))
numbers_without (None ∷ xs) (suc at) k here other = numbers_without xs at k here (λ p lt. other (suc p) (omega arith))
numbers_without (Some j ∷ xs) (suc at) k here other =
    let ne : j ≢ k = λ e. other 0 (omega arith) (ap Some e) in
    ap (λ ks. j ∷ ks) (numbers_without xs at k here (λ p lt. other (suc p) (omega arith)))
    ∙ sym (ap (λ b. cond b (numbers_in xs) (j ∷ without k (numbers_in xs))) (ne_eqb j k ne))

pub numbers_not : (items : List (Option ℕ)) (k : ℕ) → ((p : ℕ) → get_or items p None ≢ Some k) → numbers_in items ≡ without k (numbers_in items)
numbers_not [] k other = refl
numbers_not (None ∷ xs) k other = numbers_not xs k (λ p. other (suc p))
numbers_not (Some j ∷ xs) k other =
    let ne : j ≢ k = λ e. other 0 (ap Some e) in
    ap (λ ks. j ∷ ks) (numbers_not xs k (λ p. other (suc p))) ∙ sym (ap (λ b. cond b (numbers_in xs) (j ∷ without k (numbers_in xs))) (ne_eqb j k ne))

-- a number is put behind all others
pub numbers_put : (items : List (Option ℕ)) (at k : ℕ) → at < length items → ((p : ℕ) → at ≤ p → get_or items p None ≡ None) → numbers_in (set items at (Some k)) ≡ numbers_in items ++ k ∷ []
numbers_put [] at k lt past = absurd (omega arith)
numbers_put (None ∷ xs) zero k lt past = let e = numbers_none xs (λ p. past (suc p) (omega arith)) in ap (λ ks. k ∷ ks) e ∙ sym (ap (λ ks. ks ++ k ∷ []) e)
numbers_put (Some j ∷ xs) zero k lt past = let e = past 0 (omega arith) in cc
numbers_put (None ∷ xs) (suc at) k lt past = numbers_put xs at k (omega arith) (λ p le. past (suc p) (omega arith))
numbers_put (Some j ∷ xs) (suc at) k lt past = ap (λ ks. j ∷ ks) (numbers_put xs at k (omega arith) (λ p le. past (suc p) (omega arith)))

-- a number moves over gaps to the front
moved_first : (items : List (Option ℕ)) (from k : ℕ) → ((p : ℕ) → p < from → get_or items p None ≡ None) → get_or items from None ≡ Some k → k ∷ numbers_in (set items from None) ≡ numbers_in items
moved_first [] from k gaps here = cc
moved_first (None ∷ xs) zero k gaps here = cc
moved_first (Some j ∷ xs) zero k gaps here = let e : k ≡ j = cc in ap (λ i. i ∷ numbers_in xs) e
moved_first (None ∷ xs) (suc from) k gaps here = moved_first xs from k (λ p lt. gaps (suc p) (omega arith)) here
moved_first (Some j ∷ xs) (suc from) k gaps here = let e = gaps 0 (omega arith) in cc

pub numbers_moved : (items : List (Option ℕ)) (from to k : ℕ) → to ≤ from → get_or items from None ≡ Some k → ((p : ℕ) → to ≤ p → p < from → get_or items p None ≡ None) → numbers_in (set (set items from None) to (Some k)) ≡ numbers_in items
numbers_moved [] from to k le here gaps = cc
numbers_moved (None ∷ xs) zero zero k le here gaps = cc
numbers_moved (Some j ∷ xs) zero zero k le here gaps = let e : k ≡ j = cc in ap (λ i. i ∷ numbers_in xs) e
numbers_moved (x ∷ xs) zero (suc to) k le here gaps = absurd (omega arith)
numbers_moved (None ∷ xs) (suc from) zero k le here gaps = moved_first xs from k (λ p lt. gaps (suc p) (omega arith) (omega arith)) here
numbers_moved (Some j ∷ xs) (suc from) zero k le here gaps = let e = gaps 0 (omega arith) (omega arith) in cc
numbers_moved (None ∷ xs) (suc from) (suc to) k le here gaps = numbers_moved xs from to k (omega arith) here (λ p low high. gaps (suc p) (omega arith) (omega arith))
numbers_moved (Some j ∷ xs) (suc from) (suc to) k le here gaps = ap (λ ks. j ∷ ks) (numbers_moved xs from to k (omega arith) here (λ p low high. gaps (suc p) (omega arith) (omega arith)))

-- how many numbers there are
pub length_cleared : (items : List (Option ℕ)) (at k : ℕ) → get_or items at None ≡ Some k → length (numbers_in (set items at None)) + 1 ≡ length (numbers_in items)
length_cleared [] at k here = cc
length_cleared (None ∷ xs) zero k here = cc
length_cleared (Some j ∷ xs) zero k here = omega arith
length_cleared (None ∷ xs) (suc at) k here = length_cleared xs at k here
length_cleared (Some j ∷ xs) (suc at) k here = let e = length_cleared xs at k here in omega arith

pub length_put : (items : List (Option ℕ)) (at k : ℕ) → at < length items → get_or items at None ≡ None → length (numbers_in (set items at (Some k))) ≡ length (numbers_in items) + 1
length_put [] at k lt here = absurd (omega arith)
length_put (None ∷ xs) zero k lt here = omega arith
length_put (Some j ∷ xs) zero k lt here = cc
length_put (None ∷ xs) (suc at) k lt here = length_put xs at k (omega arith) here
length_put (Some j ∷ xs) (suc at) k lt here = let e = length_put xs at k (omega arith) here in omega arith

pub length_full : (items : List (Option ℕ)) (n : ℕ) → ((p : ℕ) → p < n → get_or items p None ≢ None) → n ≤ length (numbers_in items)
length_full items zero full = omega arith
length_full [] (suc n) full = absurd (full 0 (omega arith) refl)
length_full (None ∷ xs) (suc n) full = absurd (full 0 (omega arith) refl)
length_full (Some k ∷ xs) (suc n) full = let e = length_full xs n (λ p lt. full (suc p) (omega arith)) in omega arith

-- whether a number is listed
or_true : (a b : Bool) → b ≡ true → (a || b) ≡ true
or_true true b e = refl
or_true false b e = e

pub listed_at : (items : List (Option ℕ)) (at k : ℕ) → get_or items at None ≡ Some k → is_listed k (numbers_in items) ≡ true
listed_at [] at k here = cc
listed_at (None ∷ xs) zero k here = cc
listed_at (Some j ∷ xs) zero k here = let e : j ≡ k = cc in ap (λ b. b || is_listed k (numbers_in xs)) (eq-eqb j k e)
listed_at (None ∷ xs) (suc at) k here = listed_at xs at k here
listed_at (Some j ∷ xs) (suc at) k here = or_true (nat_eq j k) (is_listed k (numbers_in xs)) (listed_at xs at k here)

pub listed_not : (items : List (Option ℕ)) (k : ℕ) → ((p : ℕ) → get_or items p None ≢ Some k) → is_listed k (numbers_in items) ≡ false
listed_not [] k other = refl
listed_not (None ∷ xs) k other = listed_not xs k (λ p. other (suc p))
listed_not (Some j ∷ xs) k other =
    let ne : j ≢ k = λ e. other 0 (ap Some e) in
    ap (λ b. b || is_listed k (numbers_in xs)) (ne_eqb j k ne) ∙ listed_not xs k (λ p. other (suc p))

pub has_is : (items places : List (Option ℕ)) (k : ℕ) → Agrees items places → is_some (get_or places k None) ≡ is_listed k (numbers_in items)
has_is items places k agrees = ⊎_elim
    (λ (none : get_or places k None ≡ None). ap is_some none ∙ sym (listed_not items k (λ p here. let e = agrees.placed p k here in cc)))
    (λ (some : (p : ℕ) × (get_or places k None ≡ Some p)). ap is_some some.1 ∙ sym (listed_at items some.0 k (agrees.standing k some.0 some.1)))
    (gap_or_number (get_or places k None))

pub no_place : (items places : List (Option ℕ)) (k : ℕ) → Agrees items places → is_listed k (numbers_in items) ≡ false → get_or places k None ≡ None
no_place items places k agrees other = ⊎_elim
    (λ (none : get_or places k None ≡ None). none)
    (λ (some : (p : ℕ) × (get_or places k None ≡ Some p)). let e = listed_at items some.0 k (agrees.standing k some.0 some.1) in cc)
    (gap_or_number (get_or places k None))

-- there are fewer than the size where one isn't there
pub fewer : (items places : List (Option ℕ)) (k : ℕ) → Agrees items places → k < length places → get_or places k None ≡ None → length (numbers_in items) < length places
fewer items places k agrees lt none =
    let was = agrees.counted in
    let marks = sum_by-set (λ (i : Option ℕ). cond {A = ℕ} (is_some i) 1 0) places k (Some 0) None lt in
    let no : ◌≡◌ {A = ℕ} (cond (is_some (get_or places k None)) 1 0) 0 = ap (λ i. cond (is_some i) 1 0) none in
    let most = count_by-le-length is_some (set places k (Some 0)) in
    let size = length-set places k (Some 0) in
    omega arith

pub most : (items places : List (Option ℕ)) → Agrees items places → length (numbers_in items) ≤ length places
most items places agrees = let was = agrees.counted in let less = count_by-le-length is_some places in omega arith

-- one changes on both sides
pub cleared : (xs : List (Option ℕ)) (at : ℕ) → get_or (set xs at None) at None ≡ None
cleared [] at = refl
cleared (x ∷ xs) zero = refl
cleared (x ∷ xs) (suc at) = cleared xs at

pub still_gap : (items : List (Option ℕ)) (at p : ℕ) → get_or items p None ≡ None → get_or (set items at None) p None ≡ None
still_gap items at p gap = ⊎_elim
    (λ (e : p ≡ at). ap (λ q. get_or (set items at None) q None) e ∙ cleared items at)
    (λ (ne : p ≢ at). get_or-set_other items at p None None ne ∙ gap)
    (cases_eq p at)

-- gaps, and gaps behind them
pub gaps_to : (items : List (Option ℕ)) (head at : ℕ) → ((p : ℕ) → p < head → get_or items p None ≡ None) → ((p : ℕ) → head ≤ p → p < at → get_or items p None ≡ None) → (p : ℕ) → p < at → get_or items p None ≡ None
gaps_to items head at before then p lt = ⊎_elim (λ (low : p < head). before p low) (λ (high : head ≤ p). then p high lt) (cases_lt p head)

points_clear : (from to : List (Option ℕ)) (at k : ℕ) → Points from to → get_or to k None ≡ Some at → Points (set from at None) (set to k None)
points_clear from to at k points here = λ q j h. ⊎_elim
    (λ (e : q ≡ at). let g = ap (λ p. get_or (set from at None) p None) e in let n = cleared from at in cc)
    (λ (ne : q ≢ at).
    let was : get_or to j None ≡ Some q = points q j (sym (get_or-set_other from at q None None ne) ∙ h) in
    let other : j ≢ k = λ e. (let same = ap (λ i. get_or to i None) e in let s : q ≡ at = cc in ne s) in
    get_or-set_other to k j None None other ∙ was)
    (cases_eq q at)

points_put : (from to : List (Option ℕ)) (at k : ℕ) → Points from to → at < length from → k < length to → get_or to k None ≡ None → Points (set from at (Some k)) (set to k (Some at))
points_put from to at k points low lt none = λ q j h. ⊎_elim
    (λ (e : q ≡ at).
    let g = ap (λ p. get_or (set from at (Some k)) p None) e in
    let n = get_or-set_same from at (Some k) None low in
    let s : j ≡ k = cc in
    ap (λ i. get_or (set to k (Some at)) i None) s ∙ get_or-set_same to k (Some at) None lt ∙ ap Some (sym e))
    (λ (ne : q ≢ at).
    let was : get_or to j None ≡ Some q = points q j (sym (get_or-set_other from at q (Some k) None ne) ∙ h) in
    let other : j ≢ k = λ e. (let same = ap (λ i. get_or to i None) e in cc) in
    get_or-set_other to k j (Some at) None other ∙ was)
    (cases_eq q at)

pub inside : (xs : List (Option ℕ)) (at k : ℕ) → get_or xs at None ≡ Some k → at < length xs
inside xs at k here = ⊎_elim (λ (lt : at < length xs). lt) (λ (ge : length xs ≤ at). let e = get_or_past xs at None ge in cc) (cases_lt at (length xs))

pub agrees_clear : (items places : List (Option ℕ)) (at k : ℕ) → Agrees items places → get_or places k None ≡ Some at → Agrees (set items at None) (set places k None)
agrees_clear items places at k agrees here =
    let stands : get_or items at None ≡ Some k = agrees.standing k at here in
    record {
      placed = points_clear items places at k agrees.placed here;
      standing = points_clear places items k at agrees.standing stands;
      counted =
          let was = agrees.counted in
          let less = length_cleared items at k stands in
          let marks = sum_by-set (λ (i : Option ℕ). cond {A = ℕ} (is_some i) 1 0) places k None None (inside places k at here) in
          let one : ◌≡◌ {A = ℕ} (cond (is_some (get_or places k None)) 1 0) 1 = ap (λ i. cond (is_some i) 1 0) here in
          omega arith;
    }

pub agrees_put : (items places : List (Option ℕ)) (at k : ℕ) → Agrees items places → at < length items → k < length places → get_or items at None ≡ None → get_or places k None ≡ None → Agrees (set items at (Some k)) (set places k (Some at))
agrees_put items places at k agrees low lt gap none = record {
  placed = points_put items places at k agrees.placed low lt none;
  standing = points_put places items k at agrees.standing lt low gap;
  counted =
      let was = agrees.counted in
      let more = length_put items at k low gap in
      let marks = sum_by-set (λ (i : Option ℕ). cond {A = ℕ} (is_some i) 1 0) places k (Some at) None lt in
      let no : ◌≡◌ {A = ℕ} (cond (is_some (get_or places k None)) 1 0) 0 = ap (λ i. cond (is_some i) 1 0) none in
      omega arith;
}

pub agrees_move : (items places : List (Option ℕ)) (from to k : ℕ) → Agrees items places → get_or items from None ≡ Some k → to < length items → (to ≢ from → get_or items to None ≡ None) → Agrees (set (set items from None) to (Some k)) (set places k (Some to))
agrees_move items places from to k agrees here low gap =
    let place : get_or places k None ≡ Some from = agrees.placed from k here in
    let free : get_or (set items from None) to None ≡ None = ⊎_elim
    (λ (e : to ≡ from). ap (λ p. get_or (set items from None) p None) e ∙ cleared items from)
    (λ (ne : to ≢ from). get_or-set_other items from to None None ne ∙ gap ne)
    (cases_eq to from) in
    subst (λ ps. Agrees (set (set items from None) to (Some k)) ps) (set-set places k None (Some to))
    (agrees_put (set items from None) (set places k None) to k (agrees_clear items places from k agrees place)
    (subst (λ n. to < n) (sym (length-set items from None)) low)
    (subst (λ n. k < n) (sym (length-set places k None)) (inside places k from place))
    free (cleared places k))

pub gaps_alone : (n p : ℕ) → get_or {A = Option ℕ} (replicate n None) p None ≡ None
gaps_alone zero p = refl
gaps_alone (suc n) zero = refl
gaps_alone (suc n) (suc p) = gaps_alone n p

no_marks : (m : ℕ) → count_by {X = Option ℕ} is_some (replicate m None) ≡ 0
no_marks zero = refl
no_marks (suc m) = sum_by-cons {X = Option ℕ} (λ i. cond {A = ℕ} (is_some i) 1 0) None (replicate m None) ∙ (let e = no_marks m in omega arith)

pub no_numbers : (n : ℕ) → numbers_in (replicate n None) ≡ []
no_numbers n = numbers_none (replicate n None) (gaps_alone n)

pub agrees_none : (n m : ℕ) → Agrees (replicate n None) (replicate m None)
agrees_none n m = record {
  placed = λ p k h. let e = gaps_alone n p in cc;
  standing = λ p k h. let e = gaps_alone m p in cc;
  counted = ap length (no_numbers n) ∙ sym (no_marks m);
}

-- a number that stands is below the size
pub below_size : (items places : List (Option ℕ)) (at : ℕ) (item : Option ℕ) → Agrees items places → item ≡ get_or items at None → IfSome item (λ k. k < length places)
below_size items places at None agrees is = tt
below_size items places at (Some k) agrees is = inside places k at (agrees.placed at k (sym is))
