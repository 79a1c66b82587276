-- How many numbers of a range pass, and how many of a list stand in it.
use Rattle.std.proofs.Common.{◌≡◌, ◌≢◌, ℕ, zero, suc, ◌+◌, ◌*◌, ◌<◌, ◌≤◌, Bool, true, false, cond, not, length, get_or, ◌||◌, ◌==◌, List, [], ◌∷◌, map, refl, sym, ap, ◌∙◌, arith, ⊎_elim, eqb, eq-eqb}
use Rattle.std.proofs.lemmas.Bool.{cases_eq, cases_Bool, ne_eqb, eqb-true}
use Rattle.std.proofs.lemmas.List.Sums.{sum_by-cons}
use Rattle.std.specs.List.{range_with_len, count_by, sum_by}
use Rattle.index_sets.specs.Queue.{is_listed}
use Rattle.v7_map.proofs.Walks.{or_cases, or_left, or_right}

unfoldable pub one : Bool → ℕ
one b = cond b 1 0

pub count-cons : {X : Type 0} (p : X → Bool) (x : X) (xs : List X) → count_by p (x ∷ xs) ≡ one (p x) + count_by p xs
unfolding one
count-cons p x xs = sum_by-cons (λ y. cond (p y) 1 0) x xs

one_of : (b : Bool) → b ≡ true → one b ≡ 1
unfolding one
one_of b e = ap (λ t. cond t 1 0) e

none_of : (b : Bool) → b ≡ false → one b ≡ 0
unfolding one
none_of b e = ap (λ t. cond t 1 0) e

-- ---- ranges

-- the same count, of a range that starts elsewhere
pub count_shift : (p q : ℕ → Bool) (a b n : ℕ) → ((k : ℕ) → k < n → p (a + k) ≡ q (b + k)) → count_by p (range_with_len a n) ≡ count_by q (range_with_len b n)
count_shift p q a b zero h = refl
count_shift p q a b (suc n) h =
    let c = count-cons p a (range_with_len (a + 1) n) in let d = count-cons q b (range_with_len (b + 1) n) in
    let r = count_shift p q (a + 1) (b + 1) n (λ k lt. (λ z. p (plus a k z)) ∙ h (k + 1) (omega arith) ∙ (λ z. q (sym (plus b k) z))) in
    let here : one (p a) ≡ one (q b) = ap one ((λ z. p (sym (nothing a) z)) ∙ h 0 (omega arith) ∙ (λ z. q (nothing b z))) in omega arith
  where
    plus : (a k : ℕ) → (a + 1) + k ≡ a + (k + 1)
    plus a k = omega arith

    nothing : (a : ℕ) → a + 0 ≡ a
    nothing a = omega arith

pub count_same : (p q : ℕ → Bool) (a n : ℕ) → ((b : ℕ) → a ≤ b → b < a + n → p b ≡ q b) → count_by p (range_with_len a n) ≡ count_by q (range_with_len a n)
count_same p q a n h = count_shift p q a a n (λ k lt. h (a + k) (omega arith) (omega arith))

pub count_none : (p : ℕ → Bool) (a n : ℕ) → ((b : ℕ) → a ≤ b → b < a + n → p b ≡ false) → count_by p (range_with_len a n) ≡ 0
count_none p a zero h = refl
count_none p a (suc n) h = let c = count-cons p a (range_with_len (a + 1) n) in let r = count_none p (a + 1) n (λ b l u. h b (omega arith) (omega arith)) in
    let here = none_of (p a) (h a (omega arith) (omega arith)) in omega arith

-- a range in two parts
pub count_parts : (p : ℕ → Bool) (a m n t : ℕ) → t ≡ m + n → count_by p (range_with_len a t) ≡ count_by p (range_with_len a m) + count_by p (range_with_len (a + m) n)
count_parts p a zero n t e = let same : t ≡ n = omega arith in let z : a + 0 ≡ a = omega arith in
    let f : count_by p (range_with_len a t) ≡ count_by p (range_with_len (a + 0) n) = λ i. count_by p (range_with_len (sym z i) (same i)) in omega arith
count_parts p a (suc m) n zero e = absurd (omega arith)
count_parts p a (suc m) n (suc t) e =
    let c = count-cons p a (range_with_len (a + 1) t) in let d = count-cons p a (range_with_len (a + 1) m) in
    let r = count_parts p (a + 1) m n t (omega arith) in
    let s : (a + 1) + m ≡ a + suc m = omega arith in
    let f : count_by p (range_with_len ((a + 1) + m) n) ≡ count_by p (range_with_len (a + suc m) n) = λ i. count_by p (range_with_len (s i) n) in omega arith

exactly : (b : Bool) → one (not b) + one b ≡ 1
unfolding one
exactly true = refl
exactly false = refl

-- those that pass, and those that don't
pub count_others : (p q : ℕ → Bool) (a n : ℕ) → ((b : ℕ) → a ≤ b → b < a + n → p b ≡ not (q b)) → count_by p (range_with_len a n) + count_by q (range_with_len a n) ≡ n
count_others p q a zero h = refl
count_others p q a (suc n) h =
    let c = count-cons p a (range_with_len (a + 1) n) in let d = count-cons q a (range_with_len (a + 1) n) in
    let r = count_others p q (a + 1) n (λ b l u. h b (omega arith) (omega arith)) in
    let here : one (p a) ≡ one (not (q a)) = ap one (h a (omega arith) (omega arith)) in let both = exactly (q a) in omega arith

pub count-map : (p : ℕ → Bool) (g : ℕ → ℕ) (xs : List ℕ) → count_by p (map g xs) ≡ count_by (λ x. p (g x)) xs
count-map p g [] = refl
count-map p g (x ∷ xs) = let c = count-cons p (g x) (map g xs) in let d = count-cons (λ y. p (g y)) x xs in let r = count-map p g xs in omega arith

-- a range of n times w numbers, w by w
pub count_rows : (p : ℕ → Bool) (w : ℕ) (row : ℕ → ℕ) (a n : ℕ)
    → ((i : ℕ) → count_by p (range_with_len (w * i) w) ≡ row (i + 1))
    → count_by p (range_with_len (w * a) (w * n)) ≡ sum_by row (range_with_len (a + 1) n)
count_rows p w row a zero h = let z : w * 0 ≡ 0 = omega arith in λ i. count_by p (range_with_len (w * a) (z i))
count_rows p w row a (suc n) h =
    let c = count_parts p (w * a) w (w * n) (w * suc n) (omega arith) in
    let d = sum_by-cons row (a + 1) (range_with_len ((a + 1) + 1) n) in
    let r = count_rows p w row (a + 1) n h in
    let s : w * (a + 1) ≡ w * a + w = omega arith in
    let f : count_by p (range_with_len (w * (a + 1)) (w * n)) ≡ count_by p (range_with_len (w * a + w) (w * n)) = λ i. count_by p (range_with_len (s i) (w * n)) in
    let here = h a in omega arith

-- ---- numbers of a list that stand in a range

-- those that aren't 0 are in the range, and no two are the same
abbrev pub AllOnce : ℕ → ℕ → List ℕ → Type 0
AllOnce low n [] = Unit {0}
AllOnce low n (x ∷ xs) = (x ≢ 0 → (low ≤ x) × (x < low + n) × (is_listed x xs ≡ false)) × AllOnce low n xs

-- one more number passes
count_more : (p : ℕ → Bool) (x a n : ℕ) → a ≤ x → x < a + n → p x ≡ false → count_by (λ b. eqb x b || p b) (range_with_len a n) ≡ count_by p (range_with_len a n) + 1
count_more p x a zero low high out = absurd (omega arith)
count_more p x a (suc n) low high out =
    let c = count-cons (λ b. eqb x b || p b) a (range_with_len (a + 1) n) in let d = count-cons p a (range_with_len (a + 1) n) in
    ⊎_elim
    (λ (e : x ≡ a).
    let rest = count_same (λ b. eqb x b || p b) p (a + 1) n (λ b l h. ap (λ t. t || p b) (ne_eqb x b (λ q. omega arith))) in
    let here = one_of (eqb x a || p a) (ap (λ t. t || p a) (eq-eqb x a e)) in
    let old = none_of (p a) (ap p (sym e) ∙ out) in omega arith)
    (λ (ne : x ≢ a).
    let rest = count_more p x (a + 1) n (omega arith) (omega arith) out in
    let here : one (eqb x a || p a) ≡ one (p a) = ap (λ t. one (t || p a)) (ne_eqb x a ne) in omega arith)
    (cases_eq x a)

pub count_places : (low n : ℕ) (xs : List ℕ) → 0 < low → AllOnce low n xs → count_by (λ b. is_listed b xs) (range_with_len low n) ≡ count_by (λ x. not (x == 0)) xs
count_places low n [] positive once = count_none (λ b. false) low n (λ b l u. refl)
count_places low n (x ∷ xs) positive once =
    let c = count-cons (λ x. not (x == 0)) x xs in
    let r = count_places low n xs positive once.1 in
    ⊎_elim
    (λ (z : x ≡ 0).
    let same = count_same (λ b. eqb x b || is_listed b xs) (λ b. is_listed b xs) low n (λ b l h. ap (λ t. t || is_listed b xs) (ne_eqb x b (λ q. omega arith))) in
    let here = none_of (not (eqb x 0)) (ap not (eq-eqb x 0 z)) in omega arith)
    (λ (nz : x ≢ 0).
    let o = once.0 nz in
    let more = count_more (λ b. is_listed b xs) x low n o.0 o.1 o.2 in
    let here = one_of (not (eqb x 0)) (ap not (ne_eqb x 0 nz)) in omega arith)
    (cases_eq x 0)

-- ---- the values of a function

pub among_map_at : (g : ℕ → ℕ) (a n y : ℕ) → a ≤ y → y < a + n → is_listed (g y) (map g (range_with_len a n)) ≡ true
among_map_at g a zero y low high = absurd (omega arith)
among_map_at g a (suc n) y low high = ⊎_elim
    (λ (e : y ≡ a). or_left (eqb (g a) (g y)) _ (eq-eqb (g a) (g y) (ap g (sym e))))
    (λ (ne : y ≢ a). or_right (eqb (g a) (g y)) _ (among_map_at g (a + 1) n y (omega arith) (omega arith)))
    (cases_eq y a)

pub among_map_found : (g : ℕ → ℕ) (x a n : ℕ) → is_listed x (map g (range_with_len a n)) ≡ true → (y : ℕ) × (a ≤ y) × (y < a + n) × (g y ≡ x)
among_map_found g x a zero e = absurd (cc)
among_map_found g x a (suc n) e = ⊎_elim
    (λ (h : eqb (g a) x ≡ true). (a, omega arith, omega arith, eqb-true (g a) x h))
    (λ (h : is_listed x (map g (range_with_len (a + 1) n)) ≡ true). let r = among_map_found g x (a + 1) n h in let low : a + 1 ≤ r.0 = r.1 in let high : r.0 < (a + 1) + n = r.2 in (r.0, omega arith, omega arith, r.3))
    (or_cases (eqb (g a) x) _ e)

pub all_once : (g : ℕ → ℕ) (low m a n : ℕ) → ((x : ℕ) → a ≤ x → x < a + n → g x ≢ 0 → (low ≤ g x) × (g x < low + m)) → ((x y : ℕ) → a ≤ x → x < y → y < a + n → g x ≢ 0 → g x ≢ g y) → AllOnce low m (map g (range_with_len a n))
all_once g low m a zero within apart = tt
all_once g low m a (suc n) within apart = (
  (λ nz. let w = within a (omega arith) (omega arith) nz in (w.0, w.1, later nz)),
  all_once g low m (a + 1) n (λ x l u nz. within x (omega arith) (omega arith) nz) (λ x y l lt u nz. apart x y (omega arith) lt (omega arith) nz),
)
  where
    later : g a ≢ 0 → is_listed (g a) (map g (range_with_len (a + 1) n)) ≡ false
    later nz = ⊎_elim
        (λ (h : is_listed (g a) (map g (range_with_len (a + 1) n)) ≡ true). let r = among_map_found g (g a) (a + 1) n h in
        let low : a + 1 ≤ r.0 = r.1 in let high : r.0 < (a + 1) + n = r.2 in absurd (apart a r.0 (omega arith) (omega arith) (omega arith) nz (sym r.3)))
        (λ (h : is_listed (g a) (map g (range_with_len (a + 1) n)) ≡ false). h)
        (cases_Bool (is_listed (g a) (map g (range_with_len (a + 1) n))))

-- ---- a list by its indices

pub count_listed : {X : Type 0} (p : X → Bool) (d : X) (xs : List X) → count_by (λ k. p (get_or xs k d)) (range_with_len 0 (length xs)) ≡ count_by p xs
count_listed p d [] = refl
count_listed p d (x ∷ xs) =
    let c = count-cons (λ k. p (get_or (x ∷ xs) k d)) 0 (range_with_len (0 + 1) (length xs)) in
    let e = count-cons p x xs in
    let r = count_listed p d xs in
    let s = count_shift (λ k. p (get_or (x ∷ xs) k d)) (λ k. p (get_or xs k d)) (0 + 1) 0 (length xs) (λ k lt. λ z. p (get_or (x ∷ xs) (one_more k z) d)) in omega arith
  where
    one_more : (k : ℕ) → (0 + 1) + k ≡ suc (0 + k)
    one_more k = omega arith
