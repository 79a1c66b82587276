-- Addresses read from a block of addresses.
use Rattle.std.proofs.Common.{◌≡◌, ◌≢◌, ℕ, zero, suc, ◌*◌, ◌<◌, ◌≤◌, Bool, true, false, cond, ◌&&◌, List, [], ◌∷◌, ◌++◌, ◌+◌, ◌-◌, take, drop, length, length-take, length-drop, replicate, get_or, set, refl, sym, ap, subst, ◌∙◌, arith, ⊎_elim, leb, ltb, length-set, get_or-set_same, get_or-set_other, eq-eqb}
use Rattle.std.proofs.lemmas.Bool.{cases_eq, cases_lt, leb-true, le-ltb}
use Rattle.v7_map.proofs.Frames.{and_left, and_right}
use Rattle.plan_file.specs.Places.{place_within, stored_place}
use Rattle.std.proofs.lemmas.List.{get_or_default, get_or-take, get_or-drop, append-nil}
use Rattle.std.proofs.lemmas.List.FromFn.{get_or-map-range_with_len}
use Rattle.std.specs.List.{flat_map}
use Rattle.byteorder.specs.Endian.{little_bytes}
use Rattle.v7_layout.specs.Numbers.{field, fields}
use Rattle.v7_layout.proofs.Back.{fields_from}

-- a list of addresses below a number of sectors
pub set_within : (P : ℕ → Type 0) (xs : List ℕ) (i a : ℕ) → ((k : ℕ) → get_or xs k 0 ≢ 0 → P (get_or xs k 0)) → (a ≢ 0 → P a) → (k : ℕ) → get_or (set xs i a) k 0 ≢ 0 → P (get_or (set xs i a) k 0)
set_within P xs i a h low k nz = ⊎_elim
    (λ (e : k ≡ i). ⊎_elim
    (λ (lt : i < length xs). let here : get_or (set xs i a) k 0 ≡ a = ap (λ q. get_or (set xs i a) q 0) e ∙ get_or-set_same xs i a 0 lt in
    subst P (sym here) (low (λ z. nz (here ∙ z))))
    (λ (ge : length xs ≤ i). absurd (nz (get_or-past (set xs i a) k (subst (λ n. n ≤ k) (sym (length-set xs i a)) (omega arith)))))
    (cases_lt i (length xs)))
    (λ (ne : k ≢ i). let other = get_or-set_other xs i k a 0 ne in subst P (sym other) (h k (λ z. nz (other ∙ z))))
    (cases_eq k i)
  where
    get_or-past : (ys : List ℕ) (j : ℕ) → length ys ≤ j → get_or ys j 0 ≡ 0
    get_or-past [] j le = refl
    get_or-past (y ∷ ys) zero le = absurd (omega arith)
    get_or-past (y ∷ ys) (suc j) le = get_or-past ys j (omega arith)

pub within_low : (sectors a : ℕ) → place_within sectors a ≢ 0 → (b : ℕ) → b ≡ place_within sectors a → (2 ≤ b) × (b < sectors)
within_low sectors a nz b e = subst (λ q. (2 ≤ q) × (q < sectors)) (sym e) (by_test (leb 2 a && ltb a sectors) refl nz)
  where
    by_test : (t : Bool) → (leb 2 a && ltb a sectors) ≡ t → cond t a 0 ≢ 0 → (2 ≤ cond t a 0) × (cond t a 0 < sectors)
    by_test true e nz = (leb-true 2 a (and_left (leb 2 a) (ltb a sectors) e), below (and_right (leb 2 a) (ltb a sectors) e))
      where
        below : ltb a sectors ≡ true → a < sectors
        below h = grind arith
    by_test false e nz = absurd (nz refl)

-- with no block of addresses there is no address past the tenth
pub none-through : (sectors : ℕ) (places : List ℕ) (single : ℕ) (body : List ℕ) → length body ≡ 138
    → ((k : ℕ) → k < 138 → get_or body k 0 ≡ place_within sectors (stored_place places single k))
    → (k : ℕ) → 10 ≤ k → get_or body k 0 ≢ 0 → single ≢ 0
none-through sectors places single body long at k ge nz z = ⊎_elim
    (λ (lt : k < 138). nz (at k lt ∙ (λ q. place_within sectors (cond (le-ltb k 10 ge q) (get_or places k 0) (cond (eq-eqb single 0 z q) 0 (get_or places (k + 1) 0)))) ∙ zero_place (leb 2 0 && ltb 0 sectors)))
    (λ (out : 138 ≤ k). nz (past body k (omega arith)))
    (cases_lt k 138)
  where
    zero_place : (t : Bool) → ◌≡◌ {A = ℕ} (cond t 0 0) 0
    zero_place true = refl
    zero_place false = refl

    past : (ys : List ℕ) (j : ℕ) → length ys ≤ j → get_or ys j 0 ≡ 0
    past [] j le = refl
    past (y ∷ ys) zero le = absurd (omega arith)
    past (y ∷ ys) (suc j) le = past ys j (omega arith)

pub zeros_within : (P : ℕ → Type 0) (n : ℕ) → (k : ℕ) → get_or {A = ℕ} (replicate n 0) k 0 ≢ 0 → P (get_or {A = ℕ} (replicate n 0) k 0)
zeros_within P n k nz = absurd (nz (none n k))
  where
    none : (n k : ℕ) → get_or {A = ℕ} (replicate n 0) k 0 ≡ 0
    none zero k = refl
    none (suc n) zero = refl
    none (suc n) (suc k) = none n k

-- a block of addresses reads as what was written
pub block-reads : (bytes body : List ℕ) (count : ℕ) → count ≡ 128 → length body ≡ 138 → ((i : ℕ) → get_or body i 0 < 4294967296) → bytes ≡ flat_map (little_bytes 4) (take count (drop 10 body))
    → (k : ℕ) → 10 ≤ k → k < 138 → field bytes (4 * (k - 10)) 4 ≡ get_or body k 0
unfolding fields
block-reads bytes body count is long fits e k ge lt =
    let numbers : List ℕ = take count (drop 10 body) in
    let many : length numbers ≡ count = length-take count (drop 10 body) ∙ (let d = length-drop 10 body in omega arith) in
    let whole : drop 0 bytes ≡ flat_map (little_bytes 4) numbers ++ [] = e ∙ sym (append-nil (flat_map (little_bytes 4) numbers)) in
    let all = fields_from bytes numbers [] 0 4 count whole many (λ i x below. let d = get_or_default numbers i x 0 below in let v = at i (omega arith) in let f = fits (10 + i) in omega arith) in
    let j : ℕ = k - 10 in
    let zero' : 0 + 4 * j ≡ 4 * j = omega arith in
    let same : 10 + j ≡ k = omega arith in
    ap (λ a. field bytes a 4) (sym zero') ∙ sym (get_or-map-range_with_len (λ (q : ℕ). field bytes (0 + 4 * q) 4) 0 count j j 0 (omega arith) (omega arith)) ∙ ap (λ l. get_or l j 0) all ∙ at j (omega arith) ∙ ap (λ q. get_or body q 0) same
  where
    at : (i : ℕ) → i < count → get_or (take count (drop 10 body)) i 0 ≡ get_or body (10 + i) 0
    at i below = get_or-take count (drop 10 body) i 0 below ∙ get_or-drop 10 body i 0
