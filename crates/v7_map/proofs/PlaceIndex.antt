-- The places of an inode in the order of the tests.
use Rattle.std.proofs.Common.{◌≡◌, ◌≢◌, ◌⊎◌, ℕ, ◌+◌, ◌-◌, ◌<◌, ◌≤◌, true, false, cond, refl, sym, ap, subst, arith, inl, inr, ⊎_elim, eqb, ltb, lit<, eq-eqb, ◌==◌}
use Rattle.std.proofs.lemmas.Bool.{cases_eq, cases_lt, ne_eqb, lt-ltb, le-ltb}
use Rattle.v7_map.specs.Frame.{CanHold, Place, Body, Single, Double}
use Rattle.v7_map.specs.Damage.{place_at}

pub index_of : Place → ℕ
index_of (Body k) = cond (ltb k 10) k (k + 1)
index_of Single = 10
index_of Double = 139

-- a place that an inode has is the one of its index
pub index_found : (p : Place) → CanHold p → (index_of p < 140) × (place_at (index_of p) ≡ p)
unfolding index_of
index_found (Body k) can = ⊎_elim
    (λ (lt : k < 10). let e : ltb k 10 ≡ true = lt-ltb k 10 lt in let i : cond (ltb k 10) k (k + 1) ≡ k = ap (λ b. cond b k (k + 1)) e in
    (subst (λ z. z < 140) (sym i) (omega arith), subst (λ z. place_at z ≡ Body k) (sym i) (ap (λ b. cond b (Body k) (cond (eqb k 10) Single (cond (ltb k 139) (Body (k - 1)) Double))) e)))
    (λ (ge : 10 ≤ k). let e : ltb k 10 ≡ false = le-ltb k 10 ge in let i : cond (ltb k 10) k (k + 1) ≡ k + 1 = ap (λ b. cond b k (k + 1)) e in (
      subst (λ z. z < 140) (sym i) (omega arith),
      subst (λ z. place_at z ≡ Body k) (sym i)
          (let a : ltb (k + 1) 10 ≡ false = le-ltb (k + 1) 10 (omega arith) in let b : eqb (k + 1) 10 ≡ false = ne_eqb (k + 1) 10 (λ q. omega arith) in let c : ltb (k + 1) 139 ≡ true = lt-ltb (k + 1) 139 (omega arith) in
          let d : (k + 1) - 1 ≡ k = omega arith in
          (λ z. cond (a z) (Body (k + 1)) (cond (b z) Single (cond (c z) (Body (d z)) Double)))),
    ))
    (cases_lt k 10)
index_found Single can = (lit< tt, refl)
index_found Double can = (lit< tt, refl)

-- the places are different
pub place_index : (n : ℕ) → n < 140 → ((n < 10) × (place_at n ≡ Body n)) ⊎ (((n ≡ 10) × (place_at n ≡ Single)) ⊎ (((10 < n) × (n < 139) × (place_at n ≡ Body (n - 1))) ⊎ ((n ≡ 139) × (place_at n ≡ Double))))
place_index n lt = ⊎_elim
    (λ (a : n < 10). inl (a, ap (λ b. cond b (Body n) (cond (n == 10) Single (cond (ltb n 139) (Body (n - 1)) Double))) (lt-ltb n 10 a)))
    (λ (a : 10 ≤ n). inr (⊎_elim
    (λ (e : n ≡ 10). inl (e, (λ z. cond (le-ltb n 10 a z) (Body n) (cond (eq-eqb n 10 e z) Single (cond (ltb n 139) (Body (n - 1)) Double)))))
    (λ (ne : n ≢ 10). inr (⊎_elim
    (λ (c : n < 139). inl (omega arith, c, (λ z. cond (le-ltb n 10 a z) (Body n) (cond (ne_eqb n 10 ne z) Single (cond (lt-ltb n 139 c z) (Body (n - 1)) Double)))))
    (λ (c : 139 ≤ n). inr (omega arith, (λ z. cond (le-ltb n 10 a z) (Body n) (cond (ne_eqb n 10 ne z) Single (cond (le-ltb n 139 c z) (Body (n - 1)) Double)))))
    (cases_lt n 139)))
    (cases_eq n 10)))
    (cases_lt n 10)

number_of : Place → ℕ
number_of (Body k) = k
number_of Single = 1000
number_of Double = 1001

-- the number of a place by its index
place_numbers : (n : ℕ) → n < 140 → ((n < 10) × (number_of (place_at n) ≡ n)) ⊎ (((n ≡ 10) × (number_of (place_at n) ≡ 1000)) ⊎ (((10 < n) × (n < 139) × (number_of (place_at n) + 1 ≡ n)) ⊎ ((n ≡ 139) × (number_of (place_at n) ≡ 1001))))
unfolding number_of
place_numbers n lt = ⊎_elim
    (λ (a : (n < 10) × (place_at n ≡ Body n)). inl (a.0, ap number_of a.1))
    (λ a. inr (⊎_elim
    (λ (b : (n ≡ 10) × (place_at n ≡ Single)). inl (b.0, ap number_of b.1))
    (λ b. inr (⊎_elim
    (λ (c : (10 < n) × (n < 139) × (place_at n ≡ Body (n - 1))). let low = c.0 in let e = ap number_of c.2 in inl (c.0, c.1, omega arith))
    (λ (c : (n ≡ 139) × (place_at n ≡ Double)). inr (c.0, ap number_of c.1)) b)) a)) (place_index n lt)

pub place_once : (n m : ℕ) → n < 140 → m < 140 → place_at n ≡ place_at m → n ≡ m
place_once n m ln lm e = let a = place_numbers n ln in let b = place_numbers m lm in let q = ap number_of e in grind arith

-- the place of sector k of a body
pub place_body : (k : ℕ) → k < 138 → (cond (ltb k 10) k (k + 1) < 140) × (place_at (cond (ltb k 10) k (k + 1)) ≡ Body k)
unfolding index_of
place_body k lt = index_found (Body k) lt
