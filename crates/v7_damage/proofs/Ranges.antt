-- Tests of the numbers of a range.
use Rattle.std.proofs.Common.{◌≡◌, ℕ, zero, suc, ◌+◌, ◌<◌, ◌≤◌, Bool, true, false, cond, ◌&&◌, ◌||◌, List, [], ◌∷◌, refl, sym, ap, ◌∙◌, arith}
use Rattle.std.specs.Prelude.{count_by}
use Rattle.std.specs.List.{range_with_len, list_any, list_all}
use Rattle.std.proofs.lemmas.List.Sums.{sum_by-append}

pub or_true : (a : Bool) → (a || true) ≡ true
or_true true = refl
or_true false = refl

pub or_none : (a : Bool) → (a || false) ≡ a
or_none true = refl
or_none false = refl

pub or_more : (a b c : Bool) → (a || (b || c)) ≡ ((a || b) || c)
or_more true b c = refl
or_more false b c = refl

and_more : (a b c : Bool) → (a && (b && c)) ≡ ((a && b) && c)
and_more true b c = refl
and_more false b c = refl

and_all : (a : Bool) → (a && true) ≡ a
and_all true = refl
and_all false = refl

-- ---- one of them

pub any_step : (q : ℕ → Bool) (a n : ℕ) → list_any q (range_with_len a (suc n)) ≡ (list_any q (range_with_len a n) || q (a + n))
any_step q a zero = or_none (q a) ∙ (let e : a ≡ a + 0 = omega arith in ap q e)
any_step q a (suc n) = ap (λ b. q a || b) (any_step q (a + 1) n) ∙ or_more (q a) (list_any q (range_with_len (a + 1) n)) (q ((a + 1) + n))
    ∙ (let e : (a + 1) + n ≡ a + suc n = omega arith in ap (λ i. (q a || list_any q (range_with_len (a + 1) n)) || q i) e)

pub any_more : (q : ℕ → Bool) (k : ℕ) → list_any q (range_with_len 0 (k + 1)) ≡ (list_any q (range_with_len 0 k) || q k)
any_more q k = (let e : k + 1 ≡ suc k = omega arith in ap (λ n. list_any q (range_with_len 0 n)) e) ∙ any_step q 0 k ∙ (let e : 0 + k ≡ k = omega arith in ap (λ i. list_any q (range_with_len 0 k) || q i) e)

pub any_same : (p q : ℕ → Bool) (a n : ℕ) → ((i : ℕ) → a ≤ i → i < a + n → p i ≡ q i) → list_any p (range_with_len a n) ≡ list_any q (range_with_len a n)
any_same p q a zero same = refl
any_same p q a (suc n) same = let here = same a (omega arith) (omega arith) in let rest = any_same p q (a + 1) n (λ i low high. same i (omega arith) (omega arith)) in λ z. here z || rest z

-- ---- all of them

pub all_step : (p : ℕ → Bool) (a n : ℕ) → list_all p (range_with_len a (suc n)) ≡ (list_all p (range_with_len a n) && p (a + n))
all_step p a zero = and_all (p a) ∙ (let e : a ≡ a + 0 = omega arith in ap p e)
all_step p a (suc n) = ap (λ b. p a && b) (all_step p (a + 1) n) ∙ and_more (p a) (list_all p (range_with_len (a + 1) n)) (p ((a + 1) + n))
    ∙ (let e : (a + 1) + n ≡ a + suc n = omega arith in ap (λ i. (p a && list_all p (range_with_len (a + 1) n)) && p i) e)

pub all_same : (p q : ℕ → Bool) (a n : ℕ) → ((i : ℕ) → a ≤ i → i < a + n → p i ≡ q i) → list_all p (range_with_len a n) ≡ list_all q (range_with_len a n)
all_same p q a zero same = refl
all_same p q a (suc n) same = let here = same a (omega arith) (omega arith) in let rest = all_same p q (a + 1) n (λ i low high. same i (omega arith) (omega arith)) in λ z. here z && rest z

-- ---- how many

count_cons : (p : ℕ → Bool) (x : ℕ) (xs : List ℕ) → count_by p (x ∷ xs) ≡ cond (p x) 1 0 + count_by p xs
count_cons p x xs = sum_by-append (λ y. cond (p y) 1 0) (x ∷ []) xs ∙ (let e : 0 + cond (p x) 1 0 ≡ cond (p x) 1 0 = omega arith in ap (λ n. n + count_by p xs) e)

-- two tests that agree
pub count_same : (p q : ℕ → Bool) (a n : ℕ) → ((i : ℕ) → a ≤ i → i < a + n → p i ≡ q i) → count_by p (range_with_len a n) ≡ count_by q (range_with_len a n)
count_same p q a zero same = refl
count_same p q a (suc n) same =
    let here = same a (omega arith) (omega arith) in
    let rest = count_same p q (a + 1) n (λ i low high. same i (omega arith) (omega arith)) in
    count_cons p a (range_with_len (a + 1) n) ∙ (λ z. cond (here z) 1 0 + rest z) ∙ sym (count_cons q a (range_with_len (a + 1) n))

-- one number more
pub count_next : (p : ℕ → Bool) (a n : ℕ) → count_by p (range_with_len a (suc n)) ≡ count_by p (range_with_len a n) + cond (p (a + n)) 1 0
count_next p a zero = count_cons p a [] ∙ (let e : a ≡ a + 0 = omega arith in (λ z. cond (p (e z)) 1 0 + 0)) ∙ (let e : cond (p (a + 0)) 1 0 + 0 ≡ 0 + cond (p (a + 0)) 1 0 = omega arith in e)
count_next p a (suc n) =
    let rest = count_next p (a + 1) n in
    let at : (a + 1) + n ≡ a + suc n = omega arith in
    count_cons p a (range_with_len (a + 1) (suc n)) ∙ ap (λ m. cond (p a) 1 0 + m) (rest ∙ ap (λ i. count_by p (range_with_len (a + 1) n) + cond (p i) 1 0) at)
    ∙ (let e : cond (p a) 1 0 + (count_by p (range_with_len (a + 1) n) + cond (p (a + suc n)) 1 0) ≡ (cond (p a) 1 0 + count_by p (range_with_len (a + 1) n)) + cond (p (a + suc n)) 1 0 = omega arith in e)
    ∙ ap (λ m. m + cond (p (a + suc n)) 1 0) (sym (count_cons p a (range_with_len (a + 1) n)))

pub count_more : (p : ℕ → Bool) (k : ℕ) → count_by p (range_with_len 0 (k + 1)) ≡ count_by p (range_with_len 0 k) + cond (p k) 1 0
count_more p k = (let e : k + 1 ≡ suc k = omega arith in ap (λ n. count_by p (range_with_len 0 n)) e) ∙ count_next p 0 k ∙ (let e : 0 + k ≡ k = omega arith in ap (λ i. count_by p (range_with_len 0 k) + cond (p i) 1 0) e)
