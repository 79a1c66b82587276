-- Slots in lists of slots, and how many of them pass a test.
use Rattle.std.proofs.Common.{◌≡◌, ℕ, zero, suc, ◌+◌, ◌<◌, ◌≤◌, Bool, true, false, cond, List, [], ◌∷◌, ◌++◌, length, get_or, take, drop, append-nil, append_assoc, get_or-take, refl, sym, ap, subst, ◌∙◌, arith, inl, inr, ⊎_elim, Some, None}
use Rattle.std.proofs.lemmas.Bool.{cases_lt, cases_Bool}
use Rattle.std.proofs.lemmas.List.{get_or_past}
use Rattle.std.proofs.lemmas.List.Sums.{sum_by-append}
use Rattle.std.specs.List.{range_with_len, flat_map, count_by}
use Rattle.files_model.specs.Files.{Slot}
use Rattle.v7_map.proofs.Members.{In}

-- a slot that is read stands there
pub in_slots : (k : ℕ) (slots : List Slot) (e : ℕ × List ℕ) → get_or slots k None ≡ Some e → k < length slots
in_slots k slots e is = ⊎_elim (λ (lt : k < length slots). lt) (λ (ge : length slots ≤ k). let no : None ≡ Some e = sym (get_or_past slots k None ge) ∙ is in absurd (cc)) (cases_lt k (length slots))

-- what is read is a member, also of what stands from an earlier place on and before a later one
pub In-get_or : (slots : List Slot) (n k : ℕ) (e : ℕ × List ℕ) → n ≤ k → get_or slots k None ≡ Some e → In (Some e) (drop n slots)
unfolding In
In-get_or [] n k e le is = absurd (no_slot is)
  where
    no_slot : None ≡ Some e → ⊥
    no_slot is = cc
In-get_or (s ∷ ss) zero zero e le is = inl (sym is)
In-get_or (s ∷ ss) zero (suc k) e le is = inr (In-get_or ss zero k e (omega arith) is)
In-get_or (s ∷ ss) (suc n) zero e le is = absurd (omega arith)
In-get_or (s ∷ ss) (suc n) (suc k) e le is = In-get_or ss n k e (omega arith) is

pub get_or-before : (slots : List Slot) (k l : ℕ) → k < l → get_or (take l slots) k None ≡ get_or slots k None
get_or-before slots k l lt = get_or-take l slots k None lt

pub in_drop : (x : Slot) (n : ℕ) (xs : List Slot) → In x (drop n xs) → (l : ℕ) × (n ≤ l) × (l < length xs) × (get_or xs l None ≡ x)
unfolding In
in_drop x zero [] h = absurd h
in_drop x (suc n) [] h = absurd h
in_drop x zero (y ∷ ys) (inl e) = (0, omega arith, omega arith, sym e)
in_drop x zero (y ∷ ys) (inr h) = let q = in_drop x zero ys h in let lt = q.2 in (suc q.0, omega arith, omega arith, q.3)
in_drop x (suc n) (y ∷ ys) h = let q = in_drop x n ys h in let le = q.1 in let lt = q.2 in (suc q.0, omega arith, omega arith, q.3)

-- a count is at most c if it was below c before each that counts
pub count_grows : (p : Slot → Bool) (c : ℕ) (pre xs : List Slot) → count_by p pre ≤ c
    → ((k : ℕ) → k < length xs → p (get_or xs k None) ≡ true → count_by p (pre ++ take k xs) < c) → count_by p (pre ++ xs) ≤ c
count_grows p c pre [] le each = subst (λ l. count_by p l ≤ c) (sym (append-nil pre)) le
count_grows p c pre (x ∷ xs) le each =
    subst (λ l. count_by p l ≤ c) (append_assoc pre (x ∷ []) xs)
    (count_grows p c (pre ++ x ∷ []) xs one (λ k lt t. subst (λ l. count_by p l < c) (sym (append_assoc pre (x ∷ []) (take k xs))) (each (suc k) (omega arith) t)))
  where
    one : count_by p (pre ++ x ∷ []) ≤ c
    one = subst (λ n. n ≤ c) (sym (sum_by-append (λ y. cond (p y) 1 0) pre (x ∷ []))) (⊎_elim
        (λ (yes : p x ≡ true). let lt : count_by p (pre ++ []) < c = each 0 (omega arith) yes in let lt' : count_by p pre < c = subst (λ l. count_by p l < c) (append-nil pre) lt in
        let o : count_by p (x ∷ []) ≡ 1 = ap (λ b. 0 + cond b 1 0) yes in omega arith)
        (λ (no : p x ≡ false). let z : count_by p (x ∷ []) ≡ 0 = ap (λ b. 0 + cond b 1 0) no in omega arith)
        (cases_Bool (p x)))

pub flat_more : {X : Type 0} (g : ℕ → List X) (a n : ℕ) → flat_map g (range_with_len a (suc n)) ≡ flat_map g (range_with_len a n) ++ g (a + n)
flat_more g a zero = append-nil (g a) ∙ (let e : a ≡ a + 0 = omega arith in ap g e)
flat_more g a (suc n) = ap (λ l. g a ++ l) (flat_more g (a + 1) n) ∙ sym (append_assoc (g a) (flat_map g (range_with_len (a + 1) n)) (g ((a + 1) + n)))
    ∙ (let e : (a + 1) + n ≡ a + suc n = omega arith in ap (λ m. (g a ++ flat_map g (range_with_len (a + 1) n)) ++ g m) e)

pub count_cons : (p : Slot → Bool) (x : Slot) (xs : List Slot) → count_by p (x ∷ xs) ≡ count_by p (x ∷ []) + count_by p xs
count_cons p x xs = sum_by-append (λ y. cond (p y) 1 0) (x ∷ []) xs

pub count_one : (p : Slot → Bool) (x : Slot) → p x ≡ true → count_by p (x ∷ []) ≡ 1
count_one p x e = ap (λ b. 0 + cond b 1 0) e

-- what counts at k comes on top of what stands before
pub count_at : (p : Slot → Bool) (xs : List Slot) (k : ℕ) → k < length xs → p (get_or xs k None) ≡ true → count_by p (take k xs) + 1 ≤ count_by p xs
count_at p [] k lt e = absurd (omega arith)
count_at p (x ∷ xs) zero lt e = let a = count_cons p x xs in let b = count_one p x e in let z : count_by p (take 0 (x ∷ xs)) ≡ 0 = refl in omega arith
count_at p (x ∷ xs) (suc k) lt e = let a = count_cons p x xs in let b = count_cons p x (take k xs) in let r = count_at p xs k (omega arith) e in omega arith

pub count_flat : (p : Slot → Bool) (g : ℕ → List Slot) (n m : ℕ) → count_by p (flat_map g (range_with_len 1 n)) ≤ count_by p (flat_map g (range_with_len 1 (n + m)))
count_flat p g n zero = let e : n ≡ n + 0 = omega arith in subst (λ q. count_by p (flat_map g (range_with_len 1 n)) ≤ count_by p (flat_map g (range_with_len 1 q))) e (omega arith)
count_flat p g n (suc m) =
    let e : suc (n + m) ≡ n + suc m = omega arith in
    let a = ap (count_by p) (flat_more g 1 (n + m)) ∙ sum_by-append (λ y. cond (p y) 1 0) (flat_map g (range_with_len 1 (n + m))) (g (1 + (n + m))) in
    let r = count_flat p g n m in
    subst (λ q. count_by p (flat_map g (range_with_len 1 n)) ≤ count_by p (flat_map g (range_with_len 1 q))) e (omega arith)
