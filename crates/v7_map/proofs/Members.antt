-- Members of lists, and how often a test passes in them.
use Rattle.std.proofs.Common.{◌≡◌, ◌≢◌, ◌⊎◌, ℕ, zero, suc, ◌+◌, ◌<◌, ◌≤◌, Bool, true, false, cond, ◌||◌, List, [], ◌∷◌, ◌++◌, map, refl, sym, ap, subst, ◌∙◌, arith, inl, inr, ⊎_elim, Some, None, eq-eqb, ◌==◌}
use Rattle.std.proofs.lemmas.Bool.{cases_eq, cases_Bool}
use Rattle.std.specs.List.{range_with_len, list_any, flat_map, find}

unfoldable pub In : {X : Type 0} → X → List X → Type 0
In x [] = ⊥
In x (y ∷ ys) = (x ≡ y) ⊎ In x ys

module _ {X : Type 0} where
  pub In-left : (x : X) (xs ys : List X) → In x xs → In x (xs ++ ys)
  unfolding In
  In-left x [] ys h = absurd h
  In-left x (y ∷ xs) ys (inl e) = inl e
  In-left x (y ∷ xs) ys (inr h) = inr (In-left x xs ys h)

  pub In-right : (x : X) (xs ys : List X) → In x ys → In x (xs ++ ys)
  unfolding In
  In-right x [] ys h = h
  In-right x (y ∷ xs) ys h = inr (In-right x xs ys h)

  pub In-flat_map : {A : Type 0} (g : A → List X) (x : X) (a : A) (as' : List A) → In a as' → In x (g a) → In x (flat_map g as')
  unfolding In
  In-flat_map g x a [] h k = absurd h
  In-flat_map g x a (b ∷ bs) (inl e) k = In-left x (g b) (flat_map g bs) (subst (λ z. In x (g z)) e k)
  In-flat_map g x a (b ∷ bs) (inr h) k = In-right x (g b) (flat_map g bs) (In-flat_map g x a bs h k)

  pub In-map : {A : Type 0} (g : A → X) (a : A) (as' : List A) → In a as' → In (g a) (map g as')
  unfolding In
  In-map g a [] h = absurd h
  In-map g a (b ∷ bs) (inl e) = inl (ap g e)
  In-map g a (b ∷ bs) (inr h) = inr (In-map g a bs h)

  pub find_none : (p : X → Bool) (x : X) (xs : List X) → find p xs ≡ None → In x xs → p x ≡ false
  unfolding In
  find_none p x [] e h = absurd h
  find_none p x (y ∷ ys) e (inl same) = subst (λ z. p z ≡ false) (sym same) (head_none (p y) e)
    where
      head_none : (b : Bool) → cond b (Some y) (find p ys) ≡ None → b ≡ false
      head_none true e = absurd (cc)
      head_none false e = refl
  find_none p x (y ∷ ys) e (inr h) = find_none p x ys (tail_none (p y) e) h
    where
      tail_none : (b : Bool) → cond b (Some y) (find p ys) ≡ None → find p ys ≡ None
      tail_none true e = absurd (cc)
      tail_none false e = e

pub In-range : (k a n : ℕ) → a ≤ k → k < a + n → In k (range_with_len a n)
unfolding In
In-range k a zero low high = absurd (omega arith)
In-range k a (suc n) low high = ⊎_elim (λ (e : k ≡ a). inl e) (λ (ne : k ≢ a). inr (In-range k (a + 1) n (omega arith) (omega arith))) (cases_eq k a)

pub any_of : (b : ℕ) (bs : List ℕ) → In b bs → list_any (λ c. c == b) bs ≡ true
unfolding In
any_of b [] h = absurd h
any_of b (c ∷ cs) (inl e) = ap (λ t. t || list_any (λ d. d == b) cs) (eq-eqb c b (sym e))
any_of b (c ∷ cs) (inr h) = either (c == b) (list_any (λ d. d == b) cs) (any_of b cs h)
  where
    either : (s t : Bool) → t ≡ true → (s || t) ≡ true
    either true t e = refl
    either false t e = e

module _ {X : Type 0} where
  pub find_all : (p : X → Bool) (xs : List X) → ((x : X) → In x xs → p x ≡ false) → find p xs ≡ None
  unfolding In
  find_all p [] h = refl
  find_all p (x ∷ xs) h = ap (λ b. cond b (Some x) (find p xs)) (h x (inl refl)) ∙ find_all p xs (λ y in'. h y (inr in'))

  pub in_append : (x : X) (xs ys : List X) → In x (xs ++ ys) → In x xs ⊎ In x ys
  unfolding In
  in_append x [] ys h = inr h
  in_append x (z ∷ zs) ys (inl e) = inl (inl e)
  in_append x (z ∷ zs) ys (inr h) = ⊎_elim (λ (l : In x zs). inl (inr l)) (λ (r : In x ys). inr r) (in_append x zs ys h)

  pub in_flat_map : {A : Type 0} (g : A → List X) (x : X) (as' : List A) → In x (flat_map g as') → (a : A) × In a as' × In x (g a)
  unfolding In
  in_flat_map g x [] h = absurd h
  in_flat_map g x (a ∷ as') h = ⊎_elim (λ (l : In x (g a)). (a, inl refl, l)) (λ (r : In x (flat_map g as')). let q = in_flat_map g x as' r in (q.0, inr q.1, q.2)) (in_append x (g a) (flat_map g as') h)

  pub in_map : {A : Type 0} (g : A → X) (x : X) (as' : List A) → In x (map g as') → (a : A) × In a as' × (x ≡ g a)
  unfolding In
  in_map g x [] h = absurd h
  in_map g x (a ∷ as') (inl e) = (a, inl refl, e)
  in_map g x (a ∷ as') (inr h) = let q = in_map g x as' h in (q.0, inr q.1, q.2)

  pub any_is : (p : X → Bool) (xs : List X) → list_any p xs ≡ true → (x : X) × In x xs × (p x ≡ true)
  unfolding In
  any_is p [] e = absurd (cc)
  any_is p (x ∷ xs) e = ⊎_elim (λ (h : p x ≡ true). (x, inl refl, h)) (λ (no : p x ≡ false). let rest : list_any p xs ≡ true = subst (λ b. (b || list_any p xs) ≡ true) no e in let q = any_is p xs rest in (q.0, inr q.1, q.2)) (cases_Bool (p x))

pub in_range_of : (k a n : ℕ) → In k (range_with_len a n) → (a ≤ k) × (k < a + n)
unfolding In
in_range_of k a zero h = absurd h
in_range_of k a (suc n) (inl e) = (omega arith, omega arith)
in_range_of k a (suc n) (inr h) = let q = in_range_of k (a + 1) n h in let l = q.0 in let u = q.1 in (omega arith, omega arith)

pub any_in : {X : Type 0} (p : X → Bool) (x : X) (xs : List X) → In x xs → p x ≡ true → list_any p xs ≡ true
unfolding In
any_in p x [] h e = absurd h
any_in p x (y ∷ ys) (inl s) e = ap (λ b. b || list_any p ys) (ap p (sym s) ∙ e)
any_in p x (y ∷ ys) (inr h) e = either (p y) (list_any p ys) (any_in p x ys h e)
  where
    either : (s t : Bool) → t ≡ true → (s || t) ≡ true
    either true t e = refl
    either false t e = e
