-- The directories whose times come before and after a node that lost a name.
use Rattle.std.proofs.Common.{◌≡◌, ◌⊎◌, ℕ, ◌+◌, ◌<◌, ◌≤◌, Bool, true, false, ◌||◌, ◌==◌, if◌then◌else◌, List, [], ◌∷◌, ◌++◌, length, Some, None, IfSome, refl, sym, ap, subst, ◌∙◌, arith, inl, inr, ⊎_elim, min, max, ltb, eqb, eq-eqb}
use Rattle.std.proofs.lemmas.Bool.{cases_lt, lt-ltb}
use Rattle.std.specs.List.{AllByRecursion, list_any}
use Rattle.rename_puts.specs.Times.{listed, before, after}
use Rattle.rename_puts.specs.declared.times.Timed.{Timed}

-- the same, of tests whose answers are known: the first comes before, there are two, the second comes before
abbrev firsts : ℕ → ℕ → Bool → Bool → Bool → Timed
firsts low high a t b = record { first = if a then Some low else None; second = if t then (if b then Some high else None) else None }

abbrev seconds : ℕ → ℕ → Bool → Bool → Bool → Timed
seconds low high a t b = record { first = if a then None else Some low; second = if t then (if b then None else Some high) else None }

or_true : (t : Bool) → (t || true) ≡ true
or_true true = refl
or_true false = refl

at_first : (d : ℕ) (rest : Bool) → ((d == d) || rest) ≡ true
at_first d rest = ap (λ t. t || rest) (eq-eqb d d refl)

past_first : (x : Bool) (d : ℕ) (rest : Bool) → (x || ((d == d) || rest)) ≡ true
past_first x d rest = ap (λ t. x || t) (at_first d rest) ∙ or_true x

has_low : (low high : ℕ) (a t b : Bool) → list_any (λ d. d == low) (listed (firsts low high a t b) ++ listed (seconds low high a t b)) ≡ true
has_low low high true true true = at_first low ((high == low) || false)
has_low low high true true false = at_first low ((high == low) || false)
has_low low high true false b = at_first low false
has_low low high false true true = past_first (high == low) low false
has_low low high false true false = at_first low ((high == low) || false)
has_low low high false false b = at_first low false

has_high : (low high : ℕ) (a b : Bool) → list_any (λ d. d == high) (listed (firsts low high a true b) ++ listed (seconds low high a true b)) ≡ true
has_high low high true true = past_first (low == high) high false
has_high low high true false = past_first (low == high) high false
has_high low high false true = at_first high ((low == high) || false)
has_high low high false false = past_first (low == high) high false

few : (low high : ℕ) (a t b : Bool) → length (listed (firsts low high a t b)) + length (listed (seconds low high a t b)) ≤ 2
few low high true true true = omega arith
few low high true true false = omega arith
few low high true false b = omega arith
few low high false true true = omega arith
few low high false true false = omega arith
few low high false false b = omega arith

only_first : (P : ℕ → Type 0) (low high : ℕ) (a t b : Bool) → P low → P high → AllByRecursion P (listed (firsts low high a t b))
only_first P low high true true true l h = (l, (h, tt))
only_first P low high true true false l h = (l, tt)
only_first P low high true false b l h = (l, tt)
only_first P low high false true true l h = (h, tt)
only_first P low high false true false l h = tt
only_first P low high false false b l h = tt

only_second : (P : ℕ → Type 0) (low high : ℕ) (a t b : Bool) → P low → P high → AllByRecursion P (listed (seconds low high a t b))
only_second P low high true true true l h = tt
only_second P low high true true false l h = (h, tt)
only_second P low high true false b l h = tt
only_second P low high false true true l h = (l, tt)
only_second P low high false true false l h = (l, (h, tt))
only_second P low high false false b l h = (l, tt)

-- ---- of two directories

pub of-min : (P : ℕ → Type 0) (a b : ℕ) → P a → P b → P (min a b)
of-min P a b x y = ⊎_elim
    (λ (lt : b < a). let e : b ≡ min a b = omega arith in subst P e y)
    (λ (le : a ≤ b). let e : a ≡ min a b = omega arith in subst P e x)
    (cases_lt b a)

pub of-max : (P : ℕ → Type 0) (a b : ℕ) → P a → P b → P (max a b)
of-max P a b x y = ⊎_elim
    (λ (lt : b < a). let e : a ≡ max a b = omega arith in subst P e x)
    (λ (le : a ≤ b). let e : b ≡ max a b = omega arith in subst P e y)
    (cases_lt b a)

-- what holds of both holds of those that come before, and of those that come after
some_if : (P : ℕ → Type 0) (b : Bool) (d : ℕ) → P d → IfSome (if b then Some d else None) P
some_if P true d h = h
some_if P false d h = tt

pub of-before : (P : ℕ → Type 0) (low high r : ℕ) → P low → P high → IfSome (before low high r).first P × IfSome (before low high r).second P
of-before P low high r x y = (
  some_if P (ltb low r) low x,
  elim (ltb low high) as (λ t. IfSome (if t then (if ltb high r then Some high else None) else None) P) [
    | true ↦ some_if P (ltb high r) high y
    | false ↦ tt
  ],
)

none_if : (P : ℕ → Type 0) (b : Bool) (d : ℕ) → P d → IfSome (if b then None else Some d) P
none_if P true d h = tt
none_if P false d h = h

pub of-after : (P : ℕ → Type 0) (low high r : ℕ) → P low → P high → IfSome (after low high r).first P × IfSome (after low high r).second P
of-after P low high r x y = (
  none_if P (ltb low r) low x,
  elim (ltb low high) as (λ t. IfSome (if t then (if ltb high r then None else Some high) else None) P) [
    | true ↦ none_if P (ltb high r) high y
    | false ↦ tt
  ],
)

pub sides-few : (low high r : ℕ) → length (listed (before low high r)) + length (listed (after low high r)) ≤ 2
sides-few low high r = few low high (ltb low r) (ltb low high) (ltb high r)

module _ (from to r : ℕ) where
  abbrev low : ℕ
  low = min from to

  abbrev high : ℕ
  high = max from to

  pub sides-from : list_any (λ d. d == from) (listed (before low high r) ++ listed (after low high r)) ≡ true
  sides-from = ⊎_elim
      (λ (lt : to < from). let e : high ≡ from = omega arith in let two : low < high = omega arith in
      ap (λ q. list_any (λ d. d == q) (listed (before low high r) ++ listed (after low high r))) (sym e)
      ∙ ap (λ t. list_any (λ d. d == high) (listed (firsts low high (ltb low r) t (ltb high r)) ++ listed (seconds low high (ltb low r) t (ltb high r)))) (lt-ltb low high two) ∙ has_high low high (ltb low r) (ltb high r))
      (λ (le : from ≤ to). let e : low ≡ from = omega arith in
      ap (λ q. list_any (λ d. d == q) (listed (before low high r) ++ listed (after low high r))) (sym e) ∙ has_low low high (ltb low r) (ltb low high) (ltb high r))
      (cases_lt to from)

  pub sides-to : list_any (λ d. d == to) (listed (before low high r) ++ listed (after low high r)) ≡ true
  sides-to = ⊎_elim
      (λ (lt : from < to). let e : high ≡ to = omega arith in let two : low < high = omega arith in
      ap (λ q. list_any (λ d. d == q) (listed (before low high r) ++ listed (after low high r))) (sym e)
      ∙ ap (λ t. list_any (λ d. d == high) (listed (firsts low high (ltb low r) t (ltb high r)) ++ listed (seconds low high (ltb low r) t (ltb high r)))) (lt-ltb low high two) ∙ has_high low high (ltb low r) (ltb high r))
      (λ (le : to ≤ from). let e : low ≡ to = omega arith in
      ap (λ q. list_any (λ d. d == q) (listed (before low high r) ++ listed (after low high r))) (sym e) ∙ has_low low high (ltb low r) (ltb low high) (ltb high r))
      (cases_lt from to)

  is_low : (low ≡ from) ⊎ (low ≡ to)
  is_low = ⊎_elim (λ (lt : to < from). inr (omega arith)) (λ (le : from ≤ to). inl (omega arith)) (cases_lt to from)

  is_high : (high ≡ from) ⊎ (high ≡ to)
  is_high = ⊎_elim (λ (lt : to < from). inl (omega arith)) (λ (le : from ≤ to). inr (omega arith)) (cases_lt to from)

  pub sides-before : AllByRecursion (λ d. (d ≡ from) ⊎ (d ≡ to)) (listed (before low high r))
  sides-before = only_first (λ d. (d ≡ from) ⊎ (d ≡ to)) low high (ltb low r) (ltb low high) (ltb high r) is_low is_high

  pub sides-after : AllByRecursion (λ d. (d ≡ from) ⊎ (d ≡ to)) (listed (after low high r))
  sides-after = only_second (λ d. (d ≡ from) ⊎ (d ≡ to)) low high (ltb low r) (ltb low high) (ltb high r) is_low is_high
