-- The first of some tests that fails.
use Rattle.std.proofs.Common.{◌≡◌, ◌≢◌, ℕ, suc, ◌+◌, ◌-◌, ◌<◌, Bool, true, false, cond, not, ◌||◌, ◌==◌, List, [], ◌∷◌, ◌++◌, map, append_assoc, refl, sym, ap, ◌∙◌, arith, Some, None}
use Rattle.std.proofs.lemmas.Bool.{ne_eqb}
use Rattle.std.proofs.lemmas.List.FromFn.{map-range_with_len_more}
use Rattle.std.specs.List.{range_with_len, flat_map, find, list_any}
use Rattle.std.specs.Option.{option_map}
use Rattle.std.specs.Prelude.{is_some, Option}
use Rattle.v7_map.specs.Frame.{Frame}
use Rattle.v7_map.specs.Damage.{Test, Address, Shared, passes, place_at, block, blocks_before}
use Rattle.v7_damage.specs.Marks.{is_among}
use Rattle.v7_damage.specs.Tests.{first_failing, kind_of_test, place_tests, earlier_blocks}
use Rattle.v7_damage.specs.declared.damage.Damage.{Damage}

pub fails_here : (f : Frame) (t : Test) (ts : List Test) → passes f t ≡ false → first_failing f (t ∷ ts) ≡ Some t
unfolding first_failing
fails_here f t ts e = λ z. cond (not (e z)) (Some t) (find (λ t. not (passes f t)) ts)

pub passes_on : (f : Frame) (t : Test) (ts : List Test) → passes f t ≡ true → first_failing f (t ∷ ts) ≡ first_failing f ts
unfolding first_failing
passes_on f t ts e = λ z. cond (not (e z)) (Some t) (find (λ t. not (passes f t)) ts)

pub none_fails : (f : Frame) → first_failing f [] ≡ None
unfolding first_failing
none_fails f = refl

pub first-append_some : (f : Frame) (t : Test) (ts us : List Test) → first_failing f ts ≡ Some t → first_failing f (ts ++ us) ≡ Some t
unfolding first_failing
first-append_some f t [] us e = absurd (cc)
first-append_some f t (x ∷ xs) us e = by_test (first-append_some f t xs us) (not (passes f x)) e
  where
    by_test : (find (λ t. not (passes f t)) xs ≡ Some t → find (λ t. not (passes f t)) (xs ++ us) ≡ Some t) → (b : Bool) → cond b (Some x) (find (λ t. not (passes f t)) xs) ≡ Some t → cond b (Some x) (find (λ t. not (passes f t)) (xs ++ us)) ≡ Some t
    by_test rest true e = e
    by_test rest false e = rest e

pub first-append_none : (f : Frame) (ts us : List Test) → first_failing f ts ≡ None → first_failing f (ts ++ us) ≡ first_failing f us
unfolding first_failing
first-append_none f [] us e = refl
first-append_none f (x ∷ xs) us e = by_test (first-append_none f xs us) (not (passes f x)) e
  where
    by_test : (find (λ t. not (passes f t)) xs ≡ None → find (λ t. not (passes f t)) (xs ++ us) ≡ find (λ t. not (passes f t)) us) → (b : Bool)
        → cond b (Some x) (find (λ t. not (passes f t)) xs) ≡ None → cond b (Some x) (find (λ t. not (passes f t)) (xs ++ us)) ≡ find (λ t. not (passes f t)) us
    by_test rest true e = absurd (cc)
    by_test rest false e = rest e

-- a kind that is told comes first of the longer list too
pub told-some : (f : Frame) (r : Option Damage) (ts us : List Test) → is_some r ≡ true → r ≡ option_map kind_of_test (first_failing f ts) → r ≡ option_map kind_of_test (first_failing f (ts ++ us))
told-some f r ts us some told = by_first (first_failing f ts) refl
  where
    by_first : (o : Option Test) → first_failing f ts ≡ o → r ≡ option_map kind_of_test (first_failing f (ts ++ us))
    by_first None e = let none : r ≡ None = told ∙ ap (option_map kind_of_test) e in let no : false ≡ true = sym (ap is_some none) ∙ some in absurd (cc)
    by_first (Some t) e = told ∙ ap (option_map kind_of_test) (e ∙ sym (first-append_some f t ts us e))

-- none is told where none fails
pub told-none : (f : Frame) (r : Option Damage) (ts : List Test) → r ≡ None → r ≡ option_map kind_of_test (first_failing f ts) → first_failing f ts ≡ None
told-none f r ts none told = by_first (first_failing f ts) refl
  where
    by_first : (o : Option Test) → first_failing f ts ≡ o → first_failing f ts ≡ None
    by_first None e = e
    by_first (Some t) e = let no : None ≡ Some (kind_of_test t) = sym none ∙ told ∙ ap (option_map kind_of_test) e in absurd (cc)

-- ---- of a place

pub earlier_more : (f : Frame) (i n : ℕ) → earlier_blocks f i (n + 1) ≡ earlier_blocks f i n ++ f.address i (place_at n) ∷ []
unfolding earlier_blocks
earlier_more f i n =
    let before : List ℕ = flat_map (λ j. map (block f j) (range_with_len 0 140)) (range_with_len 1 (i - 1)) in
    ap (λ l. before ++ l) (map-range_with_len_more (block f i) 0 n n (omega arith))
    ∙ sym (append_assoc before (map (block f i) (range_with_len 0 n)) (f.address i (place_at n) ∷ []))

pub unshared-none : (f : Frame) (i n : ℕ) → f.address i (place_at n) ≡ 0 → passes f (Shared i n) ≡ true
unshared-none f i n e = λ z. (e z == 0) || not (list_any (λ b. b == e z) (blocks_before f i n))

pub unshared-some : (f : Frame) (i n : ℕ) → f.address i (place_at n) ≢ 0 → passes f (Shared i n) ≡ not (is_among (earlier_blocks f i n) (f.address i (place_at n)))
unfolding earlier_blocks is_among
unshared-some f i n ne = ap (λ b. b || not (list_any (λ b. b == block f i n) (blocks_before f i n))) (ne_eqb (f.address i (place_at n)) 0 ne)

-- the tests of the next place and those past it
pub place_more : (i n : ℕ) → n < 140 → place_tests i n (140 - n) ≡ Address i n ∷ Shared i n ∷ place_tests i (n + 1) (140 - (n + 1))
unfolding place_tests
place_more i n lt =
    let e : 140 - n ≡ suc (140 - (n + 1)) = omega arith in
    ap (λ m. flat_map (λ k. Address i k ∷ Shared i k ∷ []) (range_with_len n m)) e

pub place_end : (i n m : ℕ) → m ≡ 0 → place_tests i n m ≡ []
unfolding place_tests
place_end i n m e = ap (λ m. flat_map (λ k. Address i k ∷ Shared i k ∷ []) (range_with_len n m)) e

pub none_from : {X : Type 0} (r : Option X) → is_some r ≡ false → r ≡ None
none_from None e = refl
none_from (Some x) e = absurd (cc)
