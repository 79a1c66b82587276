-- How many numbers a set has.
use Rattle.std.proofs.Common.{◌≡◌, ℕ, zero, suc, ◌+◌, ◌-◌, ◌<◌, ◌≤◌, Bool, true, false, cond, List, [], ◌∷◌, ◌++◌, length, get_or, sym, ap, ◌∙◌, arith, refl, ⊎_elim, length-append}
use Rattle.std.proofs.lemmas.Bool.{cases_Bool}
use Rattle.std.proofs.lemmas.List.Sums.{length-filter, sum_by-append}
use Rattle.std.proofs.lemmas.List.Elements.{filter-append}
use Rattle.std.proofs.lemmas.List.FromFn.{length-range_with_len}
use Rattle.std.specs.List.{range_with_len, count_by, filter}
use Rattle.index_sets.specs.Free.{is_free, count_free}
use Rattle.v7_make.specs.Sets.{rising, free_among, AreFrom}
use Rattle.v7_make.specs.Chains.{given}

count_range : (p q : ℕ → Bool) (a n : ℕ) → ((i : ℕ) → a ≤ i → p i ≡ q i) → count_by p (range_with_len a n) ≡ count_by q (range_with_len a n)
count_range p q a zero h = refl
count_range p q a (suc n) h =
    sum_by-append (λ i. cond {A = ℕ} (p i) 1 0) (a ∷ []) (range_with_len (a + 1) n)
    ∙ (λ z. (0 + cond {A = ℕ} (h a (omega arith) z) 1 0) + count_range p q (a + 1) n (λ i le. h i (omega (arith, le))) z)
    ∙ sym (sum_by-append (λ i. cond {A = ℕ} (q i) 1 0) (a ∷ []) (range_with_len (a + 1) n))

count_from : (free : List Bool) (a : ℕ) → count_by (λ i. get_or free (i - a) false) (range_with_len a (length free)) ≡ count_by (λ b. b) free
count_from [] a = refl
count_from (x ∷ xs) a =
    sum_by-append (λ i. cond {A = ℕ} (get_or (x ∷ xs) (i - a) false) 1 0) (a ∷ []) (range_with_len (a + 1) (length xs))
    ∙ (λ z. (0 + cond {A = ℕ} (first z) 1 0) + (count_range (λ i. get_or (x ∷ xs) (i - a) false) (λ i. get_or xs (i - (a + 1)) false) (a + 1) (length xs) rest ∙ count_from xs (a + 1)) z)
    ∙ sym (sum_by-append (λ b. cond {A = ℕ} b 1 0) (x ∷ []) xs)
  where
    first : get_or (x ∷ xs) (a - a) false ≡ x
    first = let e : a - a ≡ zero = omega arith in ap (λ k. get_or (x ∷ xs) k false) e

    rest : (i : ℕ) → a + 1 ≤ i → get_or (x ∷ xs) (i - a) false ≡ get_or xs (i - (a + 1)) false
    rest i le = let e : i - a ≡ suc (i - (a + 1)) = omega (arith, le) in ap (λ k. get_or (x ∷ xs) k false) e

-- as many as are in the rising list
pub count-rising : (free : List Bool) → length (rising free) ≡ count_free free
unfolding rising
count-rising free = length-filter (is_free free) (range_with_len 0 (length free))
    ∙ count_range (is_free free) (λ i. get_or free (i - 0) false) 0 (length free) (λ i le. let e : i ≡ i - 0 = omega arith in ap (λ k. get_or free k false) e)
    ∙ count_from free 0

pub count-among : (free : List Bool) → free_among free 0 (length free) ≡ count_free free
unfolding rising
count-among free = count-rising free

-- a number before those that are counted
pub among-before : (free : List Bool) (b n count : ℕ) → b + 1 ≡ n → free_among free b (suc count) ≡ given (is_free free b) + free_among free n count
among-before free b n count next = ap (λ m. length (cond (is_free free b) (b ∷ filter (is_free free) (range_with_len m count)) (filter (is_free free) (range_with_len m count)))) next ∙ by_test (filter (is_free free) (range_with_len n count)) (is_free free b)
  where
    by_test : (rest : List ℕ) (t : Bool) → length (cond t (b ∷ rest) rest) ≡ given t + length rest
    by_test rest true = omega arith
    by_test rest false = omega arith

filter_none : (p : ℕ → Bool) (a n : ℕ) → ((i : ℕ) → i < a + n → p i ≡ false) → filter p (range_with_len a n) ≡ []
filter_none p a zero none = refl
filter_none p a (suc n) none = ap (λ b. cond b (a ∷ filter p (range_with_len (a + 1) n)) (filter p (range_with_len (a + 1) n))) (none a (omega arith)) ∙ filter_none p (a + 1) n (λ i lt. none i (omega (arith, lt)))

filter_all : (p : ℕ → Bool) (a n : ℕ) → ((i : ℕ) → a ≤ i → i < a + n → p i ≡ true) → filter p (range_with_len a n) ≡ range_with_len a n
filter_all p a zero all = refl
filter_all p a (suc n) all = ap (λ b. cond b (a ∷ filter p (range_with_len (a + 1) n)) (filter p (range_with_len (a + 1) n))) (all a (omega arith) (omega arith))
    ∙ ap (λ l. a ∷ l) (filter_all p (a + 1) n (λ i le lt. all i (omega (arith, le)) (omega (arith, lt))))

range_split : (a n m : ℕ) → range_with_len a (n + m) ≡ range_with_len a n ++ range_with_len (a + n) m
range_split a zero m = let e : a ≡ a + zero = omega arith in let f : zero + m ≡ m = omega arith in (λ z. range_with_len (e z) (f z))
range_split a (suc n) m =
    let e : (a + 1) + n ≡ a + suc n = omega arith in
    let f : suc n + m ≡ suc (n + m) = omega arith in
    ap (range_with_len a) f ∙ ap (λ l. a ∷ l) (range_split (a + 1) n m ∙ ap (λ k. range_with_len (a + 1) n ++ range_with_len k m) e)

-- no more than there are
pub among-within : (free : List Bool) (a n whole : ℕ) → a + n ≡ whole → free_among free a n ≤ free_among free 0 whole
among-within free a n whole is =
    let parts : free_among free 0 whole ≡ free_among free 0 a + free_among free a n =
    ap (λ m. free_among free 0 m) (sym is) ∙ ap (λ l. length (filter (is_free free) l)) (range_split 0 a n)
    ∙ ap length (filter-append (is_free free) (range_with_len 0 a) (range_with_len (0 + a) n))
    ∙ length-append (filter (is_free free) (range_with_len 0 a)) (filter (is_free free) (range_with_len (0 + a) n))
    ∙ (let e : 0 + a ≡ a = omega arith in ap (λ b. free_among free 0 a + free_among free b n) e) in
    omega (arith, parts)

-- the set of all from one on
pub rising-from : (free : List Bool) (from size : ℕ) → AreFrom from size free → from ≤ size → rising free ≡ range_with_len from (size - from)
unfolding rising
rising-from free from size are le =
    let whole : length free ≡ from + (size - from) = omega (arith, are.long, le) in
    ap (λ n. filter (is_free free) (range_with_len 0 n)) whole
    ∙ ap (filter (is_free free)) (range_split 0 from (size - from))
    ∙ filter-append (is_free free) (range_with_len 0 from) (range_with_len (0 + from) (size - from))
    ∙ ap (λ l. l ++ filter (is_free free) (range_with_len (0 + from) (size - from))) (filter_none (is_free free) 0 from (λ i lt. low i (omega (arith, lt))))
    ∙ filter_all (is_free free) (0 + from) (size - from) (λ i ge lt. are.all i (omega (arith, ge)) (omega (arith, lt, le)))
    ∙ (let e : 0 + from ≡ from = omega arith in ap (λ a. range_with_len a (size - from)) e)
  where
    low : (i : ℕ) → i < from → is_free free i ≡ false
    low i lt = ⊎_elim (λ (some : is_free free i ≡ true). let past = are.only i some in absurd (omega (arith, past, lt))) (λ (none : is_free free i ≡ false). none) (cases_Bool (is_free free i))

pub count-from : (free : List Bool) (from size : ℕ) → AreFrom from size free → from ≤ size → count_free free ≡ size - from
count-from free from size are le = sym (count-rising free) ∙ ap length (rising-from free from size are le) ∙ length-range_with_len from (size - from)
