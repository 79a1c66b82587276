-- How many bits of words are set.
use Rattle.std.proofs.Common.{◌≡◌, ℕ, zero, suc, ◌+◌, ◌-◌, ◌*◌, ◌/◌, ◌%◌, ◌<◌, ◌≤◌, Bool, false, cond, ◌==◌, List, [], ◌∷◌, length, get_or, map, drop, refl, sym, ap, ◌∙◌, arith, count_by}
use Rattle.std.proofs.lemmas.List.{drop-map}
use Rattle.std.proofs.lemmas.List.FromFn.{length-range_with_len}
use Rattle.std.proofs.lemmas.List.Sums.{sum_by-cons, count_by-le-length}
use Rattle.std.specs.Int.{bit_at}
use Rattle.std.specs.List.{range_with_len}
use Rattle.index_sets.specs.Free.{count_free}
use Rattle.index_sets.specs.Bits.{bit, free_in, bits_of, bits_from}
use Rattle.index_sets.proofs.SetBits.{IsRest, bit_at_place}

-- how many of n numbers from one on pass
abbrev pub among : (ℕ → Bool) → ℕ → ℕ → ℕ
among p a n = count_by p (range_with_len a n)

among_more : (p : ℕ → Bool) (a n : ℕ) → among p a (suc n) ≡ cond {A = ℕ} (p a) 1 0 + among p (a + 1) n
among_more p a n = sum_by-cons (λ i. cond {A = ℕ} (p i) 1 0) a (range_with_len (a + 1) n)

among_same : (p q : ℕ → Bool) (a n : ℕ) → ((i : ℕ) → a ≤ i → i < a + n → p i ≡ q i) → among p a n ≡ among q a n
among_same p q a zero h = refl
among_same p q a (suc n) h = among_more p a n ∙ (λ z. cond {A = ℕ} (h a (omega arith) (omega arith) z) 1 0 + among_same p q (a + 1) n (λ i low high. h i (omega arith) (omega arith)) z) ∙ sym (among_more q a n)

among_none : (p : ℕ → Bool) (a n : ℕ) → ((i : ℕ) → a ≤ i → i < a + n → p i ≡ false) → among p a n ≡ 0
among_none p a zero h = refl
among_none p a (suc n) h =
    let here : ◌≡◌ {A = ℕ} (cond (p a) 1 0) 0 = ap (λ b. cond b 1 0) (h a (omega arith) (omega arith)) in
    let rest = among_none p (a + 1) n (λ i low high. h i (omega arith) (omega arith)) in
    let more = among_more p a n in
    omega arith

among_shifted : (p : ℕ → Bool) (a b n : ℕ) → among p (a + b) n ≡ among (λ k. p (a + k)) b n
among_shifted p a b zero = refl
among_shifted p a b (suc n) =
    let next : a + b + 1 ≡ a + (b + 1) = omega arith in
    among_more p (a + b) n ∙ ap (λ c. cond {A = ℕ} (p (a + b)) 1 0 + among p c n) next ∙ ap (λ m. cond {A = ℕ} (p (a + b)) 1 0 + m) (among_shifted p a (b + 1) n) ∙ sym (among_more (λ k. p (a + k)) b n)

among_then : (p : ℕ → Bool) (a n m : ℕ) → among p a (n + m) ≡ among p a n + among p (a + n) m
among_then p a zero m =
    let e : zero + m ≡ m = omega arith in
    let f : a ≡ a + zero = omega arith in
    ap (among p a) e ∙ ap (λ b. among p b m) f ∙ omega arith
among_then p a (suc n) m =
    let e : suc n + m ≡ suc (n + m) = omega arith in
    let f : a + 1 + n ≡ a + suc n = omega arith in
    let more = among_more p a (n + m) in
    let here = among_more p a n in
    let rest = among_then p (a + 1) n m in
    let last = ap (λ b. among p b m) f in
    ap (among p a) e ∙ omega arith

pub among_most : (p : ℕ → Bool) (a n : ℕ) → among p a n ≤ n
among_most p a n = let most = count_by-le-length p (range_with_len a n) in let len = length-range_with_len a n in omega arith

-- the bits of a word from one on
of_word : (words : List ℕ) (word at b n : ℕ) → b + n ≤ 64 → ((k : ℕ) → b ≤ k → k < 64 → bit_at word k ≡ bit_at (get_or words at 0) k) → among (bit words) (64 * at + b) n ≡ among (λ k. bit_at word k == 1) b n
of_word words word at b n le same = among_shifted (bit words) (64 * at) b n
    ∙ among_same (λ k. bit words (64 * at + k)) (λ k. bit_at word k == 1) b n (λ k low high. bit_at_place words (64 * at + k) at k (omega arith) (omega arith) ∙ ap (λ d. d == 1) (sym (same k low (omega arith))))

pub one_word_more : (words : List ℕ) (from at : ℕ) → from ≤ 64 * at → among (bit words) from (64 * (at + 1) - from) ≡ among (bit words) from (64 * at - from) + bits_of (get_or words at 0)
unfolding bits_of
one_word_more words from at le =
    let e : 64 * (at + 1) - from ≡ (64 * at - from) + 64 = omega arith in
    let f : from + (64 * at - from) ≡ 64 * at + 0 = omega arith in
    ap (among (bit words) from) e ∙ among_then (bit words) from (64 * at - from) 64
    ∙ ap (λ a. among (bit words) from (64 * at - from) + among (bit words) a 64) f
    ∙ ap (λ m. among (bit words) from (64 * at - from) + m) (of_word words (get_or words at 0) at 0 64 (omega arith) (λ k low lt. refl))

pub first_word_rest : (words : List ℕ) (from rest : ℕ) → IsRest words from rest → bits_of rest ≡ among (bit words) from (64 * (from / 64 + 1) - from)
unfolding bits_of
first_word_rest words from rest is =
    let e : 64 ≡ from % 64 + (64 - from % 64) = omega arith in
    let f : 0 + from % 64 ≡ from % 64 = omega arith in
    let g : 64 * (from / 64) + from % 64 ≡ from = omega arith in
    let h : 64 - from % 64 ≡ 64 * (from / 64 + 1) - from = omega arith in
    let none : among (λ k. bit_at rest k == 1) 0 (from % 64) ≡ 0 = among_none (λ k. bit_at rest k == 1) 0 (from % 64) (λ i low high. ap (λ d. d == 1) (is.below i (omega arith))) in
    let split = among_then (λ k. bit_at rest k == 1) 0 (from % 64) (64 - from % 64) in
    let same = of_word words rest (from / 64) (from % 64) (64 - from % 64) (omega arith) is.above in
    ap (among (λ k. bit_at rest k == 1) 0) e ∙ split ∙ ap (λ m. m + among (λ k. bit_at rest k == 1) (0 + from % 64) (64 - from % 64)) none
    ∙ ap (λ a. 0 + among (λ k. bit_at rest k == 1) a (64 - from % 64)) f ∙ ap (λ m. 0 + m) (sym same)
    ∙ ap (λ a. 0 + among (bit words) a (64 - from % 64)) g ∙ ap (λ n. 0 + among (bit words) from n) h ∙ omega arith

-- those that are free from one on
range_dropped : (a n m : ℕ) → drop m (range_with_len a n) ≡ range_with_len (a + m) (n - m)
range_dropped a n zero = let e : a ≡ a + zero = omega arith in let f : n ≡ n - zero = omega arith in (λ z. range_with_len (e z) (f z))
range_dropped a zero (suc m) = let e : zero ≡ zero - suc m = omega arith in ap (range_with_len (a + suc m)) e
range_dropped a (suc n) (suc m) =
    let e : a + 1 + m ≡ a + suc m = omega arith in
    let f : n - m ≡ suc n - suc m = omega arith in
    range_dropped (a + 1) n m ∙ (λ z. range_with_len (e z) (f z))

mapped : (p : ℕ → Bool) (xs : List ℕ) → count_free (map p xs) ≡ count_by p xs
mapped p [] = refl
mapped p (x ∷ xs) = sum_by-cons (λ b. cond {A = ℕ} b 1 0) (p x) (map p xs) ∙ ap (λ m. cond {A = ℕ} (p x) 1 0 + m) (mapped p xs) ∙ sym (sum_by-cons (λ i. cond {A = ℕ} (p i) 1 0) x xs)

pub bits-free : (words : List ℕ) (size from : ℕ) → length words ≡ (size + 63) / 64 → ((i : ℕ) → size ≤ i → bit words i ≡ false) → bits_from words from ≡ count_free (drop from (free_in words size))
unfolding bits_from free_in
bits-free words size from len within =
    let e : 64 * length words - from ≡ (size - from) + (64 * length words - from - (size - from)) = omega arith in
    let f : 0 + from ≡ from = omega arith in
    let none = among_none (bit words) (from + (size - from)) (64 * length words - from - (size - from)) (λ i low high. within i (omega arith)) in
    let split = among_then (bit words) from (size - from) (64 * length words - from - (size - from)) in
    let kept : among (bit words) from ((size - from) + (64 * length words - from - (size - from))) ≡ among (bit words) from (size - from) = omega arith in
    ap (among (bit words) from) e ∙ kept
    ∙ sym (ap count_free (drop-map (bit words) from (range_with_len 0 size)) ∙ mapped (bit words) (drop from (range_with_len 0 size)) ∙ ap (count_by (bit words)) (range_dropped 0 size from) ∙ ap (λ a. among (bit words) a (size - from)) f)

pub bits_past : (words : List ℕ) (from : ℕ) → 64 * length words ≤ from → bits_from words from ≡ 0
unfolding bits_from
bits_past words from le = let e : 64 * length words - from ≡ 0 = omega arith in ap (among (bit words) from) e

pub bits_all : (words : List ℕ) (from total : ℕ) → total ≡ among (bit words) from (64 * length words - from) → total ≡ bits_from words from
unfolding bits_from
bits_all words from total is = is
