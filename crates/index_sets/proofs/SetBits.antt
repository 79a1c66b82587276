-- Words of bits, and the sets that they hold.
use Rattle.std.proofs.Common.{length-set, ◌≡◌, ◌≢◌, ℕ, zero, suc, ◌+◌, ◌-◌, ◌*◌, ◌/◌, ◌%◌, ◌<◌, ◌≤◌, Bool, true, false, cond, ◌==◌, Some, max, List, [], ◌∷◌, length, get_or, set, map, replicate, refl, sym, ap, subst, ◌∙◌, arith, ⊎_elim, get_or-set_same, get_or-set_other, eq-eqb}
use Rattle.std.proofs.lemmas.Bool.{cases_eq, cases_lt}
use Rattle.std.proofs.lemmas.List.{get_or_past, get_or-replicate, length-replicate, set-get_or, same_lists}
use Rattle.std.proofs.lemmas.List.FromFn.{length-map-range_with_len, get_or-map-range_with_len}
use Rattle.std.proofs.lemmas.List.Sums.{sum_by-set, sum_by-append}
use Rattle.std.proofs.lemmas.Nat.Bits.{bit_at-zero}
use Rattle.std.specs.Int.{bit_at}
use Rattle.std.specs.List.{range_with_len}
use Rattle.index_sets.specs.Free.{is_free, count_free}
use Rattle.index_sets.specs.Bits.{bit, free_in, IsLowestBit}

pub length-free : (words : List ℕ) (size : ℕ) → length (free_in words size) ≡ size
unfolding free_in
length-free words size = length-map-range_with_len (bit words) 0 size

free-by : (words : List ℕ) (size i : ℕ) (d : Bool) → i < size → get_or (free_in words size) i d ≡ bit words i
unfolding free_in
free-by words size i d lt = get_or-map-range_with_len (bit words) 0 size i i d lt (omega arith)

pub free-past : (words : List ℕ) (size i : ℕ) → size ≤ i → is_free (free_in words size) i ≡ false
free-past words size i le = let n = length-free words size in get_or_past (free_in words size) i false (omega arith)

-- a number is free by its bit, also one past the size
pub free_is : (words : List ℕ) (size i : ℕ) → ((k : ℕ) → size ≤ k → bit words k ≡ false) → is_free (free_in words size) i ≡ bit words i
free_is words size i within = ⊎_elim (λ (lt : i < size). free-by words size i false lt) (λ (ge : size ≤ i). free-past words size i ge ∙ sym (within i ge)) (cases_lt i size)

pub set_inside : (words : List ℕ) (size i : ℕ) → ((k : ℕ) → size ≤ k → bit words k ≡ false) → bit words i ≡ true → i < size
set_inside words size i within is = ⊎_elim (λ (lt : i < size). lt) (λ (ge : size ≤ i). let e = within i ge in cc) (cases_lt i size)

-- a bit by its word
pub bit_at_place : (words : List ℕ) (i at b : ℕ) → i / 64 ≡ at → i % 64 ≡ b → bit words i ≡ (bit_at (get_or words at 0) b == 1)
unfolding bit
bit_at_place words i at b e f = λ z. bit_at (get_or words (e z) 0) (f z) == 1

bit_set : (words : List ℕ) (i at b : ℕ) → i / 64 ≡ at → i % 64 ≡ b → bit_at (get_or words at 0) b ≡ 1 → bit words i ≡ true
bit_set words i at b e f h = bit_at_place words i at b e f ∙ eq-eqb _ 1 h

bit_clear : (words : List ℕ) (i at b : ℕ) → i / 64 ≡ at → i % 64 ≡ b → bit_at (get_or words at 0) b ≡ 0 → bit words i ≡ false
bit_clear words i at b e f h = bit_at_place words i at b e f ∙ ap (λ n. n == 1) h

bit_of_zero : (words : List ℕ) (i : ℕ) → get_or words (i / 64) 0 ≡ 0 → bit words i ≡ false
bit_of_zero words i zeros = bit_clear words i (i / 64) (i % 64) refl refl (ap (λ w. bit_at w (i % 64)) zeros ∙ bit_at-zero (i % 64))

-- a word with one bit changed changes one number
pub record ChangesBit (words other : List ℕ) (i : ℕ) (b : Bool) : Type 0 where
  pub here : bit other i ≡ b
  pub others : (k : ℕ) → k ≢ i → bit other k ≡ bit words k

pub changes : (words : List ℕ) (word i c : ℕ) → i / 64 < length words → bit_at word (i % 64) ≡ c → ((k : ℕ) → k < 64 → k ≢ i % 64 → bit_at word k ≡ bit_at (get_or words (i / 64) 0) k) → ChangesBit words (set words (i / 64) word) i (c == 1)
changes words word i c lt is others = record {
  here = bit_at_place (set words (i / 64) word) i (i / 64) (i % 64) refl refl ∙ ap (λ w. bit_at w (i % 64) == 1) (get_or-set_same words (i / 64) word 0 lt) ∙ ap (λ d. d == 1) is;
  others = λ k ne. ⊎_elim
      (λ (e : k / 64 ≡ i / 64). bit_at_place (set words (i / 64) word) k (i / 64) (k % 64) e refl
      ∙ ap (λ w. bit_at w (k % 64) == 1) (get_or-set_same words (i / 64) word 0 lt) ∙ ap (λ d. d == 1) (others (k % 64) (omega arith) (λ same. ne (omega arith)))
      ∙ sym (bit_at_place words k (i / 64) (k % 64) e refl))
      (λ (far : k / 64 ≢ i / 64). bit_at_place (set words (i / 64) word) k (k / 64) (k % 64) refl refl
      ∙ ap (λ w. bit_at w (k % 64) == 1) (get_or-set_other words (i / 64) (k / 64) word 0 far) ∙ sym (bit_at_place words k (k / 64) (k % 64) refl refl))
      (cases_eq (k / 64) (i / 64));
}

pub free-set : (words other : List ℕ) (size i : ℕ) (b : Bool) → ChangesBit words other i b → free_in other size ≡ set (free_in words size) i b
free-set words other size i b change = same_lists (free_in other size) (set (free_in words size) i b)
    (length-free other size ∙ sym (length-set (free_in words size) i b ∙ length-free words size))
    (λ k d lt.
    let below : k < size = subst (λ n. k < n) (length-free other size) lt in
    let inside : k < length (free_in words size) = subst (λ n. k < n) (sym (length-free words size)) below in
    free-by other size k d below ∙ ⊎_elim
    (λ (e : k ≡ i). ap (bit other) e ∙ change.here
    ∙ sym (ap (λ j. get_or (set (free_in words size) i b) j d) e ∙ get_or-set_same (free_in words size) i b d (subst (λ j. j < length (free_in words size)) e inside)))
    (λ (ne : k ≢ i). change.others k ne ∙ sym (get_or-set_other (free_in words size) i k b d ne ∙ free-by words size k d below))
    (cases_eq k i))

-- how many are free after one was given or taken
pub count-given : (free : List Bool) (i : ℕ) → i < length free → is_free free i ≡ false → count_free (set free i true) ≡ count_free free + 1
count-given free i lt none =
    let s = sum_by-set (λ (b : Bool). cond {A = ℕ} b 1 0) free i true false lt in
    let z : ◌≡◌ {A = ℕ} (cond (is_free free i) 1 0) 0 = ap (λ b. cond b 1 0) none in
    omega arith

pub count-taken : (free : List Bool) (i : ℕ) → i < length free → is_free free i ≡ true → count_free (set free i false) + 1 ≡ count_free free
count-taken free i lt some =
    let s = sum_by-set (λ (b : Bool). cond {A = ℕ} b 1 0) free i false false lt in
    let z : ◌≡◌ {A = ℕ} (cond (is_free free i) 1 0) 1 = ap (λ b. cond b 1 0) some in
    omega arith

pub set_same : (free : List Bool) (i : ℕ) (b : Bool) → is_free free i ≡ b → free ≡ set free i b
set_same free i b is = sym (ap (set free i) (sym is) ∙ set-get_or free i false)

-- words of zeros
pub bit-zeros : (n i : ℕ) → bit (replicate n 0) i ≡ false
bit-zeros n i = bit_of_zero (replicate n 0) i (⊎_elim
    (λ (lt : i / 64 < n). get_or-replicate n (i / 64) 0 0 lt)
    (λ (ge : n ≤ i / 64). get_or_past (replicate n 0) (i / 64) 0 (subst (λ m. m ≤ i / 64) (sym (length-replicate n 0)) ge))
    (cases_lt (i / 64) n))

pub free-none : (words : List ℕ) (size : ℕ) → ((i : ℕ) → bit words i ≡ false) → free_in words size ≡ replicate size false
unfolding free_in
free-none words size none = by_length 0 size
  where
    by_length : (a n : ℕ) → map (bit words) (range_with_len a n) ≡ replicate n false
    by_length a zero = refl
    by_length a (suc n) = λ z. none a z ∷ by_length (a + 1) n z

pub count-none : (n : ℕ) → count_free (replicate n false) ≡ 0
count-none zero = refl
count-none (suc n) = let c = sum_by-append (λ b. cond b 1 0) (false ∷ []) (replicate n false) in let r = count-none n in omega arith

-- no bit is set behind the words
pub bit_past : (words : List ℕ) (i : ℕ) → 64 * length words ≤ i → bit words i ≡ false
bit_past words i le = bit_of_zero words i (get_or_past words (i / 64) 0 (omega arith))

-- of a word without the bits below one
pub record IsRest (words : List ℕ) (from rest : ℕ) : Type 0 where
  pub above : (k : ℕ) → from % 64 ≤ k → k < 64 → bit_at rest k ≡ bit_at (get_or words (from / 64) 0) k
  pub below : (k : ℕ) → k < from % 64 → bit_at rest k ≡ 0

-- no bit is set from one on, before a word, where none was in the first word, before the lowest, and in the words since
pub none_between : (words : List ℕ) (from lowest at rest : ℕ) → IsRest words from rest → rest ≡ 0 → ((i : ℕ) → i < 64 * lowest → bit words i ≡ false)
    → ((k : ℕ) → max lowest (from / 64 + 1) ≤ k → k < at → get_or words k 0 ≡ 0) → (i : ℕ) → from ≤ i → i < 64 * at → bit words i ≡ false
none_between words from lowest at rest is none low zeros i le lt = ⊎_elim
    (λ (first : i / 64 ≡ from / 64). bit_clear words i (from / 64) (i % 64) first refl
    (sym (is.above (i % 64) (omega arith) (omega arith)) ∙ ap (λ w. bit_at w (i % 64)) none ∙ bit_at-zero (i % 64)))
    (λ (later : i / 64 ≢ from / 64). ⊎_elim
    (λ (below : i < 64 * lowest). low i below)
    (λ (above : 64 * lowest ≤ i). bit_of_zero words i (zeros (i / 64) (omega arith) (omega arith)))
    (cases_lt i (64 * lowest)))
    (cases_eq (i / 64) (from / 64))

-- the lowest bit of a word is the lowest where none is set before it
pub lowest_here : (words : List ℕ) (from at b : ℕ) → b < 64 → from ≤ 64 * at + b → ((i : ℕ) → from ≤ i → i < 64 * at → bit words i ≡ false) → bit_at (get_or words at 0) b ≡ 1
    → ((k : ℕ) → k < b → from ≤ 64 * at + k → bit_at (get_or words at 0) k ≡ 0) → IsLowestBit words from (Some (64 * at + b))
lowest_here words from at b lt le before here below = (
  le,
  bit_set words (64 * at + b) at b (omega arith) (omega arith) here,
  λ i low high. ⊎_elim
      (λ (far : i < 64 * at). before i low far)
      (λ (near : 64 * at ≤ i). bit_clear words i at (i - 64 * at) (omega arith) (omega arith) (below (i - 64 * at) (omega arith) (omega arith)))
      (cases_lt i (64 * at)),
)

pub lowest_in_rest : (words : List ℕ) (from rest b : ℕ) → IsRest words from rest → b < 64 → bit_at rest b ≡ 1 → ((k : ℕ) → k < b → bit_at rest k ≡ 0) → IsLowestBit words from (Some (64 * (from / 64) + b))
lowest_in_rest words from rest b is lt here below =
    let le : from % 64 ≤ b = ⊎_elim (λ (low : b < from % 64). absurd (let e = is.below b low in omega arith)) (λ (high : from % 64 ≤ b). high) (cases_lt b (from % 64)) in
    lowest_here words from (from / 64) b lt (omega arith) (λ i low high. absurd (omega arith)) (sym (is.above b le lt) ∙ here)
    (λ k low high. sym (is.above k (omega arith) (omega arith)) ∙ below k low)
