-- Numbers that `byteorder` reads and writes, as the numbers of this crate.
use Rattle.std.proofs.Common.{◌≡◌, ℕ, zero, suc, ◌+◌, ◌-◌, ◌*◌, ◌^◌, ◌<◌, ◌≤◌, All, List, [], ◌∷◌, length, take, drop, get_or, refl, sym, ap, ◌∙◌, arith, length-drop, drop-cons}
use Rattle.std.proofs.Math.Nat.{mul-le-mul_left, mul-suc}
use Rattle.std.proofs.lemmas.List.{append-nil, drop-drop, drop-take, length-take-le, take-take, take_all, take_rest, get_or-drop, get_or_default}
use Rattle.std.proofs.lemmas.List.FromFn.{fill_by_all}
use Rattle.byteorder.specs.Endian.{little_number, little_bytes}
use Rattle.byteorder.specs.Numbers.{length-bytes_low_first, little_from-cons, little_from-lt, little_number-reads_back}
use Rattle.v7_layout.specs.Numbers.{little, part, field, fields}

-- what `byteorder` reads is the number of the first n bytes
pub little_number-take : (n : ℕ) (bytes : List ℕ) → n ≤ length bytes → little_number n bytes ≡ little (take n bytes)
little_number-take zero bytes h = refl
little_number-take (suc n) [] h = absurd (omega arith)
little_number-take (suc n) (b ∷ bytes) h =
    let moved = little_from-cons 0 n b bytes in
    let rest = little_number-take n bytes (omega arith) in
    rw (moved, rest) refl

-- a number that `byteorder` reads from a place on
pub number_at_place : (n at : ℕ) (bytes : List ℕ) → at + n ≤ length bytes → little_number n (take (length bytes - at) (drop at bytes)) ≡ field bytes at n
unfolding field part
number_at_place n at bytes h =
    ap (little_number n) (take_rest bytes at)
    ∙ little_number-take n (drop at bytes) (omega (arith, length-drop at bytes))

-- one byte at a place
pub byte-field : (at : ℕ) (bytes : List ℕ) → at < length bytes → get_or bytes at 0 ≡ field bytes at 1
unfolding field part
byte-field at bytes h =
    let cut = drop-cons bytes at 0 h in
    let one : little (take 1 (drop at bytes)) ≡ little (take 1 (get_or bytes at 0 ∷ drop (suc at) bytes)) = ap (λ (l : List ℕ). little (take 1 l)) cut in
    omega (arith, one)

-- the k-th of as many numbers of n bytes each lies before their end
pub number-within : (n k count : ℕ) → k < count → n * k + n ≤ n * count
number-within n k count lt =
    let grown : n * suc k ≤ n * count = mul-le-mul_left n (omega arith) in
    let e : n * suc k ≡ n * k + n = mul-suc n k in
    omega (arith, grown, e)

-- the k-th of the numbers that lie in w bytes from a place on
one_of_many : (n count k at w : ℕ) (bytes : List ℕ) → w ≡ n * count → at + w ≤ length bytes → k < count
    → little_number n (drop (n * k) (take w (drop at bytes))) ≡ field bytes (at + n * k) n
unfolding field part
one_of_many n count k at w bytes e h lt =
    let room = number-within n k count lt in
    let split : n * k + (w - n * k) ≡ w = omega arith in
    let len : length (take w (drop at bytes)) ≡ w = length-take-le w (drop at bytes) (omega (arith, length-drop at bytes)) in
    let cut : drop (n * k) (take w (drop at bytes)) ≡ take (w - n * k) (drop (n * k) (drop at bytes)) =
    ap (λ (j : ℕ). drop (n * k) (take j (drop at bytes))) (sym split) ∙ drop-take (n * k) (w - n * k) (drop at bytes) in
    little_number-take n (drop (n * k) (take w (drop at bytes))) (omega (arith, length-drop (n * k) (take w (drop at bytes))))
    ∙ ap (λ (l : List ℕ). little (take n l)) cut
    ∙ ap little (take-take n (w - n * k) (drop (n * k) (drop at bytes)) (omega arith))
    ∙ ap (λ (l : List ℕ). little (take n l)) (drop-drop (n * k) at bytes)

-- the numbers that `byteorder` reads one after the other from w bytes at a place
pub numbers_at_place : (n count at w : ℕ) (bytes numbers : List ℕ) → w ≡ n * count → at + w ≤ length bytes → length numbers ≡ count
    → ((k : ℕ) → k < length numbers → get_or numbers k 0 ≡ little_number n (drop (n * k) (take w (drop at bytes))))
    → numbers ≡ fields bytes at n count
unfolding fields
numbers_at_place n count at w bytes numbers e h l read =
    fill_by_all (λ (k : ℕ). field bytes (at + n * k) n) numbers count 0 l
    (λ k lt. read k (omega arith) ∙ one_of_many n count k at w bytes e h lt)

-- a number of n bytes that was written reads as itself
pub little-little_bytes : (n x : ℕ) → x < 256 ^ n → little (little_bytes n x) ≡ x
little-little_bytes n x h =
    let l = length-bytes_low_first 0 n x in
    ap little (sym (take_all n (little_bytes n x) (omega arith)))
    ∙ sym (little_number-take n (little_bytes n x) (omega arith))
    ∙ ap (little_number n) (sym (append-nil (little_bytes n x)))
    ∙ little_number-reads_back n x [] h

-- no number of n bytes reaches 256 ^ n
pub field-lt : (bytes : List ℕ) (at n : ℕ) → ((k : ℕ) → get_or bytes k 0 < 256) → at + n ≤ length bytes → field bytes at n < 256 ^ n
field-lt bytes at n h room =
    let read = number_at_place n at bytes room in
    let cut = take_rest bytes at in
    let below : little_number n (drop at bytes) < 256 ^ n =
    little_from-lt 0 n (drop at bytes) (λ k. let e = get_or-drop at bytes k 0 in let b = h (at + k) in omega (arith, e, b)) in
    let same : little_number n (drop at bytes) ≡ field bytes at n = ap (little_number n) (sym cut) ∙ read in
    omega (arith, below, same)

-- numbers that are below a bound at each place are all below it
pub all_below : (numbers : List ℕ) (bound : ℕ) → ((k : ℕ) → get_or numbers k 0 < bound) → All (λ number. number < bound) numbers
all_below numbers bound below k d lt =
    let same : get_or numbers k d ≡ get_or numbers k 0 = get_or_default numbers k d 0 lt in
    let here : get_or numbers k 0 < bound = below k in omega (arith, same, here)
