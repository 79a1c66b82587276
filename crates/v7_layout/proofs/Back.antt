-- Bytes that were joined, read again at their places.
use Rattle.std.proofs.Common.{◌≡◌, ℕ, zero, suc, ◌+◌, ◌*◌, ◌^◌, ◌<◌, All, List, [], ◌∷◌, ◌++◌, length, take, drop, get_or, sym, ap, ◌∙◌, arith, length-append}
use Rattle.std.proofs.Math.Nat.{mul-suc}
use Rattle.std.proofs.lemmas.List.{append_assoc, drop-drop, drop_at, take_all, take_at}
use Rattle.std.proofs.lemmas.List.FromFn.{fill_by_all}
use Rattle.std.specs.List.{flat_map}
use Rattle.byteorder.specs.Endian.{little_bytes}
use Rattle.byteorder.specs.Numbers.{length-bytes_low_first}
use Rattle.v7_layout.specs.Numbers.{little, part, field, fields}
use Rattle.v7_layout.proofs.Little.{little-little_bytes}

-- bytes that are known to their end
pub whole : (n : ℕ) (bytes all : List ℕ) → length bytes ≡ n → take n bytes ≡ all → bytes ≡ all
whole n bytes all l e = sym (take_all n bytes (omega arith)) ∙ e

-- what is left past a piece that is joined to the front of the rest
pub drop_next : (bytes piece rest : List ℕ) (at n next : ℕ) → drop at bytes ≡ piece ++ rest → length piece ≡ n → at + n ≡ next → drop next bytes ≡ rest
drop_next bytes piece rest at n next e l s =
    ap (λ (k : ℕ). drop k bytes) (sym s)
    ∙ sym (drop-drop n at bytes)
    ∙ ap (drop n) e
    ∙ drop_at piece rest n l

-- a number at a place past which the rest is known
pub field_from : (bytes rest : List ℕ) (at k n : ℕ) → drop at bytes ≡ rest → field bytes (at + k) n ≡ little (take n (drop k rest))
unfolding field part
field_from bytes rest at k n e =
    ap (λ (l : List ℕ). little (take n l)) (sym (drop-drop k at bytes))
    ∙ ap (λ (l : List ℕ). little (take n (drop k l))) e

-- the bytes of a piece at a place past which the rest is known
pub part_from : (bytes piece rest : List ℕ) (at n : ℕ) → drop at bytes ≡ piece ++ rest → length piece ≡ n → part bytes at n ≡ piece
unfolding part
part_from bytes piece rest at n e l = ap (take n) e ∙ take_at piece rest n l

-- how many bytes as many numbers of n bytes are
pub length-numbers : (n : ℕ) (numbers : List ℕ) → length (flat_map (little_bytes n) numbers) ≡ n * length numbers
length-numbers n [] = omega arith
length-numbers n (x ∷ numbers) =
    let a = length-append (little_bytes n x) (flat_map (little_bytes n) numbers) in
    let b = length-bytes_low_first 0 n x in
    let c = length-numbers n numbers in
    let d = mul-suc n (length numbers) in omega (arith, a, b, c, d)

-- the k-th of numbers that were written one after the other
one_of_written : (n k : ℕ) (numbers rest : List ℕ) → k < length numbers
    → take n (drop (n * k) (flat_map (little_bytes n) numbers ++ rest)) ≡ little_bytes n (get_or numbers k 0)
one_of_written n k [] rest lt = absurd (omega arith)
one_of_written n zero (x ∷ numbers) rest lt =
    let none : n * 0 ≡ 0 = omega arith in
    let e : flat_map (little_bytes n) (x ∷ numbers) ++ rest ≡ little_bytes n x ++ (flat_map (little_bytes n) numbers ++ rest) =
    append_assoc (little_bytes n x) (flat_map (little_bytes n) numbers) rest in
    ap (λ (j : ℕ). take n (drop j (flat_map (little_bytes n) (x ∷ numbers) ++ rest))) none
    ∙ ap (take n) e
    ∙ take_at (little_bytes n x) (flat_map (little_bytes n) numbers ++ rest) n (length-bytes_low_first 0 n x)
one_of_written n (suc k) (x ∷ numbers) rest lt =
    let e : flat_map (little_bytes n) (x ∷ numbers) ++ rest ≡ little_bytes n x ++ (flat_map (little_bytes n) numbers ++ rest) =
    append_assoc (little_bytes n x) (flat_map (little_bytes n) numbers) rest in
    let more : n * suc k ≡ n + n * k = mul-suc n k ∙ omega arith in
    ap (λ (j : ℕ). take n (drop j (flat_map (little_bytes n) (x ∷ numbers) ++ rest))) more
    ∙ ap (take n) (sym (drop-drop (n * k) n (flat_map (little_bytes n) (x ∷ numbers) ++ rest)))
    ∙ ap (λ (l : List ℕ). take n (drop (n * k) (drop n l))) e
    ∙ ap (λ (l : List ℕ). take n (drop (n * k) l)) (drop_at (little_bytes n x) (flat_map (little_bytes n) numbers ++ rest) n (length-bytes_low_first 0 n x))
    ∙ one_of_written n k numbers rest (omega arith)

-- numbers that were written one after the other read as themselves
pub fields_from : (bytes numbers rest : List ℕ) (at n count : ℕ) → drop at bytes ≡ flat_map (little_bytes n) numbers ++ rest
    → length numbers ≡ count → All (λ x. x < 256 ^ n) numbers → fields bytes at n count ≡ numbers
unfolding fields field part
fields_from bytes numbers rest at n count e l fits =
    sym (fill_by_all (λ (k : ℕ). field bytes (at + n * k) n) numbers count 0 l
    (λ k lt.
    let here : k < length numbers = omega arith in
    sym (field_from bytes (flat_map (little_bytes n) numbers ++ rest) at (n * k) n e
    ∙ ap little (one_of_written n k numbers rest here)
    ∙ little-little_bytes n (get_or numbers k 0) (fits k 0 here))))

-- a number of n bytes that was written at a place past which the rest is known
pub number_from : (bytes rest : List ℕ) (at k n x : ℕ) → drop at bytes ≡ rest → take n (drop k rest) ≡ little_bytes n x → x < 256 ^ n → field bytes (at + k) n ≡ x
number_from bytes rest at k n x e here h = field_from bytes rest at k n e ∙ ap little here ∙ little-little_bytes n x h

-- a byte that was written at a place past which the rest is known
pub byte_from : (bytes rest : List ℕ) (at k x : ℕ) → drop at bytes ≡ rest → take 1 (drop k rest) ≡ x ∷ [] → field bytes (at + k) 1 ≡ x
byte_from bytes rest at k x e here = field_from bytes rest at k 1 e ∙ ap little here ∙ omega arith

-- bytes that are known so far, with one piece more
pub grow : (front piece : List ℕ) (n at : ℕ) (now before : List ℕ) → take n now ≡ take at before ++ piece → take at before ≡ front → take n now ≡ front ++ piece
grow front piece n at now before e f = e ∙ ap (λ (l : List ℕ). l ++ piece) f
