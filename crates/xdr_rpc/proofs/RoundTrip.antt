-- What was written is read again, whatever follows it.
use Rattle.std.proofs.Common.{◌≡◌, ℕ, ◌^◌, ◌<◌, ◌≤◌, false, cond, ltb, List, [], ◌∷◌, ◌++◌, length, drop, replicate, Some, None, refl, ap, ◌∙◌, append_assoc, length-append, arith}
use Rattle.std.proofs.lemmas.Bool.{le-ltb}
use Rattle.std.proofs.lemmas.List.{take_at, drop_at, length-replicate}
use Rattle.byteorder.specs.Endian.{big_number, big_bytes}
use Rattle.byteorder.specs.Numbers.{big_number-reads_back}
use Rattle.xdr_rpc.specs.Words.{word, fixed, padding, padded, opaque, words, opaque_bytes}

word_reads : (bytes : List ℕ) (n : ℕ) (rest : List ℕ) → 4 ≤ length bytes → big_number 4 bytes ≡ n → drop 4 bytes ≡ rest → word bytes ≡ Some (n, rest)
unfolding word
word_reads bytes n rest long number after =
    ap (λ b. cond b None (Some (big_number 4 bytes, drop 4 bytes))) (le-ltb (length bytes) 4 long) ∙ (λ i. Some (number i, after i))

pub word_again : (n : ℕ) (rest : List ℕ) → n < 2 ^ 32 → word (big_bytes 4 n ++ rest) ≡ Some (n, rest)
word_again n rest lt =
    word_reads (big_bytes 4 n ++ rest) n rest (omega (arith, length-append (big_bytes 4 n) rest)) (big_number-reads_back 4 n rest lt) (drop_at (big_bytes 4 n) rest 4 refl)

pub words_none : (rest : List ℕ) → words [] ++ rest ≡ rest
unfolding words
words_none rest = refl

-- the first of some words
pub words_again : (n : ℕ) (ns rest : List ℕ) → n < 2 ^ 32 → word (words (n ∷ ns) ++ rest) ≡ Some (n, words ns ++ rest)
unfolding words
words_again n ns rest lt = ap word (append_assoc (big_bytes 4 n) (words ns) rest) ∙ word_again n (words ns ++ rest) lt

pub fixed_again : (n : ℕ) (bytes rest : List ℕ) → length bytes ≡ n → fixed n (bytes ++ rest) ≡ Some (bytes, rest)
unfolding fixed
fixed_again n bytes rest len =
    let long : ltb (length (bytes ++ rest)) n ≡ false = le-ltb _ _ (omega (arith, length-append bytes rest)) in
    rw (long, take_at bytes rest n len, drop_at bytes rest n len) refl

pub padded_again : (bytes rest : List ℕ) → padded (length bytes) (bytes ++ (replicate (padding (length bytes)) 0 ++ rest)) ≡ Some (bytes, rest)
unfolding padded
padded_again bytes rest =
    let n : ℕ = padding (length bytes) in
    rw (fixed_again (length bytes) bytes (replicate n 0 ++ rest) refl, fixed_again n (replicate n 0) rest (length-replicate n 0)) refl

pub opaque_again : (bound : ℕ) (bytes rest : List ℕ) → length bytes ≤ bound → length bytes < 2 ^ 32 → opaque bound (opaque_bytes bytes ++ rest) ≡ Some (bytes, rest)
unfolding opaque opaque_bytes
opaque_again bound bytes rest fits short =
    let zeros : List ℕ = replicate (padding (length bytes)) 0 in
    let head : List ℕ = words (length bytes ∷ []) in
    let regrouped : ((head ++ bytes) ++ zeros) ++ rest ≡ head ++ (bytes ++ (zeros ++ rest)) = simp append_assoc in
    let none : words [] ++ (bytes ++ (zeros ++ rest)) ≡ bytes ++ (zeros ++ rest) = words_none (bytes ++ (zeros ++ rest)) in
    let inside : ltb bound (length bytes) ≡ false = le-ltb _ _ fits in
    ap (opaque bound) regrouped ∙ rw (words_again (length bytes) [] (bytes ++ (zeros ++ rest)) short, none, inside, padded_again bytes rest) refl
