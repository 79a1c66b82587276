-- What is written on a sheet, piece by piece.
use Rattle.std.proofs.Common.{◌≡◌, ℕ, zero, suc, ◌+◌, ◌-◌, ◌*◌, ◌<◌, ◌≤◌, List, [], ◌∷◌, ◌++◌, length, get_or, take, drop, replicate, refl, sym, ap, subst, ◌∙◌, append_assoc, add-one, length-append, drop_of_length-le, arith}
use Rattle.std.specs.List.{flat_map}
use Rattle.std.proofs.lemmas.List.{append-nil, length-replicate, take-replicate}
use Rattle.std.proofs.lemmas.Grind.{flat_map-append}
use Rattle.byteorder.specs.Endian.{big_bytes}
use Rattle.xdr_rpc.specs.Words.{Written, added, padding, words, opaque_bytes}

pub added-added : (w : Written) (a b : List ℕ) → added (added w a) b ≡ added w (a ++ b)
added-added w a b =
    let text : (w.bytes ++ a) ++ b ≡ w.bytes ++ (a ++ b) = append_assoc w.bytes a b in
    let left : (w.room - length a) - length b ≡ w.room - length (a ++ b) = omega (arith, length-append a b) in
    λ i. record { bytes = text i; room = left i }

pub added-nothing : (w : Written) → added w [] ≡ w
added-nothing w = let left : w.room - 0 ≡ w.room = omega arith in λ i. record { bytes = append-nil w.bytes i; room = left i }

-- ---- two pieces

pub both_written : (start one two : Written) (a b : List ℕ) → one ≡ added start a → two ≡ added one b → two ≡ added start (a ++ b)
both_written start one two a b first second = second ∙ ap (λ (w : Written). added w b) first ∙ added-added start a b

-- where there is room for two pieces, there is room for the first, and after it for the second
pub first_fits : (a b : List ℕ) (room : ℕ) → length (a ++ b) ≤ room → length a ≤ room
first_fits a b room fits = omega (arith, length-append a b)

pub second_fits : (start one : Written) (a b : List ℕ) → one ≡ added start a → length (a ++ b) ≤ start.room → length b ≤ one.room
second_fits start one a b first fits =
    let left : one.room ≡ start.room - length a = ap (λ (w : Written). w.room) first in
    omega (arith, length-append a b)

-- ---- pieces, each of one thing of a list, as a loop writes them

module _ {X : Type 0} (piece : X → List ℕ) where
  -- the pieces from index i on are that one and those after it
  pieces-drop : (i : ℕ) (xs : List X) (x : X) → i < length xs → x ≡ get_or xs i x → flat_map piece (drop i xs) ≡ piece x ++ flat_map piece (drop (suc i) xs)
  pieces-drop i [] x lt here = absurd (omega arith)
  pieces-drop zero (y ∷ ys) x lt here = ap (λ (z : X). piece z ++ flat_map piece ys) (sym here)
  pieces-drop (suc i) (y ∷ ys) x lt here = pieces-drop i ys x (omega arith) here

  -- from index i on, start is what will have been written, and there is room for it
  pub record WillBe (w start : Written) (xs : List X) (i : ℕ) : Type 0 where
    pub whole : added w (flat_map piece (drop i xs)) ≡ start
    pub fits : length (flat_map piece (drop i xs)) ≤ w.room

  pub piece_fits : (w start : Written) (xs : List X) (i : ℕ) (x : X) → i < length xs → x ≡ get_or xs i x → WillBe w start xs i → length (piece x) ≤ w.room
  piece_fits w start xs i x lt here will =
      first_fits (piece x) (flat_map piece (drop (suc i) xs)) w.room (subst (λ (text : List ℕ). length text ≤ w.room) (pieces-drop i xs x lt here) will.fits)

  pub next_piece : (old new start : Written) (xs : List X) (i : ℕ) (x : X) → i < length xs → x ≡ get_or xs i x → new ≡ added old (piece x) → WillBe old start xs i → WillBe new start xs (i + 1)
  next_piece old new start xs i x lt here is will =
      let more : List ℕ = flat_map piece (drop (i + 1) xs) in
      let next : flat_map piece (drop i xs) ≡ piece x ++ more = rw add-one (pieces-drop i xs x lt here) in
      record {
        whole = ap (λ (w : Written). added w more) is ∙ added-added old (piece x) more ∙ ap (added old) (sym next) ∙ will.whole;
        fits = second_fits old new (piece x) more is (subst (λ (text : List ℕ). length text ≤ old.room) next will.fits);
      }

  pub all_pieces : (w start : Written) (xs : List X) (i : ℕ) → length xs ≤ i → WillBe w start xs i → w ≡ start
  all_pieces w start xs i le will =
      let none : drop i xs ≡ [] = drop_of_length-le xs le in
      sym (added-nothing w) ∙ ap (λ (ys : List X). added w (flat_map piece ys)) (sym none) ∙ will.whole

-- ---- words

pub length-words : (numbers : List ℕ) → length (words numbers) ≡ 4 * length numbers
unfolding words
length-words [] = refl
length-words (n ∷ ns) = omega (arith, length-append (big_bytes 4 n) (words ns), length-words ns)

-- ---- bytes with their length and padding

pub length-opaque_bytes : (bytes : List ℕ) → length (opaque_bytes bytes) ≡ 4 + length bytes + padding (length bytes)
unfolding opaque_bytes
length-opaque_bytes bytes =
    simp (length-append, length-replicate) (omega (arith, length-words (length bytes ∷ [])))

-- as many zeros as are wanted, at most three
abbrev pub zeros : ℕ → List ℕ
zeros n = take n (0 ∷ 0 ∷ 0 ∷ [])

zeros_are : (n : ℕ) → n ≤ 3 → zeros n ≡ replicate n 0
zeros_are n le = take-replicate n 3 0 le

pub padding_short : (n : ℕ) → padding n ≤ 3
padding_short n = omega arith

-- a length, bytes and zeros
pub opaque_written : (start one two three : Written) (bytes : List ℕ) → one ≡ added start (words (length bytes ∷ [])) → two ≡ added one bytes → three ≡ added two (zeros (padding (length bytes))) → three ≡ added start (opaque_bytes bytes)
unfolding opaque_bytes
opaque_written start one two three bytes e1 e2 e3 =
    let n : ℕ = padding (length bytes) in
    let front : List ℕ = words (length bytes ∷ []) in
    both_written start two three (front ++ bytes) (replicate n 0) (both_written start one two front bytes e1 e2) (e3 ∙ ap (added two) (zeros_are n (padding_short (length bytes))))

-- words of two lists
pub words-append : (xs ys : List ℕ) → words (xs ++ ys) ≡ words xs ++ words ys
unfolding words
words-append xs ys = flat_map-append (big_bytes 4) xs ys
