-- The words that name volumes.
use Rattle.std.proofs.Common.{arith, ◌≡◌, ◌<◌, ℕ, zero, suc, List, [], ◌∷◌, length, map, Some, slice_get, refl}
use Rattle.run_lines.specs.Naming.{Named, named_of}
use Rattle.run_lines.specs.declared.naming.Named.{Named as NamedWord}

same_inside : {A : Type 0} (x y : A) → Some x ≡ Some y → x ≡ y
same_inside x y is = cc

-- what stands at this place among the volumes that are asked for has the word that stands there
pub named_at : (asked : List NamedWord) (n : ℕ) (word : List ℕ) → slice_get (map (λ (named : NamedWord). named.word.now) asked) n ≡ Some word
    → (named : Named) × (slice_get (map named_of asked) n ≡ Some named) × (named.word ≡ word)
named_at [] n word is = cc
named_at (named ∷ asked) zero word is = (named_of named, refl, same_inside _ _ is)
named_at (named ∷ asked) (suc n) word is = named_at asked n word is

-- a place where something stands is within the list
pub place_within : {A : Type 0} (xs : List A) (n : ℕ) (x : A) → slice_get xs n ≡ Some x → n < length xs
place_within [] n x is = cc
place_within (y ∷ ys) zero x is = omega arith
place_within (y ∷ ys) (suc n) x is = let rest = place_within ys n x is in omega (arith, rest)
