-- The slot of a good name in a directory.
use Rattle.std.proofs.Common.{◌≡◌, ◌≢◌, ◌⊎◌, ℕ, ◌<◌, ◌≤◌, true, false, ◌||◌, List, [], ◌∷◌, length, get_or, Some, None, refl, sym, ap, subst, ◌∙◌, arith, inl, inr, ⊎_elim}
use Rattle.std.proofs.lemmas.Bool.{cases_eq}
use Rattle.std.proofs.lemmas.List.Quantifiers.{position-Some}
use Rattle.std.proofs.lemmas.Slice.Eq.{bytes_eq-Decides}
use Rattle.std.specs.List.{position}
use Rattle.std.specs.Str.{bytes_eq}
use Rattle.files_model.specs.Files.{Node, Slot}
use Rattle.files_model.specs.Names.{is_bad, is_dots, has_name, number_of, number_at}
use Rattle.stable.specs.Store.{Image}
use Rattle.v7_map.specs.Frame.{frame}
use Rattle.v7_map.specs.Tree.{tree}
use Rattle.v7_map.specs.Weak.{IsWeak, slot_at, HasDots, parent}
use Rattle.v7_strokes.proofs.Directories.{StandsDir}
use Rattle.v7_strokes.proofs.Names.{some_slot}

-- the first slot that has a name has it, and this number
pub named-slot : (slots : List Slot) (name : List ℕ) (k i : ℕ) → position (has_name name) slots ≡ Some k → number_at slots k ≡ i → (k < length slots) × (get_or slots k None ≡ Some (i, name))
named-slot slots name k i at number = let x = position-Some (has_name name) slots k None at in (x.0, of (get_or slots k None) x.1 number)
  where
    same_name : (other : List ℕ) → bytes_eq other name ≡ true → other ≡ name
    same_name other h = (bytes_eq-Decides other name).0 h

    of : (s : Slot) → has_name name s ≡ true → number_of s ≡ i → s ≡ Some (i, name)
    of None h e = absurd (cc)
    of (Some (j, other)) h e = λ z. Some (e z, same_name other h z)

-- it is past the first two, which are `.` and `..`
pub named-past : (image : Image) (p : ℕ) (d : Node) (name : List ℕ) (k i : ℕ) → IsWeak (frame image) → StandsDir image p d → get_or d.slots k None ≡ Some (i, name) → (is_bad name || is_dots name) ≡ false → 2 ≤ k
named-past image p d name k i weak s slot good = ⊎_elim
    (λ (zero' : k ≡ 0). absurd (no_dots (46 ∷ []) (some_slot i p name (46 ∷ []) (sym at ∙ ap (slot_at (tree (frame image)) p) zero' ∙ dots.self)).1 (inl refl)))
    (λ (nz : k ≢ 0). ⊎_elim
    (λ (one' : k ≡ 1). absurd (no_dots (46 ∷ 46 ∷ []) (some_slot i (parent (tree (frame image)) p) name (46 ∷ 46 ∷ []) (sym at ∙ ap (slot_at (tree (frame image)) p) one' ∙ dots.up)).1 (inr refl)))
    (λ (no' : k ≢ 1). omega arith)
    (cases_eq k 1))
    (cases_eq k 0)
  where
    at : slot_at (tree (frame image)) p k ≡ Some (i, name)
    at = ap (λ x. get_or x k None) s.slots ∙ slot

    dots : HasDots (tree (frame image)) p
    dots = weak.names.dots p s.walked

    no_dots : (other : List ℕ) → name ≡ other → (other ≡ 46 ∷ []) ⊎ (other ≡ 46 ∷ 46 ∷ []) → ⊥
    no_dots other e (inl one') = let t : (is_bad (46 ∷ []) || is_dots (46 ∷ [])) ≡ false = subst (λ z. (is_bad z || is_dots z) ≡ false) (e ∙ one') good in cc
    no_dots other e (inr two) = let t : (is_bad (46 ∷ 46 ∷ []) || is_dots (46 ∷ 46 ∷ [])) ≡ false = subst (λ z. (is_bad z || is_dots z) ≡ false) (e ∙ two) good in cc
