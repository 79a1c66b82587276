-- The name in a slot that was written.
use Rattle.std.proofs.Common.{◌≡◌, ◌≢◌, ℕ, suc, ◌+◌, cond, not, ◌==◌, List, [], ◌∷◌, ◌++◌, drop, replicate, get_or, length, All, refl, ap, ◌∙◌, arith, Some, None}
use Rattle.std.proofs.lemmas.Bool.{ne_eqb}
use Rattle.std.proofs.lemmas.List.{get_or-drop}
use Rattle.std.proofs.lemmas.List.Sums.{take_while-cons}
use Rattle.std.specs.List.{take_while}
use Rattle.v7_strokes.specs.Over.{slot_from}
use Rattle.v7_strokes.proofs.NewBody.{zeros_at}

-- a name without zero bytes, in front of a zero byte or of nothing, is what stands up to the first zero
name_before : (name rest : List ℕ) → All (λ b. b ≢ 0) name → get_or rest 0 0 ≡ 0 → take_while (λ b. not (b == 0)) (name ++ rest) ≡ name
name_before [] [] whole ends = refl
name_before [] (x ∷ xs) whole ends = take_while-cons (λ b. not (b == 0)) x xs ∙ (λ z. cond (not (ends z == 0)) (x ∷ take_while (λ b. not (b == 0)) xs) [])
name_before (x ∷ xs) rest whole ends =
    take_while-cons (λ b. not (b == 0)) x (xs ++ rest)
    ∙ ap (λ b. cond (not b) (x ∷ take_while (λ b. not (b == 0)) (xs ++ rest)) []) (ne_eqb x 0 (whole 0 0 (omega arith)))
    ∙ ap (λ l. x ∷ l) (name_before xs rest (λ k d lt. whole (suc k) d (omega arith)) ends)

-- the slot with a number and a name that zeros follow
pub slot_from-named : (ino n : ℕ) (name : List ℕ) → ino ≢ 0 → All (λ b. b ≢ 0) name → slot_from record { ino = ino; name = name ++ drop (length name) (replicate n 0) } ≡ Some (ino, name)
slot_from-named ino n name some whole =
    ap (λ b. cond b None (Some (ino, take_while (λ b. not (b == 0)) (name ++ drop (length name) (replicate n 0))))) (ne_eqb ino 0 some)
    ∙ ap (λ l. Some (ino, l)) (name_before name (drop (length name) (replicate n 0)) whole (get_or-drop (length name) (replicate n 0) 0 0 ∙ zeros_at n (length name + 0)))
