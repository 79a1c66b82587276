-- Bytes that no name has.
use Rattle.std.proofs.Common.{◌≡◌, ℕ, Bool, true, false, ◌||◌, ◌==◌, List, [], ◌∷◌, length, refl, ap, ◌∙◌}
use Rattle.std.specs.List.{list_any}
use Rattle.files_model.specs.Names.{is_bad}

any-either : (p q : ℕ → Bool) (xs : List ℕ) → (list_any p xs || list_any q xs) ≡ list_any (λ b. p b || q b) xs
any-either p q [] = refl
any-either p q (x ∷ xs) = swapped (p x) (list_any p xs) (q x) (list_any q xs) ∙ ap (λ r. (p x || q x) || r) (any-either p q xs)
  where
    swapped : (a b c d : Bool) → ((a || b) || (c || d)) ≡ ((a || c) || (b || d))
    swapped true b c d = refl
    swapped false true true d = refl
    swapped false true false d = refl
    swapped false false true d = refl
    swapped false false false d = refl

-- it is empty, or has one byte or the other
pub bad_is : (name : List ℕ) → ((length name == 0) || (list_any (λ b. b == 0) name || list_any (λ b. b == 47) name)) ≡ is_bad name
bad_is name = ap (λ r. (length name == 0) || r) (any-either (λ b. b == 0) (λ b. b == 47) name)
