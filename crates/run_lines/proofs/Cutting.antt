-- A word is cut at its last colon.
use Rattle.std.proofs.Common.{arith, ◌≡◌, ◌≢◌, ℕ, zero, suc, ◌<◌, Bool, true, false, if◌then◌else◌, List, [], ◌∷◌, length, get_or, take, drop, Option, Some, None, refl, ap, ◌∙◌}
use Rattle.std.specs.Prelude.{nat_eq}
use Rattle.std.proofs.lemmas.Bool.{eq-eqb, eqb-true}
use Rattle.run_lines.specs.Naming.{cut_last, cut_with}

abbrev at_colon : List ℕ → Bool → Option (List ℕ × List ℕ)
at_colon bytes t = if t then Some ([], bytes) else None

-- there is none
pub cut_none : (bytes : List ℕ) → ((i : ℕ) → i < length bytes → get_or bytes i 0 ≢ 58) → cut_last bytes ≡ None
cut_none [] none = refl
cut_none (b ∷ bytes) none = ap (cut_with b bytes) (cut_none bytes (λ i lt. none (suc i) (omega (arith, lt)))) ∙ case (nat_eq b 58) refl
  where
    case : (is : Bool) → nat_eq b 58 ≡ is → cut_with b bytes None ≡ None
    case true e = absurd (none 0 (omega arith) (eqb-true b 58 e))
    case false e = ap (at_colon bytes) e

-- it stands at k
pub cut_at : (bytes : List ℕ) (k : ℕ) → k < length bytes → get_or bytes k 0 ≡ 58 → ((i : ℕ) → k < i → i < length bytes → get_or bytes i 0 ≢ 58) → cut_last bytes ≡ Some (take k bytes, drop (suc k) bytes)
cut_at [] k lt is past = absurd (omega (arith, lt))
cut_at (b ∷ bytes) zero lt is past =
    ap (cut_with b bytes) (cut_none bytes (λ i below. past (suc i) (omega arith) (omega (arith, below))))
    ∙ ap (at_colon bytes) (eq-eqb b 58 is)
cut_at (b ∷ bytes) (suc k) lt is past = ap (cut_with b bytes) (cut_at bytes k (omega (arith, lt)) is (λ i above below. past (suc i) (omega (arith, above)) (omega (arith, below))))
