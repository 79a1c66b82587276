-- Puts that are added to a plan.
use Rattle.std.proofs.Common.{◌≡◌, ◌≢◌, ℕ, zero, suc, ◌+◌, ◌-◌, ◌<◌, ◌≤◌, Bool, true, false, cond, not, ◌&&◌, ◌==◌, List, [], ◌∷◌, ◌++◌, length, get_or, set, refl, sym, ap, ◌∙◌, arith}
use Rattle.std.proofs.Math.Seq.{get_or-append_seam}
use Rattle.std.proofs.lemmas.Bool.{ne_eqb}
use Rattle.std.proofs.lemmas.List.{length-append}
use Rattle.std.specs.List.{AllByRecursion}
use Rattle.stable.specs.Puts.{with_put, ends_with}

and_no : (b : Bool) → (b && false) ≡ false
and_no true = refl
and_no false = refl

-- a put whose sector isn't that of the last one comes after it
by-last : (puts : List (ℕ × List ℕ)) (put : ℕ × List ℕ) → ends_with puts put.0 ≡ false → with_put puts put ≡ puts ++ put ∷ []
by-last puts put e = ap (λ b. cond b (set puts (length puts - 1) put) (puts ++ put ∷ [])) e

pub with-after : (puts : List (ℕ × List ℕ)) (last put : ℕ × List ℕ) → last.0 ≢ put.0 → with_put (puts ++ last ∷ []) put ≡ (puts ++ last ∷ []) ++ put ∷ []
with-after puts last put ne = by-last (puts ++ last ∷ []) put
    (ap (λ q. not (length (puts ++ last ∷ []) == 0) && (q.0 == put.0)) is_last ∙ ap (λ b. not (length (puts ++ last ∷ []) == 0) && b) (ne_eqb last.0 put.0 ne) ∙ and_no (not (length (puts ++ last ∷ []) == 0)))
  where
    place : length (puts ++ last ∷ []) - 1 ≡ length puts
    place = let l = length-append puts (last ∷ []) in omega arith

    is_last : get_or (puts ++ last ∷ []) (length (puts ++ last ∷ []) - 1) (0, []) ≡ last
    is_last = ap (λ k. get_or (puts ++ last ∷ []) k (0, [])) place ∙ get_or-append_seam puts last [] (0, [])

-- so does one whose sector is that of none
all-get : (P : ℕ × List ℕ → Type 0) (puts : List (ℕ × List ℕ)) → AllByRecursion P puts → (k : ℕ) → k < length puts → P (get_or puts k (0, []))
all-get P [] h k lt = absurd (omega arith)
all-get P (put ∷ puts) h zero lt = h.0
all-get P (put ∷ puts) h (suc k) lt = all-get P puts h.1 k (omega arith)

pub with-other : (puts : List (ℕ × List ℕ)) (put : ℕ × List ℕ) → AllByRecursion (λ (other : ℕ × List ℕ). other.0 ≢ put.0) puts → with_put puts put ≡ puts ++ put ∷ []
with-other [] put h = refl
with-other (first ∷ rest) put h = by-last (first ∷ rest) put
    (ap (λ b. not (length (first ∷ rest) == 0) && b) (ne_eqb (get_or (first ∷ rest) (length (first ∷ rest) - 1) (0, [])).0 put.0 (all-get (λ (other : ℕ × List ℕ). other.0 ≢ put.0) (first ∷ rest) h (length (first ∷ rest) - 1) (omega arith)))
    ∙ and_no (not (length (first ∷ rest) == 0)))
