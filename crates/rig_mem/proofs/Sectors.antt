-- Lists of one value.
use Rattle.std.proofs.Common.{◌≡◌, ◌<◌, ◌+◌, ◌^◌, ℕ, zero, suc, List, [], ◌∷◌, ◌++◌, length, get_or, replicate, refl, ap, arith, add-one, subst, sym, ◌∙◌}
use Rattle.std.proofs.lemmas.List.{length-replicate}
use Rattle.rig.specs.Devices.{IsSector}

pub replicate_more : {X : Type 0} (n : ℕ) (x : X) → replicate (n + 1) x ≡ replicate n x ++ x ∷ []
replicate_more n x = rw add-one (at n)
  where
    at : (n : ℕ) → replicate (suc n) x ≡ replicate n x ++ x ∷ []
    at zero = refl
    at (suc n) = ap (λ l. x ∷ l) (at n)

below_replicate : (n x k bound : ℕ) → 0 < bound → x < bound → get_or (replicate n x) k 0 < bound
below_replicate zero x k bound pos lt = pos
below_replicate (suc n) x zero bound pos lt = lt
below_replicate (suc n) x (suc k) bound pos lt = below_replicate n x k bound pos lt

get_replicate : {X : Type 0} (n i : ℕ) (x d : X) → i < n → get_or (replicate n x) i d ≡ x
get_replicate zero i x d lt = absurd (omega arith)
get_replicate (suc n) zero x d lt = refl
get_replicate (suc n) (suc i) x d lt = get_replicate n i x d (omega arith)

-- 512 times one byte
pub filled_sector : (byte : ℕ) → byte < 256 → IsSector (replicate 512 byte)
filled_sector byte lt = record { size = length-replicate 512 byte; fits = λ k. below_replicate 512 byte k 256 (omega arith) lt }

-- each of so many such sectors is whole
pub each_filled : (byte : ℕ) → byte < 256 → (l : List (List ℕ)) (n : ℕ) → l ≡ replicate n (replicate 512 byte) → (i : ℕ) → i < length l → IsSector (get_or l i [])
each_filled byte fits l n is i lt =
    let at : get_or l i [] ≡ replicate 512 byte = subst (λ (x : List (List ℕ)). get_or x i [] ≡ replicate 512 byte) (sym is) (get_replicate n i (replicate 512 byte) [] (omega (arith, ap length is, length-replicate {A = List ℕ} n (replicate {A = ℕ} 512 byte)))) in
    subst IsSector (sym at) (filled_sector byte fits)

-- each of so many such words is one
pub each_word : (word : ℕ) → word < 2 ^ 64 → (l : List ℕ) (n : ℕ) → l ≡ replicate n word → (i : ℕ) → get_or l i 0 < 2 ^ 64
each_word word fits l n is i = subst (λ l. get_or l i 0 < 2 ^ 64) (sym is) (below_replicate n word i (2 ^ 64) (omega arith) fits)

-- a list whose items are all the same
pub all_same : {X : Type 0} (xs : List X) (n : ℕ) (x d : X) → length xs ≡ n → ((k : ℕ) → k < n → get_or xs k d ≡ x) → xs ≡ replicate n x
all_same [] zero x d e each = refl
all_same [] (suc n) x d e each = absurd (omega arith)
all_same (y ∷ ys) zero x d e each = absurd (omega arith)
all_same (y ∷ ys) (suc n) x d e each = ap (λ l. y ∷ l) (all_same ys n x d (omega arith) (λ k lt. each (suc k) (omega arith))) ∙ ap (λ z. z ∷ replicate n x) (each 0 (omega arith))
