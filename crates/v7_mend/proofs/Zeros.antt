-- What is zero from a place on stays when it is cleared from there on.
use Rattle.std.proofs.Common.{◌≡◌, ℕ, zero, suc, ◌+◌, ◌-◌, ◌*◌, ◌/◌, ◌%◌, ◌<◌, ◌≤◌, List, [], ◌∷◌, ◌++◌, length, get_or, take, drop, replicate, refl, sym, ap, subst, ◌∙◌, arith}
use Rattle.std.proofs.lemmas.List.{get_or-take, get_or-drop}
use Rattle.v7_layout.specs.Numbers.{little, part, field}
use Rattle.files_model.specs.Files.{clipped}
use Rattle.v7_mend.specs.Settled.{direct_below, entry, trimmed}

filled : (n : ℕ) (xs : List ℕ) → ((k : ℕ) → k < length xs → n ≤ k → get_or xs k 0 ≡ 0) → take n xs ++ replicate (length xs - n) 0 ≡ xs
filled zero [] h = refl
filled (suc n) [] h = let e : 0 - suc n ≡ 0 = omega arith in ap (λ m. replicate m 0) e
filled zero (x ∷ xs) h =
    let all : suc (length xs) - 0 ≡ suc (length xs - 0) = omega arith in
    ap (λ m. replicate m 0) all ∙ (λ z. sym (h 0 (omega arith) (omega arith)) z ∷ filled zero xs (λ k lt le. h (suc k) (omega (arith, lt)) (omega arith)) z)
filled (suc n) (x ∷ xs) h =
    let e : suc (length xs) - suc n ≡ length xs - n = omega arith in
    ap (λ m. x ∷ (take n xs ++ replicate m 0)) e ∙ ap (λ ys. x ∷ ys) (filled n xs (λ k lt le. h (suc k) (omega (arith, lt)) (omega (arith, le))))

-- direct addresses
pub direct_stays : (n : ℕ) (direct : List ℕ) → length direct ≡ 10 → ((k : ℕ) → k < 10 → n ≤ k → get_or direct k 0 ≡ 0) → direct_below n direct ≡ direct
unfolding direct_below
direct_stays n direct ten none = ap (λ m. take n direct ++ replicate (m - n) 0) (sym ten) ∙ filled n direct (λ k lt le. none k (omega (arith, lt, ten)) le)

little_zero : (xs : List ℕ) (k : ℕ) → little xs ≡ 0 → get_or xs k 0 ≡ 0
little_zero [] zero e = refl
little_zero [] (suc k) e = refl
little_zero (b ∷ xs) zero e = omega (arith, e)
little_zero (b ∷ xs) (suc k) e = little_zero xs k (omega (arith, e))

field_zero : (bytes : List ℕ) (at k : ℕ) → k < 4 → field bytes at 4 ≡ 0 → get_or bytes (at + k) 0 ≡ 0
unfolding field part
field_zero bytes at k lt e = sym (get_or-drop at bytes k 0) ∙ sym (get_or-take 4 (drop at bytes) k 0 lt) ∙ little_zero (take 4 (drop at bytes)) k e

-- a block of addresses
pub block_stays : (block : List ℕ) (sectors : ℕ) → length block ≡ 512 → ((k : ℕ) → 10 ≤ k → k < 138 → sectors ≤ k → entry block k ≡ 0) → trimmed block sectors ≡ block
unfolding trimmed clipped entry
block_stays block sectors long none =
    let size : 4 * (sectors - 10) - 512 * 0 ≡ 4 * (sectors - 10) = omega arith in
    (λ z. take (size z) block ++ replicate (long' z - size z) 0) ∙ filled (4 * (sectors - 10)) block (λ b lt le.
    let at : 4 * (b / 4 + 10 - 10) + b % 4 ≡ b = omega arith in
    subst (λ q. get_or block q 0 ≡ 0) at (field_zero block (4 * (b / 4 + 10 - 10)) (b % 4) (omega arith) (none (b / 4 + 10) (omega arith) (omega (arith, lt, long)) (omega (arith, le)))))
  where
    long' : 512 ≡ length block
    long' = sym long
