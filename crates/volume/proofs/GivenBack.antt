-- Blocks that are given back to a set.
use Rattle.std.proofs.Common.{◌≡◌, ◌≢◌, ℕ, ◌+◌, ◌<◌, ◌≤◌, Bool, true, false, List, [], ◌∷◌, ◌++◌, take, length, set, get_or, refl, sym, ap, ◌∙◌, arith, ⊎_elim, length-set, get_or-set_other}
use Rattle.std.proofs.lemmas.Bool.{cases_eq}
use Rattle.std.proofs.lemmas.List.{set_past, take_more}
use Rattle.index_sets.specs.Free.{is_free}
use Rattle.plan_file.specs.Set.{given}

given_more : (xs : List ℕ) (x : ℕ) (blocks : List Bool) → given (xs ++ x ∷ []) blocks ≡ set (given xs blocks) x true
given_more [] x blocks = refl
given_more (y ∷ ys) x blocks = given_more ys x (set blocks y true)

pub length-given : (xs : List ℕ) (blocks : List Bool) → length (given xs blocks) ≡ length blocks
length-given [] blocks = refl
length-given (y ∷ ys) blocks = length-given ys (set blocks y true) ∙ length-set blocks y true

-- one block more
pub given_next : (freed : List ℕ) (i x : ℕ) (blocks : List Bool) → i < length freed → x ≡ get_or freed i 0 → given (take (i + 1) freed) blocks ≡ set (given (take i freed) blocks) x true
given_next freed i x blocks lt is = ap (λ l. given l blocks) (take_more freed i 0 lt ∙ ap (λ y. take i freed ++ y ∷ []) (sym is)) ∙ given_more (take i freed) x blocks

-- one that the set has no room for
pub given_past : (freed : List ℕ) (i x : ℕ) (blocks : List Bool) → i < length freed → x ≡ get_or freed i 0 → length blocks ≤ x → given (take (i + 1) freed) blocks ≡ given (take i freed) blocks
given_past freed i x blocks lt is past =
    let long = length-given (take i freed) blocks in
    given_next freed i x blocks lt is ∙ set_past (given (take i freed) blocks) x true (omega (arith, long, past))

pub set_within : (blocks : List Bool) (x n : ℕ) → x < n → ((b : ℕ) → is_free blocks b ≡ true → b < n) → (b : ℕ) → is_free (set blocks x true) b ≡ true → b < n
set_within blocks x n lt old b free = ⊎_elim
    (λ (e : b ≡ x). omega (arith, e, lt))
    (λ (ne : b ≢ x). old b (sym (get_or-set_other blocks x b true false ne) ∙ free))
    (cases_eq b x)
