-- Reading group numbers one after the other, as a loop does.
use Rattle.std.proofs.Common.{◌≡◌, ℕ, suc, ◌-◌, ◌+◌, ◌≤◌, ◌<◌, List, [], ◌∷◌, ◌++◌, Option, Some, None, refl, sym, ap, ◌∙◌, append_assoc, arith}
use Rattle.std.proofs.lemmas.List.{append-nil}
use Rattle.xdr_rpc.specs.Words.{◌>>=◌, word}
use Rattle.xdr_rpc.specs.Calls.{id_of, ids}

-- what was read before, and what is still read
abbrev pub with_front : List ℕ → Option (List ℕ) → Option (List ℕ)
with_front front read = read >>= λ others. Some (front ++ others)

regroup : (front : List ℕ) (n : ℕ) (read : Option (List ℕ)) → with_front front (read >>= λ others. Some (n ∷ others)) ≡ with_front (front ++ n ∷ []) read
regroup front n (Some others) = ap (λ (ns : List ℕ). Some ns) (simp append_assoc)
regroup front n None = refl

pub goes_on : (front : List ℕ) (count i : ℕ) (bytes : List ℕ) (n : ℕ) (after : List ℕ) (total : Option (List ℕ)) → i < count → word bytes ≡ Some (n, after)
    → with_front front (ids (count - i) bytes) ≡ total → with_front (front ++ id_of n ∷ []) (ids (count - (i + 1)) after) ≡ total
unfolding ids
goes_on front count i bytes n after total lt h so_far =
    let k : count - i ≡ suc (count - (i + 1)) = omega arith in
    let one : with_front front (ids (count - i) bytes) ≡ with_front (front ++ id_of n ∷ []) (ids (count - (i + 1)) after) = rw (k, h) (regroup front (id_of n) (ids (count - (i + 1)) after)) in
    sym one ∙ so_far

pub ends : (front : List ℕ) (count i : ℕ) (bytes : List ℕ) (total : Option (List ℕ)) → i < count → word bytes ≡ None → with_front front (ids (count - i) bytes) ≡ total → total ≡ None
unfolding ids
ends front count i bytes total lt h so_far =
    let k : count - i ≡ suc (count - (i + 1)) = omega arith in
    let one : with_front front (ids (count - i) bytes) ≡ None = rw (k, h) refl in
    sym so_far ∙ one

pub is_done : (front : List ℕ) (count i : ℕ) (bytes : List ℕ) (total : Option (List ℕ)) → count ≤ i → with_front front (ids (count - i) bytes) ≡ total → total ≡ Some front
unfolding ids
is_done front count i bytes total le so_far =
    let k : count - i ≡ 0 = omega arith in
    let one : with_front front (ids (count - i) bytes) ≡ Some front = rw k (ap (λ (ns : List ℕ). Some ns) (append-nil front)) in
    sym so_far ∙ one
