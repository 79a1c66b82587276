-- The mode of an inode, by its first two bytes.
use Rattle.std.proofs.Common.{◌≡◌, ℕ, suc, ◌+◌, ◌*◌, ◌≤◌, List, ◌∷◌, length, take, drop, get_or, sym, ap, ◌∙◌, arith, drop-cons}
use Rattle.v7_layout.specs.Numbers.{little, part, field}
use Rattle.v7_layout.specs.Records.{inode_of}

pub mode-read : (bytes : List ℕ) (at offset low high : ℕ) → at + 2 ≤ length bytes → at ≡ offset → low ≡ get_or bytes at 0 → high ≡ get_or bytes (at + 1) 0
    → low + 256 * high ≡ (inode_of (part bytes offset 64)).mode
unfolding inode_of field part
mode-read bytes at offset low high fits same is-low is-high =
    let next : suc at ≡ at + 1 = omega arith in
    let cut : drop at bytes ≡ get_or bytes at 0 ∷ get_or bytes (at + 1) 0 ∷ drop (suc (suc at)) bytes =
    drop-cons bytes at 0 (omega arith) ∙ ap (λ l. get_or bytes at 0 ∷ l) (drop-cons bytes (suc at) 0 (omega arith) ∙ ap (λ k. get_or bytes k 0 ∷ drop (suc (suc at)) bytes) next) in
    let number : little (take 2 (drop 0 (take 64 (drop at bytes)))) ≡ get_or bytes at 0 + 256 * (get_or bytes (at + 1) 0 + 256 * 0) = ap (λ l. little (take 2 (drop 0 (take 64 l)))) cut in
    let sum : low + 256 * high ≡ get_or bytes at 0 + 256 * (get_or bytes (at + 1) 0 + 256 * 0) = omega arith in
    sum ∙ sym number ∙ ap (λ k. little (take 2 (drop 0 (take 64 (drop k bytes))))) same
