-- Bytes written over bytes, and an inode written into its sector.
use Rattle.std.proofs.Common.{◌≡◌, ◌≢◌, ◌⊎◌, ℕ, ◌+◌, ◌-◌, ◌*◌, ◌<◌, ◌≤◌, true, leb, List, length, refl, sym, ap, ◌∙◌, arith, inl, inr, ⊎_elim, take, drop, ◌++◌, append_assoc, drop_at, take_at, take-append-drop, length-take, length-drop, length-append}
use Rattle.std.proofs.lemmas.Bool.{cases_lt, leb-true}
use Rattle.std.proofs.lemmas.List.{drop-append-le, take-append-le}
use Rattle.v7_layout.specs.declared.inode.Inode.{Inode}
use Rattle.v7_layout.specs.Numbers.{part}
use Rattle.v7_layout.specs.Records.{inode_of}
use Rattle.files_model.specs.Step.{spliced}
use Rattle.files_model.proofs.Clips.{drop_past}
use Rattle.stable.specs.Store.{Image}
use Rattle.v7_map.specs.Image.{sector_at, is_inode, inode_sector, inode_offset}
use Rattle.v7_map.specs.Plan.{PutsInode}
use Rattle.v7_map.proofs.Frames.{and_left}

pub part_here : (p : ℕ) (b old : List ℕ) → p ≤ length old → part (take p old ++ b ++ drop (p + length b) old) p (length b) ≡ b
unfolding part
part_here p b old in' =
    let n : length (take p old) ≡ p = omega (arith, length-take p old) in
    ap (take (length b)) (ap (drop p) (append_assoc (take p old) b (drop (p + length b) old)) ∙ drop_at (take p old) (b ++ drop (p + length b) old) p n)
    ∙ take_at b (drop (p + length b) old) (length b) refl

part_front : (p q n : ℕ) (old rest : List ℕ) → p ≤ length old → q + n ≤ p → part (take p old ++ rest) q n ≡ part old q n
unfolding part
part_front p q n old rest in' far =
    let len : length (take p old) ≡ p = omega (arith, length-take p old) in
    let dl : n ≤ length (drop q (take p old)) = omega (arith, length-drop q (take p old)) in
    let d : drop q (take p old ++ rest) ≡ drop q (take p old) ++ rest = drop-append-le q (take p old) rest (omega arith) in
    let d' : drop q (take p old ++ drop p old) ≡ drop q (take p old) ++ drop p old = drop-append-le q (take p old) (drop p old) (omega arith) in
    ap (take n) d ∙ take-append-le n (drop q (take p old)) rest dl
    ∙ sym (ap (λ l. take n (drop q l)) (sym (take-append-drop p old)) ∙ ap (take n) d' ∙ take-append-le n (drop q (take p old)) (drop p old) dl)

part_back : (p q n : ℕ) (b old : List ℕ) → p + length b ≤ length old → p + length b ≤ q → part (take p old ++ b ++ drop (p + length b) old) q n ≡ part old q n
unfolding part
part_back p q n b old in' far = ap (take n) (drop_past p q b old (omega arith) far)

pub part_elsewhere : (p q n : ℕ) (b old : List ℕ) → p + length b ≤ length old → (q + n ≤ p) ⊎ (p + length b ≤ q) → part (take p old ++ b ++ drop (p + length b) old) q n ≡ part old q n
part_elsewhere p q n b old in' (inl h) = ap (λ l. part l q n) (append_assoc (take p old) b (drop (p + length b) old)) ∙ part_front p q n old (b ++ drop (p + length b) old) (omega arith) h
part_elsewhere p q n b old in' (inr h) = part_back p q n b old in' h

-- the 64 bytes of an inode put into its sector
pub PutsInode-bytes : (old : Image) (i : ℕ) (b : List ℕ) (n : Inode) → is_inode old i ≡ true → length (sector_at old (inode_sector i)) ≡ 512 → length b ≡ 64 → inode_of b ≡ n
    → PutsInode old i (take (inode_offset i) (sector_at old (inode_sector i)) ++ b ++ drop (inode_offset i + length b) (sector_at old (inode_sector i))) n
PutsInode-bytes old i b n inside long size is =
    let s : List ℕ = sector_at old (inode_sector i) in
    let low : 1 ≤ i = leb-true 1 i (and_left (leb 1 i) _ inside) in
    record {
      inside = inside;
      long = simp (length-append, length-take, length-drop) (omega arith);
      here = ap inode_of (ap (λ m. part (take (inode_offset i) s ++ b ++ drop (inode_offset i + length b) s) (inode_offset i) m) (sym size) ∙ part_here (inode_offset i) b s (omega arith)) ∙ is;
      others = λ j low' ne same. ap inode_of (part_elsewhere (inode_offset i) (inode_offset j) 64 b s (omega arith)
          (⊎_elim (λ (lt : inode_offset j < inode_offset i). inl (omega arith)) (λ (ge : inode_offset i ≤ inode_offset j). let ne' : inode_offset i ≢ inode_offset j = λ e. ne (omega arith) in inr (omega arith)) (cases_lt (inode_offset j) (inode_offset i))));
    }

-- a sector stays one sector long
pub length-spliced : (offset : ℕ) (bytes : List ℕ) (k : ℕ) (old : List ℕ) → length old ≡ 512 → length (spliced offset bytes k old) ≡ 512
unfolding spliced
length-spliced offset bytes k old long =
    let before : ℕ = offset - 512 * k in
    let here : List ℕ = take (512 - before) (drop (512 * k - offset) bytes) in
    let short : length here ≤ 512 - before = simp (length-take) (omega arith) in
    simp (length-append, length-take before old, length-drop (before + length here) old) (omega arith)
