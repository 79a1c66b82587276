-- An inode is written into its sector.
use Rattle.std.proofs.Common.{◌≡◌, ◌≢◌, ℕ, ◌+◌, ◌<◌, ◌≤◌, List, ◌++◌, length, take, drop, refl, sym, ap, ◌∙◌, arith, ⊎_elim, Bool, true, false, ◌&&◌, eqb, eq-eqb}
use Rattle.std.proofs.lemmas.Bool.Decides.{Decides-eqb}
use Rattle.std.proofs.lemmas.Slice.Eq.{slice_eq-Decides}
use Rattle.std.specs.Cmp.Lexicographic.{pointwise}
use Rattle.std.proofs.lemmas.Bool.{cases_lt}
use Rattle.v7_layout.specs.declared.inode.Inode.{Inode}
use Rattle.v7_layout.specs.Numbers.{part}
use Rattle.v7_layout.specs.Records.{inode_of}
use Rattle.v7_layout.proofs.Parts.{part-splice, part-splice_before, part-splice_after}
use Rattle.v7_map.specs.Image.{inode_offset}
use Rattle.v7_mend.specs.Settles.{inode_here, ReplacesInode, SetsInode}

both : (a b : Bool) → a ≡ true → b ≡ true → (a && b) ≡ true
both true b e f = f
both false b e f = absurd (cc)

clash : (b : Bool) → b ≡ true → false ≡ b → ⊥
clash true t f = absurd (cc)
clash false t f = absurd (cc)

-- inodes that are compared and differ
pub differs : (n m : Inode) → false ≡ (eqb n.mode m.mode && (eqb n.nlink m.nlink && (eqb n.uid m.uid && (eqb n.gid m.gid && (eqb n.size m.size && (pointwise eqb n.direct m.direct
    && (eqb n.single m.single && (eqb n.double m.double && (eqb n.generation m.generation && (eqb n.atime m.atime && (eqb n.mtime m.mtime && eqb n.ctime m.ctime))))))))))) → n ≢ m
differs n m e is = clash _ (both _ _ (one (λ q. q.mode)) (both _ _ (one (λ q. q.nlink)) (both _ _ (one (λ q. q.uid)) (both _ _ (one (λ q. q.gid)) (both _ _ (one (λ q. q.size))
    (both _ _ ((slice_eq-Decides Decides-eqb n.direct m.direct (pointwise eqb n.direct m.direct) refl).1 (ap (λ (q : Inode). q.direct) is))
    (both _ _ (one (λ q. q.single)) (both _ _ (one (λ q. q.double)) (both _ _ (one (λ q. q.generation)) (both _ _ (one (λ q. q.atime)) (both _ _ (one (λ q. q.mtime)) (one (λ q. q.ctime))))))))))))) e
  where
    one : (f : Inode → ℕ) → eqb (f n) (f m) ≡ true
    one f = eq-eqb (f n) (f m) (ap f is)

pub replaces-sets : (sector : List ℕ) (i : ℕ) (n : Inode) (result : List ℕ) → 1 ≤ i → length sector ≡ 512 → ReplacesInode sector i n result → n ≢ inode_here sector i → SetsInode sector i n result
replaces-sets sector i n result low long r ne =
    let size = r.long in
    record {
      here = ap (λ b. inode_of (part b (inode_offset i) 64)) r.is
          ∙ ap inode_of (ap (λ m. part (take (inode_offset i) sector ++ r.bytes ++ drop (inode_offset i + length r.bytes) sector) (inode_offset i) m) (sym r.long) ∙ part-splice sector r.bytes (inode_offset i) (omega arith))
          ∙ r.reads;
      same = λ e. absurd (ne e);
      others = λ j one same ne.
          ap (λ b. inode_of (part b (inode_offset j) 64)) r.is
          ∙ ap inode_of (⊎_elim
          (λ (lt : inode_offset j < inode_offset i). part-splice_before sector r.bytes (inode_offset i) (inode_offset j) 64 (omega arith) (omega arith))
          (λ (ge : inode_offset i ≤ inode_offset j). let ne' : inode_offset i ≢ inode_offset j = λ e. ne (omega arith) in
          part-splice_after sector r.bytes (inode_offset i) (inode_offset j) 64 (omega arith) (omega arith))
          (cases_lt (inode_offset j) (inode_offset i)));
    }
