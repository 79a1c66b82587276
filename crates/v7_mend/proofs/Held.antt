-- Which blocks stand after a repair: those that were needed before it, each where it stood.
use Rattle.std.proofs.Common.{◌≡◌, ◌≢◌, ℕ, ◌+◌, ◌<◌, ◌≤◌, true, not, ◌==◌, sym, ap, subst, ◌∙◌, arith, ⊎_elim, eq-eqb}
use Rattle.std.proofs.lemmas.Bool.{cases_lt}
use Rattle.std.specs.List.{range_with_len}
use Rattle.files_model.specs.Files.{Node, sectors_of}
use Rattle.stable.specs.Store.{Image}
use Rattle.v7_map.specs.Image.{inode_at}
use Rattle.v7_map.specs.Frame.{Place, Body, Single, Double, frame}
use Rattle.v7_map.specs.Tree.{tree, is_named}
use Rattle.v7_map.specs.View.{node_at}
use Rattle.v7_map.specs.Weak.{IsWeak}
use Rattle.v7_map.proofs.AnyFrame.{frame-IsFrame}
use Rattle.v7_map.proofs.Members.{any_is, in_range_of}
use Rattle.v7_map.proofs.Nodes.{StandsAs}
use Rattle.v7_mend.specs.Repairs.{Repairs, IsNeeded}
use Rattle.v7_mend.proofs.Needed.{clash, in_volume, named_here, size_in_head}

module _ (old new : Image) (weak : IsWeak (frame old)) (r : Repairs old new) where
  -- an inode that is used afterwards had a name, and its size
  used_before : (i : ℕ) → ((frame new).head i).is_used ≡ true → StandsAs old i (node_at new i)
  used_before i used = named_here old new weak r i (r.strong.named i used) (in_volume new i used)

  below_size : (i k : ℕ) → ((frame new).head i).is_used ≡ true → (frame new).address i (Body k) ≢ 0 → k < sectors_of (inode_at old i).size
  below_size i k used nz = ⊎_elim
      (λ (below : k < sectors_of (inode_at old i).size). below)
      (λ (past : sectors_of (inode_at old i).size ≤ k).
      let size : (inode_at old i).size ≡ ((frame new).head i).size = ap (λ (n : Node). n.size) (used_before i used).is ∙ sym (size_in_head new i) in
      absurd (nz (r.strong.none_past i k (subst (λ n. sectors_of n ≤ k) size past))))
      (cases_lt k (sectors_of (inode_at old i).size))

  -- what stands afterwards was needed
  pub stands_needed : (i : ℕ) (p : Place) → (frame new).address i p ≢ 0 → IsNeeded old i p
  stands_needed i (Body k) nz = let used = ((frame-IsFrame new).places i (Body k) nz).0 in ((used_before i used).named, below_size i k used nz)
  stands_needed i Single nz =
      let used = ((frame-IsFrame new).places i Single nz).0 in
      let a = any_is (λ k. not ((frame new).address i (Body k) == 0)) (range_with_len 10 128) (r.strong.single_needed i nz) in
      let some : (frame new).address i (Body a.0) ≢ 0 = λ z. clash ((frame new).address i (Body a.0) == 0) (eq-eqb _ 0 z) a.2 in
      ((used_before i used).named, (a.0, (in_range_of a.0 10 128 a.1).0, below_size i a.0 used some, λ z. some (r.places i (Body a.0) some ∙ z)))
  stands_needed i Double nz = absurd (nz (r.strong.weak.no_double i))

  -- and what was needed stands where it stood
  pub needed_stands : (i : ℕ) (p : Place) → IsNeeded old i p → (frame new).address i p ≡ (frame old).address i p
  needed_stands i (Body k) (named, below) = r.below i k named below
  needed_stands i Single (named, (k, ge, below, some)) =
      let stands : (frame new).address i (Body k) ≢ 0 = λ z. some (sym (r.below i k named below) ∙ z) in
      r.places i Single (λ z. stands ((frame-IsFrame new).through i k ge z))
  needed_stands i Double none = absurd none
