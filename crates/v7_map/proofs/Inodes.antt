-- A write to the sector of one inode that leaves what a frame has of it: the frame stays, and the view but for that node.
use Rattle.std.proofs.Common.{◌≡◌, ◌≢◌, ℕ, ◌+◌, ◌-◌, ◌*◌, ◌<◌, ◌≤◌, true, cond, ◌&&◌, List, [], length, set, refl, sym, ap, subst, ◌∙◌, arith, ⊎_elim, eqb, leb, length-set, get_or-set_other, get_or-set_same, Some, None}
use Rattle.std.proofs.lemmas.Bool.{cases_eq, leb-true}
use Rattle.std.specs.FinMap.{empty}
use Rattle.v7_layout.specs.declared.inode.Inode.{Inode}
use Rattle.v7_layout.specs.Numbers.{part, field}
use Rattle.v7_layout.specs.Records.{inode_of}
use Rattle.files_model.specs.Files.{clipped}
use Rattle.files_model.proofs.Maps.{tabulated_same}
use Rattle.stable.specs.Store.{Image}
use Rattle.v7_map.specs.Image.{sector_at, isize_of, inode_at, is_inode, inode_sector, inode_offset}
use Rattle.v7_map.specs.Frame.{Place, Body, head_of, is_directory, frame}
use Rattle.v7_map.specs.Tree.{tree, is_named}
use Rattle.files_model.specs.Step.{with_node}
use Rattle.v7_map.specs.Weak.{IsWeak}
use Rattle.v7_map.specs.Plan.{PutsInode}
use Rattle.v7_map.specs.View.{view, node_of, body_of, body_at, held}
use Rattle.v7_map.proofs.Frames.{KeepsFrame, same_frame, cond_same, and_left}
use Rattle.v7_map.proofs.Data.{inode_below, view_but_one}

module _ (old : Image) (i : ℕ) (bytes : List ℕ) (n : Inode) (weak : IsWeak (frame old)) (puts : PutsInode old i bytes n) where
  new : Image
  new = set old (inode_sector i) bytes

  place : (2 ≤ inode_sector i) × (inode_sector i < isize_of old) × (isize_of old < length old) × (3 ≤ isize_of old)
  unfolding frame
  place = let low = weak.sizes.low in let above = weak.sizes.above in let within = weak.sizes.within in
      (omega arith, inode_below (isize_of old) i puts.inside, omega arith, low)

  same_other : (s : ℕ) → s ≢ inode_sector i → sector_at new s ≡ sector_at old s
  unfolding new
  same_other s ne = get_or-set_other old (inode_sector i) s bytes [] ne

  first : sector_at new 1 ≡ sector_at old 1
  first = let p = place in let low : 2 ≤ inode_sector i = p.0 in same_other 1 (λ e. omega arith)

  same_is_inode : (j : ℕ) → is_inode new j ≡ is_inode old j
  same_is_inode j z = leb 1 j && leb j ((field (first z) 0 2 - 2) * 8)

  pub inode_other : (j : ℕ) → j ≢ i → inode_at (set old (inode_sector i) bytes) j ≡ inode_at old j
  unfolding inode_at new
  inode_other j ne = let p = place in let in' : inode_sector i < length old = omega arith in
      (λ z. cond (same_is_inode j z) (inode_of (part (sector_at new (inode_sector j)) (inode_offset j) 64)) (inode_of []))
      ∙ cond_same (is_inode old j) _ _ (inode_of []) (λ yes. ⊎_elim
      (λ (e : inode_sector j ≡ inode_sector i).
      let low : 1 ≤ j = leb-true 1 j (and_left (leb 1 j) _ yes) in
      subst (λ s. inode_of (part (sector_at new s) (inode_offset j) 64) ≡ inode_of (part (sector_at old s) (inode_offset j) 64)) (sym e)
      (ap (λ b. inode_of (part b (inode_offset j) 64)) (get_or-set_same old (inode_sector i) bytes [] in') ∙ puts.others j low ne e))
      (λ (ns : inode_sector j ≢ inode_sector i). ap (λ b. inode_of (part b (inode_offset j) 64)) (same_other (inode_sector j) ns))
      (cases_eq (inode_sector j) (inode_sector i)))

  pub inode_here : inode_at (set old (inode_sector i) bytes) i ≡ n
  unfolding inode_at new
  inode_here = let p = place in let in' : inode_sector i < length old = omega arith in
      ap (λ b. cond b (inode_of (part (sector_at new (inode_sector i)) (inode_offset i) 64)) (inode_of [])) (same_is_inode i ∙ puts.inside)
      ∙ ap (λ b. inode_of (part b (inode_offset i) 64)) (get_or-set_same old (inode_sector i) bytes [] in') ∙ puts.here

  -- data blocks stay
  same_data : (j : ℕ) (p : Place) → (frame old).address j p ≢ 0 → sector_at new ((frame old).address j p) ≡ sector_at old ((frame old).address j p)
  unfolding frame
  same_data j p nonzero = let at = place in let above : inode_sector i < isize_of old = at.1 in let d = weak.data_block j p nonzero in let low : isize_of old ≤ (frame old).address j p = d.0 in
      same_other ((frame old).address j p) (λ e. omega arith)

  module _ (same_head : head_of n ≡ head_of (inode_at old i)) where
    heads : (j : ℕ) → head_of (inode_at new j) ≡ head_of (inode_at old j)
    unfolding new
    heads j = ⊎_elim (λ (e : j ≡ i). subst (λ q. head_of (inode_at new q) ≡ head_of (inode_at old q)) (sym e) (ap head_of inode_here ∙ same_head)) (λ (ne : j ≢ i). ap head_of (inode_other j ne)) (cases_eq j i)

    keeps : KeepsFrame old new
    unfolding new
    keeps = record {
      length = length-set old (inode_sector i) bytes;
      first = first;
      heads = heads;
      maps = λ j p _ nonzero. same_data j p nonzero;
      directories = λ j k dir lt. same_data j (Body k) (weak.needed j k dir lt);
    }

    pub inode-frame : frame (set old (inode_sector i) bytes) ≡ frame old
    unfolding new
    inode-frame = same_frame old new keeps

    same_held : (j q size : ℕ) → held new size q ((frame old).address j (Body q)) ≡ held old size q ((frame old).address j (Body q))
    same_held j q size = ⊎_elim
        (λ (z : (frame old).address j (Body q) ≡ 0). subst (λ b. held new size q b ≡ held old size q b) (sym z) refl)
        (λ (nz : (frame old).address j (Body q) ≢ 0). ap (λ s. cond (eqb ((frame old).address j (Body q)) 0) None (Some (clipped size q s))) (same_data j (Body q) nz))
        (cases_eq ((frame old).address j (Body q)) 0)

    same_body : (j : ℕ) → body_at new (frame old) j ≡ body_at old (frame old) j
    unfolding body_of
    same_body j = ap (cond (is_directory ((frame old).head j)) empty) (tabulated_same _ _ _ (λ q lt. same_held j q _))

    module _ (same_generation : n.generation ≡ (inode_at old i).generation) (named : is_named (tree (frame old)) i ≡ true) (within : i < (tree (frame old)).inodes + 1) where
      pub inode-view : view (set old (inode_sector i) bytes) ≡ with_node (view old) i (node_of (tree (frame old)) i n (body_at old (frame old) i))
      unfolding new
      inode-view =
          view_but_one i old new (record {
            first = first;
            tree = ap tree inode-frame;
            inodes = inode_other;
            bodies = λ j ne. ap (λ f. body_at new f j) inode-frame ∙ same_body j;
            generation = ap (λ (m : Inode). m.generation) inode_here ∙ same_generation;
          }) named within
          ∙ (λ z. with_node (view old) i (node_of (tree (frame old)) i (inode_here z) (body_at new (inode-frame z) i)))
          ∙ ap (λ b. with_node (view old) i (node_of (tree (frame old)) i n b)) (same_body i)
