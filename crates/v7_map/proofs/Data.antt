-- A write to one data sector of a regular file: the frame stays, and the view but for that sector of that body.
use Rattle.std.proofs.Common.{◌≡◌, ◌≢◌, ℕ, ◌+◌, ◌-◌, ◌*◌, ◌/◌, ◌<◌, ◌≤◌, Bool, true, false, cond, ◌&&◌, List, [], length, set, refl, sym, ap, subst, ◌∙◌, arith, ⊎_elim, eqb, leb, length-set, get_or-set_other, get_or-set_same, Some, None}
use Rattle.std.proofs.lemmas.Bool.{cases_eq, cases_Bool, leb-true, eqb-true}
use Rattle.std.specs.FinMap.{insert, empty}
use Rattle.v7_layout.specs.declared.inode.Inode.{Inode}
use Rattle.v7_layout.specs.Numbers.{part, field}
use Rattle.v7_layout.specs.Records.{inode_of}
use Rattle.files_model.specs.Files.{Sectors, sectors_of, clipped, tabulated}
use Rattle.files_model.proofs.Maps.{tabulated_but_one, tabulated_same}
use Rattle.stable.specs.Store.{Image}
use Rattle.v7_map.specs.Image.{sector_at, isize_of, inode_at, inode_sector, inode_offset, is_read_only}
use Rattle.v7_map.specs.Frame.{Place, Body, IsMap, head_of, is_directory, frame}
use Rattle.v7_map.specs.Tree.{Tree, tree, is_named}
use Rattle.files_model.specs.Step.{with_node}
use Rattle.v7_map.specs.Weak.{IsWeak}
use Rattle.v7_map.specs.View.{view, files_of, node_of, body_of, body_at, held}
use Rattle.v7_map.proofs.Frames.{KeepsFrame, same_frame, cond_same, and_left, and_right}

-- an inode that the volume has stands below the data blocks
pub inode_below : (isize i : ℕ) → (leb 1 i && leb i ((isize - 2) * 8)) ≡ true → 2 + (i - 1) / 8 < isize
inode_below isize i e = let low : 1 ≤ i = leb-true 1 i (and_left (leb 1 i) _ e) in let high : i ≤ (isize - 2) * 8 = leb-true i ((isize - 2) * 8) (and_right (leb 1 i) _ e) in omega arith

body_of-Body : {j k : ℕ} → Body j ≡ Body k → j ≡ k
body_of-Body e = cc

-- two images with the same sectors below the data blocks have the same inodes
pub same_inode : (old new : Image) → sector_at new 1 ≡ sector_at old 1 → ((s : ℕ) → 2 ≤ s → s < isize_of old → sector_at new s ≡ sector_at old s) → (i : ℕ) → inode_at new i ≡ inode_at old i
unfolding inode_at
same_inode old new first same i =
    (λ z. cond (leb 1 i && leb i ((field (first z) 0 2 - 2) * 8)) (inode_of (part (sector_at new (inode_sector i)) (inode_offset i) 64)) (inode_of []))
    ∙ cond_same (leb 1 i && leb i ((isize_of old - 2) * 8)) _ _ (inode_of []) (λ e. ap (λ bytes. inode_of (part bytes (inode_offset i) 64)) (same (inode_sector i) (omega arith) (inode_below (isize_of old) i e)))

-- files that differ at one node alone
pub files_but_one : (t : Tree) (blocks : ℕ) (inode inode' : ℕ → Inode) (body body' : ℕ → Sectors) (read_only : Bool) (i : ℕ) → i < t.inodes + 1 → is_named t i ≡ true
    → ((j : ℕ) → j ≢ i → inode' j ≡ inode j) → ((j : ℕ) → j ≢ i → body' j ≡ body j) → (inode' i).generation ≡ (inode i).generation
    → files_of t blocks inode' body' read_only ≡ with_node (files_of t blocks inode body read_only) i (node_of t i (inode' i) (body' i))
unfolding files_of
files_but_one t blocks inode inode' body body' read_only i within named inodes_same bodies_same generation =
    let node = λ (inode : ℕ → Inode) (body : ℕ → Sectors) (j : ℕ). cond (is_named t j) (Some (node_of t j (inode j) (body j))) None in
    let nodes : tabulated (node inode' body') (t.inodes + 1) ≡ insert (tabulated (node inode body) (t.inodes + 1)) i (node_of t i (inode' i) (body' i)) =
    tabulated_but_one (node inode body) (node inode' body') (t.inodes + 1) i _ within (ap (λ b. cond b (Some (node_of t i (inode' i) (body' i))) None) named)
    (λ q lt ne z. cond (is_named t q) (Some (node_of t q (inodes_same q ne z) (bodies_same q ne z))) None) in
    let generations : (j : ℕ) → (inode' j).generation ≡ (inode j).generation = λ j. ⊎_elim (λ (e : j ≡ i). subst (λ q. (inode' q).generation ≡ (inode q).generation) (sym e) generation) (λ (ne : j ≢ i). ap (λ (n : Inode). n.generation) (inodes_same j ne)) (cases_eq j i) in
    λ z. record {
      nodes = nodes z;
      generations = tabulated (λ j. cond (eqb j 0) None (Some (generations j z))) (t.inodes + 1);
      inodes = t.inodes;
      blocks = blocks;
      read_only = read_only;
    }

-- What two images share that have the same files but for node i.
pub record SameBut (i : ℕ) (old new : Image) : Type 0 where
  pub first : sector_at new 1 ≡ sector_at old 1
  pub tree : tree (frame new) ≡ tree (frame old)
  pub inodes : (j : ℕ) → j ≢ i → inode_at new j ≡ inode_at old j
  pub bodies : (j : ℕ) → j ≢ i → body_at new (frame new) j ≡ body_at old (frame old) j
  pub generation : (inode_at new i).generation ≡ (inode_at old i).generation

-- the one step from images to files
pub view_but_one : (i : ℕ) (old new : Image) → SameBut i old new → is_named (tree (frame old)) i ≡ true → i < (tree (frame old)).inodes + 1
    → view new ≡ with_node (view old) i (node_of (tree (frame old)) i (inode_at new i) (body_at new (frame new) i))
unfolding view frame
view_but_one i old new same named within =
    (λ z. files_of (same.tree z) (field (same.first z) 2 4 - field (same.first z) 0 2) (inode_at new) (body_at new (frame new)) (is_read_only (same.first z)))
    ∙ files_but_one (tree (frame old)) ((frame old).fsize - (frame old).isize) (inode_at old) (inode_at new) (body_at old (frame old)) (body_at new (frame new)) (is_read_only (sector_at old 1)) i within named same.inodes same.bodies same.generation

module _ (old : Image) (i k a : ℕ) (bytes : List ℕ) (weak : IsWeak (frame old)) (file : is_directory ((frame old).head i) ≡ false) (is : (frame old).address i (Body k) ≡ a) (there : a ≢ 0) where
  new : Image
  new = set old a bytes

  data_block : (isize_of old ≤ a) × (3 ≤ isize_of old) × (a < length old)
  unfolding frame
  data_block =
      let nonzero : (frame old).address i (Body k) ≢ 0 = λ z. there (sym is ∙ z) in
      let d = weak.data_block i (Body k) nonzero in
      let within = weak.sizes.within in
      (subst (λ b. isize_of old ≤ b) is d.0, weak.sizes.low, (let h : a < (frame old).fsize = subst (λ b. b < (frame old).fsize) is d.1 in omega arith))

  below_same : (s : ℕ) → s < isize_of old → sector_at new s ≡ sector_at old s
  unfolding new
  below_same s h = let d = data_block in get_or-set_other old a s bytes [] (let low : isize_of old ≤ a = d.0 in λ e. omega arith)

  pub data-below : (s : ℕ) → s < isize_of old → sector_at (set old a bytes) s ≡ sector_at old s
  unfolding new
  data-below s h = below_same s h

  inodes_same : (j : ℕ) → inode_at new j ≡ inode_at old j
  inodes_same j = let d = data_block in let low : 3 ≤ isize_of old = d.1 in same_inode old new (below_same 1 (omega arith)) (λ s _ lt. below_same s lt) j

  -- a block that stands elsewhere stays
  elsewhere : (j : ℕ) (p : Place) → (frame old).address j p ≢ 0 → ((i ≡ j) × (Body k ≡ p) → ⊥) → sector_at new ((frame old).address j p) ≡ sector_at old ((frame old).address j p)
  unfolding new
  elsewhere j p nonzero other = get_or-set_other old a ((frame old).address j p) bytes [] (λ e.
      other (weak.unshared i j (Body k) p (λ z. there (sym is ∙ z)) (is ∙ sym e)))

  keeps : KeepsFrame old new
  unfolding new
  keeps = let d = data_block in let low : 3 ≤ isize_of old = d.1 in record {
    length = length-set old a bytes;
    first = below_same 1 (omega arith);
    heads = λ j. ap head_of (inodes_same j);
    maps = λ j p map nonzero. elsewhere j p nonzero (λ e. subst IsMap (sym e.1) map);
    directories = λ j q dir lt. elsewhere j (Body q) (weak.needed j q dir lt) (λ e. let dir' : is_directory ((frame old).head i) ≡ true = subst (λ n. is_directory ((frame old).head n) ≡ true) (sym e.0) dir in cc);
  }

  pub data-frame : frame (set old a bytes) ≡ frame old
  unfolding new
  data-frame = same_frame old new keeps

  held_elsewhere : (j q size : ℕ) → ((i ≡ j) × (Body k ≡ Body q) → ⊥) → held new size q ((frame old).address j (Body q)) ≡ held old size q ((frame old).address j (Body q))
  held_elsewhere j q size other = ⊎_elim
      (λ (z : (frame old).address j (Body q) ≡ 0). subst (λ b. held new size q b ≡ held old size q b) (sym z) refl)
      (λ (nz : (frame old).address j (Body q) ≢ 0). ap (λ s. cond (eqb ((frame old).address j (Body q)) 0) None (Some (clipped size q s))) (elsewhere j (Body q) nz other))
      (cases_eq ((frame old).address j (Body q)) 0)

  bodies_same : (j : ℕ) → j ≢ i → body_at new (frame old) j ≡ body_at old (frame old) j
  unfolding body_of
  bodies_same j ne = ap (cond (is_directory ((frame old).head j)) empty) (tabulated_same _ _ _ (λ q lt. held_elsewhere j q _ (λ e. ne (sym e.0))))

  module _ (below : k < sectors_of ((frame old).head i).size) where
    held_here : held new ((frame old).head i).size k ((frame old).address i (Body k)) ≡ Some (clipped ((frame old).head i).size k bytes)
    unfolding new
    held_here = let d = data_block in let in' : a < length old = d.2 in
        subst (λ b. held new ((frame old).head i).size k b ≡ Some (clipped ((frame old).head i).size k bytes)) (sym is)
        (let ne : eqb a 0 ≡ false = ⊎_elim (λ (e : eqb a 0 ≡ true). absurd (there (eqb-true a 0 e))) (λ (e : eqb a 0 ≡ false). e) (cases_Bool (eqb a 0)) in
        (λ z. cond (ne z) None (Some (clipped ((frame old).head i).size k (sector_at new a)))) ∙ ap (λ s. Some (clipped ((frame old).head i).size k s)) (get_or-set_same old a bytes [] in'))

    body_here : body_at new (frame old) i ≡ insert (body_at old (frame old) i) k (clipped ((frame old).head i).size k bytes)
    unfolding body_of
    body_here =
        let size : ℕ = ((frame old).head i).size in
        let f = λ (image : Image) (q : ℕ). held image size q ((frame old).address i (Body q)) in
        subst (λ b. cond b empty (tabulated (f new) (sectors_of size)) ≡ insert (cond b empty (tabulated (f old) (sectors_of size))) k (clipped size k bytes)) (sym file)
        (tabulated_but_one (f old) (f new) (sectors_of size) k _ below held_here (λ q lt ne. held_elsewhere i q size (λ e. ne (sym (body_of-Body e.1)))))

    module _ (named : is_named (tree (frame old)) i ≡ true) (within : i < (tree (frame old)).inodes + 1) where
      pub data-view : view (set old a bytes) ≡ with_node (view old) i (node_of (tree (frame old)) i (inode_at old i) (insert (body_at old (frame old) i) k (clipped ((frame old).head i).size k bytes)))
      unfolding new
      data-view =
          let d = data_block in let low : 3 ≤ isize_of old = d.1 in
          view_but_one i old new (record {
            first = below_same 1 (omega arith);
            tree = ap tree data-frame;
            inodes = λ j ne. inodes_same j;
            bodies = λ j ne. ap (λ f. body_at new f j) data-frame ∙ bodies_same j ne;
            generation = ap (λ (m : Inode). m.generation) (inodes_same i);
          }) named within
          ∙ (λ z. with_node (view old) i (node_of (tree (frame old)) i (inodes_same i z) (body_at new (data-frame z) i)))
          ∙ ap (λ b. with_node (view old) i (node_of (tree (frame old)) i (inode_at old i) b)) body_here
