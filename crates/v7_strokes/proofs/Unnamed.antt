-- The put of an inode that no name leads to, a new one or one that ends: the files stay, but for its generation.
use Rattle.std.proofs.Common.{◌≡◌, ◌≢◌, ℕ, ◌+◌, ◌-◌, ◌<◌, ◌≤◌, Bool, true, false, cond, not, ◌==◌, List, set, sym, ap, subst, ◌∙◌, arith, ⊎_elim, eqb, Some, None}
use Rattle.std.proofs.lemmas.Bool.{cases_eq, ne_eqb}
use Rattle.std.specs.FinMap.{insert}
use Rattle.std.specs.List.{range_with_len, list_any}
use Rattle.v7_layout.specs.declared.inode.Inode.{Inode}
use Rattle.v7_layout.specs.Numbers.{field}
use Rattle.files_model.specs.Files.{sectors_of, tabulated}
use Rattle.files_model.proofs.Maps.{tabulated_but_one, tabulated_same}
use Rattle.stable.specs.Store.{Image}
use Rattle.v7_map.specs.Image.{sector_at, inode_at, inode_sector, inodes_before, is_read_only}
use Rattle.v7_map.specs.Frame.{Head, Place, Body, Single, Double, head_of, is_directory, address_of, frame}
use Rattle.v7_map.specs.Tree.{tree, is_walked, is_named, links}
use Rattle.v7_map.specs.View.{view, files_of, node_of, node_at, body_at}
use Rattle.v7_map.specs.Weak.{IsWeak, IsGood}
use Rattle.v7_map.specs.Plan.{PutsInode}
use Rattle.v7_map.proofs.AnyFrame.{frame-IsFrame}
use Rattle.v7_plans.specs.Placed.{IsPlaced}
use Rattle.v7_plans.proofs.Local.{Elsewhere, IsStrongFor, each}
use Rattle.v7_plans.proofs.InodePut.{put-head, put-address, put-slots_other, put-elsewhere, put-weak, put-inode, put-inode_other, put-body_other, put-first}
use Rattle.v7_strokes.proofs.Aside.{Aside, aside-walked, aside-links, aside-named, aside-IsTree}
use Rattle.v7_strokes.specs.Changes.{node_if, with_generation}

-- an inode without blocks, that is no directory
pub placed-none : (old : Image) (i : ℕ) (h : Head) → (h.is_used ≡ true → IsGood h) → is_directory h ≡ false → ((p : Place) → address_of old h p ≡ 0) → IsPlaced old i h
placed-none old i h good file none = record {
  good = good;
  mine = λ p nz. absurd (nz (none p));
  needed = λ k dir lt. absurd (clash dir file);
  apart = λ p q nz same. absurd (nz (none p));
  no_double = none Double;
  past = λ k le. none (Body k);
  single = λ nz. absurd (nz (none Single));
}
  where
    clash : {b : Bool} → b ≡ true → b ≡ false → ⊥
    clash {b = b} x y = cc

module _ (old : Image) (i : ℕ) (bytes : List ℕ) (n : Inode) (weak : IsWeak (frame old)) (puts : PutsInode old i bytes n) (placed : IsPlaced old i (head_of n))
    (low : 3 ≤ i) (unnamed : is_named (tree (frame old)) i ≡ false) where
  new : Image
  new = set old (inode_sector i) bytes

  but : Elsewhere i (frame old) (frame new)
  unfolding new
  but = put-elsewhere old i bytes n weak puts placed.mine placed.needed

  numbers : (image : Image) (j : ℕ) → is_directory ((frame image).head j) ≡ true → (1 ≤ j) × (j < 1 + inodes_before (frame image).isize)
  numbers image j dir = let is = frame-IsFrame image in let r = is.numbers j (is.directories j dir) in let high = r.1 in (r.0, omega arith)

  aside : Aside (tree (frame old)) (tree (frame new)) i
  unfolding new
  aside = record {
    inodes = ap inodes_before but.isize;
    dirs = λ j ne. ap is_directory (but.heads j ne);
    slots = λ j ne. put-slots_other old i bytes n weak puts placed.mine placed.needed j ne;
    unnamed = unnamed;
    no_root = λ e. absurd (omega arith);
    old_numbers = numbers old;
    new_numbers = numbers (set old (inode_sector i) bytes);
  }

  pub unnamed-walked : (j : ℕ) → is_walked (tree (frame (set old (inode_sector i) bytes))) j ≡ is_walked (tree (frame old)) j
  unfolding new
  unnamed-walked = aside-walked (tree (frame old)) (tree (frame new)) i aside

  pub unnamed-links : (j : ℕ) → links (tree (frame (set old (inode_sector i) bytes))) j ≡ links (tree (frame old)) j
  unfolding new
  unnamed-links = aside-links (tree (frame old)) (tree (frame new)) i aside

  pub unnamed-named : (j : ℕ) → is_named (tree (frame (set old (inode_sector i) bytes))) j ≡ is_named (tree (frame old)) j
  unfolding new
  unnamed-named = aside-named (tree (frame old)) (tree (frame new)) i aside

  pub unnamed-weak : IsWeak (frame (set old (inode_sector i) bytes))
  unfolding new
  unnamed-weak = put-weak old i bytes n weak puts placed.mine placed.needed (λ e. absurd (omega arith)) (λ e. absurd (omega arith)) placed.good placed.apart placed.no_double
      (aside-IsTree (tree (frame old)) (tree (frame new)) i aside (frame old) (frame new) weak.names (λ j ne u. ap (λ (h : Head). h.is_used) (but.heads j ne) ∙ u))

  pub unnamed-heads : (j : ℕ) → j ≢ i → (frame (set old (inode_sector i) bytes)).head j ≡ (frame old).head j
  unfolding new
  unnamed-heads = but.heads

  pub unnamed-head : (frame (set old (inode_sector i) bytes)).head i ≡ head_of n
  unnamed-head = put-head old i bytes n weak puts placed.mine placed.needed

  pub unnamed-address : (p : Place) → (frame (set old (inode_sector i) bytes)).address i p ≡ address_of old (head_of n) p
  unnamed-address p = put-address old i bytes n weak puts placed.mine placed.needed p

  pub unnamed-addresses : (j : ℕ) → j ≢ i → (p : Place) → (frame (set old (inode_sector i) bytes)).address j p ≡ (frame old).address j p
  unfolding new
  unnamed-addresses = but.addresses

  pub unnamed-sizes : ((frame (set old (inode_sector i) bytes)).isize ≡ (frame old).isize) × ((frame (set old (inode_sector i) bytes)).fsize ≡ (frame old).fsize)
  unfolding new
  unnamed-sizes = (but.isize, but.fsize)

  pub unnamed-slots : (j : ℕ) → j ≢ i → (tree (frame (set old (inode_sector i) bytes))).slots j ≡ (tree (frame old)).slots j
  unnamed-slots j ne = put-slots_other old i bytes n weak puts placed.mine placed.needed j ne

  pub unnamed-strong : (K : ℕ → Type 0) → ((j : ℕ) → K j → j ≢ i) → IsStrongFor K (frame old) → IsStrongFor K (frame (set old (inode_sector i) bytes))
  unfolding new
  unnamed-strong K others strong = record {
    weak = unnamed-weak;
    counted = λ j l u. let ne = others j l in ap (λ (h : Head). h.nlink) (but.heads j ne) ∙ strong.counted j l (ap (λ (h : Head). h.is_used) (sym (but.heads j ne)) ∙ u) ∙ sym (unnamed-links j);
    named = λ j l u. unnamed-named j ∙ strong.named j l (ap (λ (h : Head). h.is_used) (sym (but.heads j (others j l))) ∙ u);
    none_past = each i (λ j. (k : ℕ) → sectors_of ((frame new).head j).size ≤ k → (frame new).address j (Body k) ≡ 0)
        (λ k le. unnamed-address (Body k) ∙ placed.past k (subst (λ (h : Head). sectors_of h.size ≤ k) unnamed-head le))
        (λ j ne k le. but.addresses j ne (Body k) ∙ strong.none_past j k (subst (λ (h : Head). sectors_of h.size ≤ k) (but.heads j ne) le));
    single_needed = each i (λ j. (frame new).address j Single ≢ 0 → list_any (λ k. not ((frame new).address j (Body k) == 0)) (range_with_len 10 128) ≡ true)
        (λ nz. (λ z. list_any (λ k. not (unnamed-address (Body k) z == 0)) (range_with_len 10 128)) ∙ placed.single (λ z. nz (unnamed-address Single ∙ z)))
        (λ j ne nz. (λ z. list_any (λ k. not (but.addresses j ne (Body k) z == 0)) (range_with_len 10 128)) ∙ strong.single_needed j (λ z. nz (but.addresses j ne Single ∙ z)));
  }

  pub unnamed-inode : inode_at (set old (inode_sector i) bytes) i ≡ n
  unnamed-inode = put-inode old i bytes n weak puts placed.mine placed.needed

  pub unnamed-inodes : (j : ℕ) → j ≢ i → inode_at (set old (inode_sector i) bytes) j ≡ inode_at old j
  unnamed-inodes = put-inode_other old i bytes n weak puts placed.mine placed.needed

  pub unnamed-bodies : (j : ℕ) → j ≢ i → body_at (set old (inode_sector i) bytes) (frame (set old (inode_sector i) bytes)) j ≡ body_at old (frame old) j
  unnamed-bodies = put-body_other old i bytes n weak puts placed.mine placed.needed

  same_if : (j : ℕ) → node_if new j ≡ node_if old j
  unfolding new
  same_if j = ⊎_elim
      (λ (e : j ≡ i). let no : is_named (tree (frame old)) j ≡ false = ap (is_named (tree (frame old))) e ∙ unnamed in
      (λ z. cond ((unnamed-named j ∙ no) z) (Some (node_at new j)) None) ∙ (λ z. cond (sym no z) (Some (node_at old j)) None))
      (λ (ne : j ≢ i) z. cond (unnamed-named j z) (Some (record (node_of (tree (frame old)) j (unnamed-inodes j ne z) (unnamed-bodies j ne z)) { nlink = unnamed-links j z; slots = unnamed-slots j ne z })) None)
      (cases_eq j i)

  pub unnamed-view : i < (tree (frame old)).inodes + 1 → view (set old (inode_sector i) bytes) ≡ with_generation (view old) i n.generation
  unfolding view files_of frame new
  unnamed-view within =
      let first : sector_at new 1 ≡ sector_at old 1 = put-first old i bytes n weak puts placed.mine placed.needed in
      let count : (tree (frame new)).inodes ≡ (tree (frame old)).inodes = aside.inodes in
      let nodes : tabulated (node_if new) ((tree (frame old)).inodes + 1) ≡ tabulated (node_if old) ((tree (frame old)).inodes + 1) = tabulated_same (node_if new) (node_if old) ((tree (frame old)).inodes + 1) (λ j lt. same_if j) in
      let generations : tabulated (λ j. cond (eqb j 0) None (Some (inode_at new j).generation)) ((tree (frame old)).inodes + 1)
      ≡ insert (tabulated (λ j. cond (eqb j 0) None (Some (inode_at old j).generation)) ((tree (frame old)).inodes + 1)) i (inode_at new i).generation =
      tabulated_but_one (λ j. cond (eqb j 0) None (Some (inode_at old j).generation)) (λ j. cond (eqb j 0) None (Some (inode_at new j).generation)) ((tree (frame old)).inodes + 1) i (inode_at new i).generation within
      (ap (λ b. cond b None (Some (inode_at new i).generation)) (ne_eqb i 0 (λ z. omega arith)))
      (λ q lt ne z. cond (eqb q 0) None (Some (unnamed-inodes q ne z).generation)) in
      (λ z. record { nodes = tabulated (node_if new) (count z + 1); generations = tabulated (λ j. cond (eqb j 0) None (Some (inode_at new j).generation)) (count z + 1); inodes = count z; blocks = field (first z) 2 4 - field (first z) 0 2; read_only = is_read_only (first z) })
      ∙ (λ z. record { nodes = nodes z; generations = generations z; inodes = (tree (frame old)).inodes; blocks = (frame old).fsize - (frame old).isize; read_only = is_read_only (sector_at old 1) })
      ∙ ap (λ (m : Inode). with_generation (view old) i m.generation) unnamed-inode
