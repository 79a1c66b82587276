-- The put of an inode, used before and after, with another link count, other times, another owner or other permissions.
use Rattle.std.proofs.Common.{◌≡◌, ◌≢◌, ℕ, ◌+◌, ◌<◌, ◌≤◌, true, false, not, ◌==◌, List, set, sym, ap, subst, ◌∙◌}
use Rattle.std.specs.List.{range_with_len, list_any}
use Rattle.v7_layout.specs.declared.inode.Inode.{Inode}
use Rattle.files_model.specs.Files.{sectors_of}
use Rattle.files_model.specs.Step.{with_node}
use Rattle.stable.specs.Store.{Image}
use Rattle.v7_map.specs.Image.{inode_at, inode_sector}
use Rattle.v7_map.specs.Frame.{Head, Place, Body, Single, Double, head_of, is_directory, address_of, slots_of, frame}
use Rattle.v7_map.specs.Tree.{tree, is_named}
use Rattle.v7_map.specs.Weak.{IsWeak, IsGood}
use Rattle.v7_map.specs.View.{view, node_of, body_of, body_at}
use Rattle.v7_map.specs.Plan.{PutsInode}
use Rattle.v7_map.proofs.Data.{view_but_one}
use Rattle.v7_plans.specs.Placed.{IsMine}
use Rattle.v7_plans.proofs.Local.{held-mine, IsStrongFor, Elsewhere, strong_for_local, same-IsTree, each}
use Rattle.v7_plans.proofs.InodePut.{put-head, put-address, put-tree, put-elsewhere, put-weak, put-inode, put-inode_other, put-body, put-body_other, put-first}

module _ (old : Image) (i : ℕ) (bytes : List ℕ) (n : Inode) (weak : IsWeak (frame old)) (puts : PutsInode old i bytes n) (used : ((frame old).head i).is_used ≡ true)
    (alike : head_of n ≡ record ((frame old).head i) { nlink = n.nlink }) where
  places : (p : Place) → address_of old (head_of n) p ≡ (frame old).address i p
  unfolding frame address_of
  places (Body k) = ap (λ h. address_of old h (Body k)) alike
  places Single = ap (λ h. address_of old h Single) alike
  places Double = ap (λ h. address_of old h Double) alike

  mine : (p : Place) → address_of old (head_of n) p ≢ 0 → IsMine (frame old) i (address_of old (head_of n) p)
  mine p nz = subst (IsMine (frame old) i) (sym (places p)) (held-mine (frame old) i p weak (λ z. nz (places p ∙ z)))

  same_dir : is_directory (head_of n) ≡ is_directory ((frame old).head i)
  same_dir = ap is_directory alike

  same_size : (head_of n).size ≡ ((frame old).head i).size
  same_size = ap (λ (h : Head). h.size) alike

  needed : (k : ℕ) → is_directory (head_of n) ≡ true → k < sectors_of (head_of n).size → address_of old (head_of n) (Body k) ≢ 0
  needed k dir lt z = weak.needed i k (sym same_dir ∙ dir) (subst (λ s. k < sectors_of s) same_size lt) (sym (places (Body k)) ∙ z)

  same_slots : slots_of old (head_of n) ≡ (frame old).slots i
  unfolding frame address_of slots_of
  same_slots = ap (slots_of old) alike

  new : Image
  new = set old (inode_sector i) bytes

  head_new : (frame new).head i ≡ head_of n
  unfolding new
  head_new = put-head old i bytes n weak puts mine needed

  address_new : (p : Place) → (frame new).address i p ≡ (frame old).address i p
  unfolding new
  address_new p = put-address old i bytes n weak puts mine needed p ∙ places p

  but : Elsewhere i (frame old) (frame new)
  unfolding new
  but = put-elsewhere old i bytes n weak puts mine needed

  pub attr-tree : tree (frame (set old (inode_sector i) bytes)) ≡ tree (frame old)
  attr-tree = put-tree old i bytes n weak puts mine needed same_dir same_slots

  good : (head_of n).is_used ≡ true → IsGood (head_of n)
  good u = subst IsGood (sym alike) (let g = weak.good i used in record { kind = g.kind; length = g.length; link = g.link; directory = g.directory })

  used_stay : (j : ℕ) → ((frame old).head j).is_used ≡ true → ((frame new).head j).is_used ≡ true
  used_stay = each i (λ j. ((frame old).head j).is_used ≡ true → ((frame new).head j).is_used ≡ true) (λ u. ap (λ (h : Head). h.is_used) (head_new ∙ alike) ∙ u) (λ j ne u. ap (λ (h : Head). h.is_used) (but.heads j ne) ∙ u)

  pub attr-weak : IsWeak (frame (set old (inode_sector i) bytes))
  unfolding new
  attr-weak = put-weak old i bytes n weak puts mine needed
      (λ e. ap (λ (h : Head). h.is_used) alike ∙ subst (λ z. ((frame old).head z).is_used ≡ false) (sym e) weak.first)
      (λ e. same_dir ∙ subst (λ z. is_directory ((frame old).head z) ≡ true) (sym e) weak.root)
      good
      (λ p q nz same. (weak.unshared i i p q (λ z. nz (places p ∙ z)) (sym (places p) ∙ same ∙ places q)).1)
      (places Double ∙ weak.no_double i)
      (same-IsTree (frame old) (frame new) weak.names attr-tree (λ d k j name w s. used_stay j (weak.names.used d k j name w s).0))

  -- what others count stays; `strong_change` then says when it is Strong
  pub attr-strong : (K : ℕ → Type 0) → ((j : ℕ) → K j → j ≢ i) → IsStrongFor K (frame old) → IsStrongFor K (frame (set old (inode_sector i) bytes))
  unfolding new
  attr-strong K others strong = strong_for_local i K (frame old) (frame new) others strong attr-weak but attr-tree
      (λ k le. address_new (Body k) ∙ strong.none_past i k (subst (λ (h : Head). sectors_of h.size ≤ k) (head_new ∙ alike) le))
      (λ nz. (λ z. list_any (λ k. not (address_new (Body k) z == 0)) (range_with_len 10 128)) ∙ strong.single_needed i (λ z. nz (address_new Single ∙ z)))

  pub attr-head : (frame (set old (inode_sector i) bytes)).head i ≡ head_of n
  unfolding new
  attr-head = head_new

  pub attr-heads : (j : ℕ) → j ≢ i → (frame (set old (inode_sector i) bytes)).head j ≡ (frame old).head j
  unfolding new
  attr-heads = but.heads

  pub attr-addresses : (j : ℕ) (p : Place) → (frame (set old (inode_sector i) bytes)).address j p ≡ (frame old).address j p
  unfolding new
  attr-addresses j p = each i (λ j. (frame new).address j p ≡ (frame old).address j p) (address_new p) (λ j ne. but.addresses j ne p) j

  pub attr-sizes : ((frame (set old (inode_sector i) bytes)).isize ≡ (frame old).isize) × ((frame (set old (inode_sector i) bytes)).fsize ≡ (frame old).fsize)
  unfolding new
  attr-sizes = (but.isize, but.fsize)

  pub attr-inode : inode_at (set old (inode_sector i) bytes) i ≡ n
  attr-inode = put-inode old i bytes n weak puts mine needed

  pub attr-inodes : (j : ℕ) → j ≢ i → inode_at (set old (inode_sector i) bytes) j ≡ inode_at old j
  attr-inodes = put-inode_other old i bytes n weak puts mine needed

  pub attr-body : (j : ℕ) → body_at (set old (inode_sector i) bytes) (frame (set old (inode_sector i) bytes)) j ≡ body_at old (frame old) j
  unfolding new body_of
  attr-body j = each i (λ j. body_at new (frame new) j ≡ body_at old (frame old) j)
      (put-body old i bytes n weak puts mine needed ∙ own)
      (put-body_other old i bytes n weak puts mine needed) j
    where
      own : body_of old (head_of n) (address_of old (head_of n)) ≡ body_at old (frame old) i
      own = (λ z. body_of old (alike z) (λ p. places p z))

  pub attr-view : n.generation ≡ (inode_at old i).generation → is_named (tree (frame old)) i ≡ true → i < (tree (frame old)).inodes + 1
      → view (set old (inode_sector i) bytes) ≡ with_node (view old) i (node_of (tree (frame old)) i n (body_at old (frame old) i))
  unfolding new
  attr-view generation named within =
      view_but_one i old new (record {
        first = put-first old i bytes n weak puts mine needed;
        tree = attr-tree;
        inodes = attr-inodes;
        bodies = λ j ne. attr-body j;
        generation = ap (λ (m : Inode). m.generation) attr-inode ∙ generation;
      }) named within
      ∙ (λ z. with_node (view old) i (node_of (tree (frame old)) i (attr-inode z) (attr-body i z)))
