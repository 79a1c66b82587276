-- Weak and Strong, inode by inode: what has to be shown of a frame that is another one but for one inode, whatever becomes of the tree.
use Rattle.std.proofs.Common.{◌≡◌, ◌≢◌, ℕ, ◌<◌, ◌≤◌, true, false, not, ◌==◌, List, refl, sym, ap, subst, ◌∙◌, arith, ⊎_elim, Some}
use Rattle.std.proofs.lemmas.Bool.{cases_eq}
use Rattle.std.specs.List.{range_with_len, list_any}
use Rattle.files_model.specs.Files.{sectors_of}
use Rattle.v7_map.specs.Frame.{Frame, Head, Place, Body, Single, Double, is_directory}
use Rattle.v7_map.specs.Tree.{tree, is_walked, is_named, links}
use Rattle.v7_map.specs.Weak.{IsWeak, IsStrong, IsGood, IsTree, slot_at}
use Rattle.v7_plans.specs.Placed.{IsMine}

pub held-mine : (f : Frame) (i : ℕ) (p : Place) → IsWeak f → f.address i p ≢ 0 → IsMine f i (f.address i p)
held-mine f i p weak nonzero = let d = weak.data_block i p nonzero in record {
  low = d.0;
  high = d.1;
  others = λ j ne q e. ne (sym (weak.unshared i j p q nonzero (sym e)).0);
}

pub record Elsewhere (i : ℕ) (f g : Frame) : Type 0 where
  pub sectors : g.sectors ≡ f.sectors
  pub mark : g.mark ≡ f.mark
  pub isize : g.isize ≡ f.isize
  pub fsize : g.fsize ≡ f.fsize
  pub heads : (j : ℕ) → j ≢ i → g.head j ≡ f.head j
  pub addresses : (j : ℕ) → j ≢ i → (p : Place) → g.address j p ≡ f.address j p

-- the one inode: used or free, file or directory
pub record IsInodeIn (f g : Frame) (i : ℕ) : Type 0 where
  pub first : i ≡ 1 → (g.head i).is_used ≡ false
  pub root : i ≡ 2 → is_directory (g.head i) ≡ true
  pub good : (g.head i).is_used ≡ true → IsGood (g.head i)
  pub needed : (k : ℕ) → is_directory (g.head i) ≡ true → k < sectors_of (g.head i).size → g.address i (Body k) ≢ 0
  pub mine : (p : Place) → g.address i p ≢ 0 → IsMine f i (g.address i p)
  pub apart : (p q : Place) → g.address i p ≢ 0 → g.address i p ≡ g.address i q → p ≡ q
  pub no_double : g.address i Double ≡ 0

pub each : (i : ℕ) (P : ℕ → Type 0) → P i → ((j : ℕ) → j ≢ i → P j) → (j : ℕ) → P j
each i P here there j = ⊎_elim (λ (e : j ≡ i). subst P (sym e) here) (λ (ne : j ≢ i). there j ne) (cases_eq j i)

pub weak_local : (i : ℕ) (f g : Frame) → IsWeak f → Elsewhere i f g → IsInodeIn f g i → IsTree g (tree g) → IsWeak g
weak_local i f g weak but is names = record {
  sizes = let s = weak.sizes in let a = but.sectors in let b = but.mark in let c = but.isize in let d = but.fsize in record {
    mark = b ∙ s.mark;
    low = subst (λ z. 3 ≤ z) (sym c) s.low;
    high = subst (λ z. z ≤ 8193) (sym c) s.high;
    above = let x = s.above in omega arith;
    within = let x = s.within in omega arith;
    not_huge = let x = s.not_huge in omega arith;
  };
  first = each i (λ j. j ≡ 1 → (g.head j).is_used ≡ false) is.first (λ j ne e. ap (λ (h : Head). h.is_used) (but.heads j ne) ∙ subst (λ z. (f.head z).is_used ≡ false) (sym e) weak.first) 1 refl;
  root = each i (λ j. j ≡ 2 → is_directory (g.head j) ≡ true) is.root (λ j ne e. ap is_directory (but.heads j ne) ∙ subst (λ z. is_directory (f.head z) ≡ true) (sym e) weak.root) 2 refl;
  good = each i (λ j. (g.head j).is_used ≡ true → IsGood (g.head j)) is.good
      (λ j ne u. subst IsGood (sym (but.heads j ne)) (weak.good j (ap (λ (h : Head). h.is_used) (sym (but.heads j ne)) ∙ u)));
  data_block = each i (λ j. (p : Place) → g.address j p ≢ 0 → (g.isize ≤ g.address j p) × (g.address j p < g.fsize))
      (λ p nz. let m = is.mine p nz in (subst (λ z. z ≤ g.address i p) (sym but.isize) m.low, subst (λ z. g.address i p < z) (sym but.fsize) m.high))
      (λ j ne p nz. let e = but.addresses j ne p in let d = weak.data_block j p (λ z. nz (e ∙ z)) in
      (subst (λ z. z ≤ g.address j p) (sym but.isize) (subst (λ z. f.isize ≤ z) (sym e) d.0), subst (λ z. g.address j p < z) (sym but.fsize) (subst (λ z. z < f.fsize) (sym e) d.1)));
  needed = each i (λ j. (k : ℕ) → is_directory (g.head j) ≡ true → k < sectors_of (g.head j).size → g.address j (Body k) ≢ 0) is.needed
      (λ j ne k dir lt z. weak.needed j k (ap is_directory (sym (but.heads j ne)) ∙ dir) (subst (λ (h : Head). k < sectors_of h.size) (but.heads j ne) lt) (sym (but.addresses j ne (Body k)) ∙ z));
  no_double = each i (λ j. g.address j Double ≡ 0) is.no_double (λ j ne. but.addresses j ne Double ∙ weak.no_double j);
  unshared = λ j l p q. ⊎_elim
      (λ (e : j ≡ i). ⊎_elim
      (λ (e' : l ≡ i) nz same. (e ∙ sym e', is.apart p q (λ z. nz (ap (λ m. g.address m p) e ∙ z)) (ap (λ m. g.address m p) (sym e) ∙ same ∙ ap (λ m. g.address m q) e')))
      (λ (ne : l ≢ i) nz same. absurd ((is.mine p (λ z. nz (ap (λ m. g.address m p) e ∙ z))).others l ne q (sym (but.addresses l ne q) ∙ sym same ∙ ap (λ m. g.address m p) e)))
      (cases_eq l i))
      (λ (ne : j ≢ i). ⊎_elim
      (λ (e' : l ≡ i) nz same. absurd ((is.mine q (λ z. nz (same ∙ ap (λ m. g.address m q) e' ∙ z))).others j ne p (sym (but.addresses j ne p) ∙ same ∙ ap (λ m. g.address m q) e')))
      (λ (ne' : l ≢ i) nz same. weak.unshared j l p q (λ z. nz (but.addresses j ne p ∙ z)) (sym (but.addresses j ne p) ∙ same ∙ but.addresses l ne' q))
      (cases_eq l i))
      (cases_eq j i);
  names = names;
}

-- the tree stays, and each named inode is used
pub same-IsTree : (f g : Frame) → IsTree f (tree f) → tree g ≡ tree f → ((d k j : ℕ) (name : List ℕ) → is_walked (tree f) d ≡ true → slot_at (tree f) d k ≡ Some (j, name) → (g.head j).is_used ≡ true) → IsTree g (tree g)
same-IsTree f g is same used = subst (λ t. IsTree g t) (sym same) (record {
  dots = is.dots;
  used = λ d k j name w at. (used d k j name w at, (is.used d k j name w at).1);
  linked = is.linked;
  one_slot = is.one_slot;
})

-- Strong, but that only the inodes that K says are known to count their links and to be named
pub record IsStrongFor (K : ℕ → Type 0) (f : Frame) : Type 0 where
  pub weak : IsWeak f
  pub counted : (j : ℕ) → K j → (f.head j).is_used ≡ true → (f.head j).nlink ≡ links (tree f) j
  pub named : (j : ℕ) → K j → (f.head j).is_used ≡ true → is_named (tree f) j ≡ true
  pub none_past : (j k : ℕ) → sectors_of (f.head j).size ≤ k → f.address j (Body k) ≡ 0
  pub single_needed : (j : ℕ) → f.address j Single ≢ 0 → list_any (λ k. not (f.address j (Body k) == 0)) (range_with_len 10 128) ≡ true

pub strong_for : (K : ℕ → Type 0) (f : Frame) → IsStrong f → IsStrongFor K f
strong_for K f s = record { weak = s.weak; counted = λ j _. s.counted j; named = λ j _. s.named j; none_past = s.none_past; single_needed = s.single_needed }

-- the same, but for where the sectors of inode p stand
pub record IsStrongBut (K : ℕ → Type 0) (p : ℕ) (f : Frame) : Type 0 where
  pub weak : IsWeak f
  pub counted : (j : ℕ) → K j → (f.head j).is_used ≡ true → (f.head j).nlink ≡ links (tree f) j
  pub named : (j : ℕ) → K j → (f.head j).is_used ≡ true → is_named (tree f) j ≡ true
  pub none_past : (j k : ℕ) → j ≢ p → sectors_of (f.head j).size ≤ k → f.address j (Body k) ≡ 0
  pub single_needed : (j : ℕ) → j ≢ p → f.address j Single ≢ 0 → list_any (λ k. not (f.address j (Body k) == 0)) (range_with_len 10 128) ≡ true

-- the inode that was left out counts its links, or is free
pub strong_of : (i : ℕ) (f : Frame) → IsStrongFor (λ j. j ≢ i) f → ((f.head i).is_used ≡ true → ((f.head i).nlink ≡ links (tree f) i) × (is_named (tree f) i ≡ true)) → IsStrong f
strong_of i f s here = record {
  weak = s.weak;
  counted = each i (λ j. (f.head j).is_used ≡ true → (f.head j).nlink ≡ links (tree f) j) (λ u. (here u).0) s.counted;
  named = each i (λ j. (f.head j).is_used ≡ true → is_named (tree f) j ≡ true) (λ u. (here u).1) s.named;
  none_past = s.none_past;
  single_needed = s.single_needed;
}

-- the inode's put keeps that of all others
pub strong_for_local : (i : ℕ) (K : ℕ → Type 0) (f g : Frame) → ((j : ℕ) → K j → j ≢ i) → IsStrongFor K f → IsWeak g → Elsewhere i f g → tree g ≡ tree f → ((k : ℕ) → sectors_of (g.head i).size ≤ k → g.address i (Body k) ≡ 0)
    → (g.address i Single ≢ 0 → list_any (λ k. not (g.address i (Body k) == 0)) (range_with_len 10 128) ≡ true) → IsStrongFor K g
strong_for_local i K f g apart s weak but same past single = record {
  weak = weak;
  counted = λ j l u. let ne = apart j l in ap (λ (h : Head). h.nlink) (but.heads j ne) ∙ s.counted j l (ap (λ (h : Head). h.is_used) (sym (but.heads j ne)) ∙ u) ∙ ap (λ t. links t j) (sym same);
  named = λ j l u. let ne = apart j l in ap (λ t. is_named t j) same ∙ s.named j l (ap (λ (h : Head). h.is_used) (sym (but.heads j ne)) ∙ u);
  none_past = each i (λ j. (k : ℕ) → sectors_of (g.head j).size ≤ k → g.address j (Body k) ≡ 0) past
      (λ j ne k le. but.addresses j ne (Body k) ∙ s.none_past j k (subst (λ (h : Head). sectors_of h.size ≤ k) (but.heads j ne) le));
  single_needed = each i (λ j. g.address j Single ≢ 0 → list_any (λ k. not (g.address j (Body k) == 0)) (range_with_len 10 128) ≡ true) single
      (λ j ne nz. (λ z. list_any (λ k. not (but.addresses j ne (Body k) z == 0)) (range_with_len 10 128)) ∙ s.single_needed j (λ z. nz (but.addresses j ne Single ∙ z)));
}
