-- A frame that is another one but for one inode: Weak and Strong move along.
use Rattle.std.proofs.Common.{◌≡◌, ◌≢◌, ℕ, ◌<◌, ◌≤◌, true, false, not, ◌==◌, sym, ap, subst, ◌∙◌, arith, ⊎_elim}
use Rattle.std.proofs.lemmas.Bool.{cases_eq}
use Rattle.std.specs.List.{range_with_len, list_any}
use Rattle.files_model.specs.Files.{sectors_of}
use Rattle.v7_map.specs.Frame.{Frame, Head, Place, Body, Single, Double, is_directory}
use Rattle.v7_map.specs.Tree.{Tree, tree, is_walked, is_named, links}
use Rattle.v7_sets.specs.Sets.{IsFreeBlock}
use Rattle.v7_map.specs.Weak.{IsWeak, IsStrong, IsGood, HasSizes, IsTree, HasDots, slot_at}

pub record ButOne (i : ℕ) (f g : Frame) : Type 0 where
  pub sectors : g.sectors ≡ f.sectors
  pub mark : g.mark ≡ f.mark
  pub isize : g.isize ≡ f.isize
  pub fsize : g.fsize ≡ f.fsize
  pub heads : (j : ℕ) → j ≢ i → g.head j ≡ f.head j
  pub addresses : (j : ℕ) → j ≢ i → (p : Place) → g.address j p ≡ f.address j p
  pub tree : tree g ≡ tree f

-- a data block that no other inode has
pub record IsMine (f : Frame) (i a : ℕ) : Type 0 where
  pub low : f.isize ≤ a
  pub high : a < f.fsize
  pub others : (j : ℕ) → j ≢ i → (p : Place) → f.address j p ≢ a

pub free-mine : (f : Frame) (i a : ℕ) → IsFreeBlock f a → IsMine f i a
free-mine f i a free = record { low = free.low; high = free.high; others = λ j ne p. free.nowhere j p }

pub held-mine : (f : Frame) (i : ℕ) (p : Place) → IsWeak f → f.address i p ≢ 0 → IsMine f i (f.address i p)
held-mine f i p weak nonzero = let d = weak.data_block i p nonzero in record {
  low = d.0;
  high = d.1;
  others = λ j ne q e. ne (weak.unshared j i q p (λ z. nonzero (sym e ∙ z)) e).0;
}

-- what the one inode, a file or link, is in the other frame
pub record IsFileIn (f g : Frame) (i : ℕ) : Type 0 where
  pub used : (g.head i).is_used ≡ true
  pub good : IsGood (g.head i)
  pub file : is_directory (g.head i) ≡ false
  pub mine : (p : Place) → g.address i p ≢ 0 → IsMine f i (g.address i p)
  pub apart : (p q : Place) → g.address i p ≢ 0 → g.address i p ≡ g.address i q → p ≡ q
  pub no_double : g.address i Double ≡ 0

module _ (i : ℕ) (f g : Frame) (weak : IsWeak f) (but : ButOne i f g) (not_first : i ≢ 1) (not_root : i ≢ 2) (is : IsFileIn f g i) where
  each : (P : ℕ → Type 0) → P i → ((j : ℕ) → j ≢ i → P j) → (j : ℕ) → P j
  each P here there j = ⊎_elim (λ (e : j ≡ i). subst P (sym e) here) (λ (ne : j ≢ i). there j ne) (cases_eq j i)

  sizes : HasSizes g
  sizes = let s = weak.sizes in let a = but.sectors in let b = but.mark in let c = but.isize in let d = but.fsize in record {
    mark = b ∙ s.mark;
    low = subst (λ z. 3 ≤ z) (sym c) s.low;
    high = subst (λ z. z ≤ 8193) (sym c) s.high;
    above = let x = s.above in omega arith;
    within = let x = s.within in omega arith;
    not_huge = let x = s.not_huge in omega arith;
  }

  names : IsTree g (tree g)
  names = let t = weak.names in record {
    dots = subst (λ u. (d : ℕ) → is_walked u d ≡ true → HasDots u d) (sym but.tree) t.dots;
    used = λ d k j name walked at. (
      each (λ j. (f.head j).is_used ≡ true → (g.head j).is_used ≡ true) (λ _. is.used) (λ j ne u. ap (λ (h : Head). h.is_used) (but.heads j ne) ∙ u) j
          (t.used d k j name (ap (λ u. is_walked u d) (sym but.tree) ∙ walked) (ap (λ u. slot_at u d k) (sym but.tree) ∙ at)).0,
      (t.used d k j name (ap (λ u. is_walked u d) (sym but.tree) ∙ walked) (ap (λ u. slot_at u d k) (sym but.tree) ∙ at)).1,
    );
    linked = subst (λ u. (i : ℕ) → links u i ≤ 65535) (sym but.tree) t.linked;
    one_slot = λ d e k l j name other wd we k2 l2 dir at at'. let u = sym but.tree in
        t.one_slot d e k l j name other (ap (λ u. is_walked u d) u ∙ wd) (ap (λ u. is_walked u e) u ∙ we) k2 l2 (ap (λ (u : Tree). u.is_dir j) u ∙ dir)
        (ap (λ u. slot_at u d k) u ∙ at) (ap (λ u. slot_at u e l) u ∙ at');
  }

  pub weak_but_one : IsWeak g
  weak_but_one = record {
    sizes = sizes;
    first = ap (λ (h : Head). h.is_used) (but.heads 1 (λ e. not_first (sym e))) ∙ weak.first;
    root = ap is_directory (but.heads 2 (λ e. not_root (sym e))) ∙ weak.root;
    good = each (λ j. (g.head j).is_used ≡ true → IsGood (g.head j)) (λ _. is.good)
        (λ j ne u. subst IsGood (sym (but.heads j ne)) (weak.good j (ap (λ (h : Head). h.is_used) (sym (but.heads j ne)) ∙ u)));
    data_block = each (λ j. (p : Place) → g.address j p ≢ 0 → (g.isize ≤ g.address j p) × (g.address j p < g.fsize))
        (λ p nz. let m = is.mine p nz in (subst (λ z. z ≤ g.address i p) (sym but.isize) m.low, subst (λ z. g.address i p < z) (sym but.fsize) m.high))
        (λ j ne p nz. let e = but.addresses j ne p in let d = weak.data_block j p (λ z. nz (e ∙ z)) in
        (subst (λ z. z ≤ g.address j p) (sym but.isize) (subst (λ z. f.isize ≤ z) (sym e) d.0), subst (λ z. g.address j p < z) (sym but.fsize) (subst (λ z. z < f.fsize) (sym e) d.1)));
    needed = each (λ j. (k : ℕ) → is_directory (g.head j) ≡ true → k < sectors_of (g.head j).size → g.address j (Body k) ≢ 0)
        (λ k dir lt z. let no = is.file in cc)
        (λ j ne k dir lt z. weak.needed j k (ap is_directory (sym (but.heads j ne)) ∙ dir) (subst (λ (h : Head). k < sectors_of h.size) (but.heads j ne) lt) (sym (but.addresses j ne (Body k)) ∙ z));
    no_double = each (λ j. g.address j Double ≡ 0) is.no_double (λ j ne. but.addresses j ne Double ∙ weak.no_double j);
    unshared = λ j l p q. ⊎_elim
        (λ (e : j ≡ i). ⊎_elim
        (λ (e' : l ≡ i) nz same. (e ∙ sym e', is.apart p q (λ z. nz (ap (λ m. g.address m p) e ∙ z)) (ap (λ m. g.address m p) (sym e) ∙ same ∙ ap (λ m. g.address m q) e')))
        (λ (ne : l ≢ i) nz same. absurd ((is.mine p (λ z. nz (ap (λ m. g.address m p) e ∙ z))).others l ne q (sym (but.addresses l ne q) ∙ sym same ∙ ap (λ m. g.address m p) e)))
        (cases_eq l i))
        (λ (ne : j ≢ i). ⊎_elim
        (λ (e' : l ≡ i) nz same. absurd ((is.mine q (λ z. nz (same ∙ ap (λ m. g.address m q) e' ∙ z))).others j ne p (sym (but.addresses j ne p) ∙ same ∙ ap (λ m. g.address m q) e')))
        (λ (ne' : l ≢ i) nz same. weak.unshared j l p q (λ z. nz (but.addresses j ne p ∙ z)) (sym (but.addresses j ne p) ∙ same ∙ but.addresses l ne' q))
        (cases_eq l i))
        (cases_eq j i);
    names = names;
  }

  -- Strong: the stored link count stays that of the tree, and nothing stands past the size
  pub strong_but_one : IsStrong f → (f.head i).is_used ≡ true → (g.head i).nlink ≡ (f.head i).nlink → ((k : ℕ) → sectors_of (g.head i).size ≤ k → g.address i (Body k) ≡ 0)
      → (g.address i Single ≢ 0 → list_any (λ k. not (g.address i (Body k) == 0)) (range_with_len 10 128) ≡ true) → IsStrong g
  strong_but_one strong used nlink past single = record {
    weak = weak_but_one;
    counted = each (λ j. (g.head j).is_used ≡ true → (g.head j).nlink ≡ links (tree g) j)
        (λ _. nlink ∙ strong.counted i used ∙ ap (λ t. links t i) (sym but.tree))
        (λ j ne u. ap (λ (h : Head). h.nlink) (but.heads j ne) ∙ strong.counted j (ap (λ (h : Head). h.is_used) (sym (but.heads j ne)) ∙ u) ∙ ap (λ t. links t j) (sym but.tree));
    named = each (λ j. (g.head j).is_used ≡ true → is_named (tree g) j ≡ true)
        (λ _. ap (λ t. is_named t i) but.tree ∙ strong.named i used)
        (λ j ne u. ap (λ t. is_named t j) but.tree ∙ strong.named j (ap (λ (h : Head). h.is_used) (sym (but.heads j ne)) ∙ u));
    none_past = each (λ j. (k : ℕ) → sectors_of (g.head j).size ≤ k → g.address j (Body k) ≡ 0) past
        (λ j ne k le. but.addresses j ne (Body k) ∙ strong.none_past j k (subst (λ (h : Head). sectors_of h.size ≤ k) (but.heads j ne) le));
    single_needed = each (λ j. g.address j Single ≢ 0 → list_any (λ k. not (g.address j (Body k) == 0)) (range_with_len 10 128) ≡ true) single
        (λ j ne nz. (λ z. list_any (λ k. not (but.addresses j ne (Body k) z == 0)) (range_with_len 10 128)) ∙ strong.single_needed j (λ z. nz (but.addresses j ne Single ∙ z)));
  }

pub but_one-trans : (i : ℕ) (f g h : Frame) → ButOne i f g → ButOne i g h → ButOne i f h
but_one-trans i f g h a b = record {
  sectors = b.sectors ∙ a.sectors;
  mark = b.mark ∙ a.mark;
  isize = b.isize ∙ a.isize;
  fsize = b.fsize ∙ a.fsize;
  heads = λ j ne. b.heads j ne ∙ a.heads j ne;
  addresses = λ j ne p. b.addresses j ne p ∙ a.addresses j ne p;
  tree = b.tree ∙ a.tree;
}

pub but_one-same : (i : ℕ) (f g : Frame) → g ≡ f → ButOne i f g
but_one-same i f g e = record {
  sectors = ap (λ (x : Frame). x.sectors) e;
  mark = ap (λ (x : Frame). x.mark) e;
  isize = ap (λ (x : Frame). x.isize) e;
  fsize = ap (λ (x : Frame). x.fsize) e;
  heads = λ j _. ap (λ (x : Frame). x.head j) e;
  addresses = λ j _ p. ap (λ (x : Frame). x.address j p) e;
  tree = ap tree e;
}

-- mine of the one frame is mine of the other
pub but_one-mine : (i : ℕ) (f g : Frame) (a : ℕ) → ButOne i f g → IsMine f i a → IsMine g i a
but_one-mine i f g a but mine = record {
  low = subst (λ z. z ≤ a) (sym but.isize) mine.low;
  high = subst (λ z. a < z) (sym but.fsize) mine.high;
  others = λ j ne p e. mine.others j ne p (sym (but.addresses j ne p) ∙ e);
}
