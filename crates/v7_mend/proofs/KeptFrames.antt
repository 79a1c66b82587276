-- An image whose inodes are kept or freed by a repair can be mended still.
use Rattle.std.proofs.Common.{◌≡◌, ◌≢◌, ℕ, zero, suc, ◌+◌, ◌*◌, ◌/◌, ◌%◌, ◌<◌, ◌≤◌, Bool, true, false, cond, not, ◌==◌, ◌||◌, List, [], ◌∷◌, map, drop, get_or, refl, sym, ap, subst, ◌∙◌, arith, ⊎_elim, eq-eqb, Some, None}
use Rattle.std.proofs.lemmas.Bool.{cases_eq, lt-ltb}
use Rattle.std.proofs.lemmas.List.Sums.{sum_by-append}
use Rattle.std.specs.List.{range_with_len, list_any, count_by, flat_map}
use Rattle.v7_layout.specs.declared.inode.Inode.{Inode}
use Rattle.v7_layout.specs.Numbers.{part, field}
use Rattle.files_model.specs.Files.{Slot, sectors_of}
use Rattle.stable.specs.Store.{Image}
use Rattle.v7_map.specs.Image.{sector_at, inode_at, inodes_before}
use Rattle.v7_map.specs.Frame.{Frame, Place, Body, Double, head_of, is_directory, slot_of, slot_in, slots_of, frame}
use Rattle.v7_map.specs.Tree.{root, tree, is_walked, is_named, is_child, links, seen_in, seen_slots, is_slot_of, number_in}
use Rattle.v7_map.specs.Weak.{HasSizes, IsTree, HasDots, IsWeak, slot_at, parent}
use Rattle.v7_map.proofs.Frames.{cond_same, map_range_same}
use Rattle.v7_map.proofs.AnyFrame.{frame-IsFrame}
use Rattle.v7_map.proofs.Used.{walked_is_dir}
use Rattle.v7_map.proofs.Walks.{or_left, or_right, or_cases, walked_reached, reached_walked}
use Rattle.v7_map.proofs.SlotLists.{count_cons, count_one, In-get_or}
use Rattle.v7_map.proofs.Members.{any_in}
use Rattle.v7_mend.specs.Keeps.{KeepsInode, FreesInode, KeepsFiles}
use Rattle.v7_mend.proofs.Trees.{IsPruned, pruned-is_walked, pruned-links, pruned-is_named}

clash : (b : Bool) → b ≡ true → b ≡ false → ⊥
clash true t f = absurd (cc)
clash false t f = absurd (cc)

-- something passes in a list that has a member which does
count_member : (p : Slot → Bool) (xs : List Slot) → list_any p xs ≡ true → 0 < count_by p xs
count_member p [] e = absurd (cc)
count_member p (x ∷ xs) e = let c = count_cons p x xs in ⊎_elim
    (λ (h : p x ≡ true). let o = count_one p x h in omega arith)
    (λ (h : list_any p xs ≡ true). let r = count_member p xs h in omega arith)
    (or_cases (p x) (list_any p xs) e)

flat_member : (p : Slot → Bool) (g : ℕ → List Slot) (d a n : ℕ) → a ≤ d → d < a + n → 0 < count_by p (g d) → 0 < count_by p (flat_map g (range_with_len a n))
flat_member p g d a zero low high some = absurd (omega arith)
flat_member p g d a (suc n) low high some =
    let e = sum_by-append (λ y. cond (p y) 1 0) (g a) (flat_map g (range_with_len (a + 1) n)) in
    ⊎_elim
    (λ (here : d ≡ a). let h : 0 < count_by p (g a) = subst (λ q. 0 < count_by p (g q)) here some in omega arith)
    (λ (there : d ≢ a). let h = flat_member p g d (a + 1) n (omega arith) (omega arith) some in omega arith)
    (cases_eq d a)

-- what a slot of a walked directory names is named
pub slot_linked : (f : Frame) (d k i : ℕ) (name : List ℕ) → is_walked (tree f) d ≡ true → (1 ≤ d) × (d < 1 + (tree f).inodes) → slot_at (tree f) d k ≡ Some (i, name) → 0 < links (tree f) i
unfolding links
slot_linked f d k i name v within at =
    let here : seen_in (tree f) 0 d ≡ seen_slots (tree f) d = ap (λ b. cond b (drop 0 (seen_slots (tree f) d)) []) v in
    let some : 0 < count_by (is_slot_of i) (seen_slots (tree f) d) = count_member (is_slot_of i) (seen_slots (tree f) d) (any_in (is_slot_of i) (Some (i, name)) (seen_slots (tree f) d) (In-get_or (seen_slots (tree f) d) 0 k (i, name) (omega arith) at) (eq-eqb i i refl)) in
    flat_member (is_slot_of i) (seen_in (tree f) 0) d 1 (tree f).inodes within.0 within.1 (subst (λ s. 0 < count_by (is_slot_of i) s) (sym here) some)

slot_named : (f : Frame) (d k i : ℕ) (name : List ℕ) → is_walked (tree f) d ≡ true → (1 ≤ d) × (d < 1 + (tree f).inodes) → slot_at (tree f) d k ≡ Some (i, name) → is_named (tree f) i ≡ true
slot_named f d k i name v within at = let some = slot_linked f d k i name v within at in or_right (is_walked (tree f) i) _ (lt-ltb 0 (links (tree f) i) some)

module _ (old new : Image) (weak : IsWeak (frame old)) (keeps : KeepsFiles old new) where
  numbers : (i : ℕ) → (tree (frame old)).is_dir i ≡ true → (1 ≤ i) × (i < 1 + (tree (frame old)).inodes)
  numbers i dir = let is = frame-IsFrame old in let r = is.numbers i (is.directories i dir) in let high = r.1 in (r.0, omega arith)

  pub kept-type : (i : ℕ) → KeepsInode old new i → ((frame new).head i).type ≡ ((frame old).head i).type
  unfolding frame
  kept-type i k = ap (λ (n : Inode). n.mode / 4096) k.bare

  pub kept-size : (i : ℕ) → KeepsInode old new i → ((frame new).head i).size ≡ ((frame old).head i).size
  unfolding frame
  kept-size i k = ap (λ (n : Inode). n.size) k.bare

  pub kept-used : (i : ℕ) → KeepsInode old new i → ((frame new).head i).is_used ≡ ((frame old).head i).is_used
  unfolding frame
  kept-used i k = ap (λ (n : Inode). not (n.mode == 0)) k.bare

  pub kept-dir : (i : ℕ) → KeepsInode old new i → is_directory ((frame new).head i) ≡ is_directory ((frame old).head i)
  kept-dir i k = ap (λ t. t == 4) (kept-type i k)

  pub freed-used : (i : ℕ) → FreesInode old new i → ((frame new).head i).is_used ≡ false
  unfolding frame
  freed-used i f = ap (λ (m : ℕ). not (m == 0)) f.free

  pub freed-dir : (i : ℕ) → FreesInode old new i → is_directory ((frame new).head i) ≡ false
  unfolding frame
  freed-dir i f = ap (λ (m : ℕ). (m / 4096) == 4) f.free

  pub freed-address : (i : ℕ) (p : Place) → FreesInode old new i → (frame new).address i p ≡ 0
  freed-address i p f = ⊎_elim (λ (z : (frame new).address i p ≡ 0). z)
      (λ (nz : (frame new).address i p ≢ 0). absurd (clash _ ((frame-IsFrame new).places i p nz).0 (freed-used i f)))
      (cases_eq ((frame new).address i p) 0)

  -- a directory that is kept has its slots
  kept-slots : (i : ℕ) → KeepsInode old new i → (frame new).slots i ≡ (frame old).slots i
  unfolding frame slots_of
  kept-slots i k =
      (λ z. cond (kept-dir i k z) (map (slot_in new (head_of (inode_at new i))) (range_with_len 0 (kept-size i k z / 16))) [])
      ∙ cond_same (is_directory (head_of (inode_at old i))) _ _ [] (λ dir. map_range_same (slot_in new (head_of (inode_at new i))) (slot_in old (head_of (inode_at old i))) 0 ((inode_at old i).size / 16) (λ n lt.
      ap (λ a. slot_of (part (sector_at new a) (16 * (n % 32)) 16)) (k.below (n / 32) (omega arith))
      ∙ ap (λ b. slot_of (part b (16 * (n % 32)) 16)) (k.contents (n / 32) (omega arith) (weak.needed i (n / 32) dir (omega arith)))))

  same_isize : (frame new).isize ≡ (frame old).isize
  unfolding frame
  same_isize = ap (λ b. field b 0 2) keeps.first

  same_fsize : (frame new).fsize ≡ (frame old).fsize
  unfolding frame
  same_fsize = ap (λ b. field b 2 4) keeps.first

  same_inodes : (tree (frame new)).inodes ≡ (tree (frame old)).inodes
  same_inodes = ap inodes_before same_isize

  below_size : (i k : ℕ) (u : KeepsInode old new i) → k < sectors_of ((frame old).head i).size → (frame new).address i (Body k) ≡ (frame old).address i (Body k)
  unfolding frame
  below_size i k u lt = u.below k lt

  pub keeps-pruned : IsPruned (tree (frame old)) (tree (frame new))
  keeps-pruned = record {
    inodes = same_inodes;
    dirs = λ i named. ⊎_elim (λ (k : KeepsInode old new i). kept-dir i k) (λ (f : FreesInode old new i). absurd (clash _ named f.unnamed)) (keeps.inodes i);
    fewer = λ i dir. ⊎_elim (λ (k : KeepsInode old new i). sym (kept-dir i k) ∙ dir) (λ (f : FreesInode old new i). absurd (clash _ dir (freed-dir i f))) (keeps.inodes i);
    slots = λ i named. ⊎_elim (λ (k : KeepsInode old new i). kept-slots i k) (λ (f : FreesInode old new i). absurd (clash _ named f.unnamed)) (keeps.inodes i);
  }

  pub keeps-walked : (i : ℕ) → is_walked (tree (frame new)) i ≡ is_walked (tree (frame old)) i
  keeps-walked = pruned-is_walked (tree (frame old)) (tree (frame new)) keeps-pruned numbers

  -- each inode has as many names
  pub keeps-links : (i : ℕ) → links (tree (frame new)) i ≡ links (tree (frame old)) i
  keeps-links = pruned-links (tree (frame old)) (tree (frame new)) keeps-pruned numbers

  pub keeps-named : (i : ℕ) → is_named (tree (frame new)) i ≡ is_named (tree (frame old)) i
  keeps-named = pruned-is_named (tree (frame old)) (tree (frame new)) keeps-pruned numbers

  -- what a name leads to is kept
  pub named_kept : (i : ℕ) → is_named (tree (frame old)) i ≡ true → KeepsInode old new i
  named_kept i named = ⊎_elim (λ (k : KeepsInode old new i). k) (λ (f : FreesInode old new i). absurd (clash _ named f.unnamed)) (keeps.inodes i)

  walked_number : (d : ℕ) → is_walked (tree (frame old)) d ≡ true → (1 ≤ d) × (d < 1 + (tree (frame old)).inodes)
  walked_number d v = numbers d (walked_is_dir {t = tree (frame old)} (walked_reached (tree (frame old)) d v))

  used_kept : (i : ℕ) → ((frame new).head i).is_used ≡ true → KeepsInode old new i
  used_kept i used = ⊎_elim (λ (k : KeepsInode old new i). k) (λ (f : FreesInode old new i). absurd (clash _ used (freed-used i f))) (keeps.inodes i)

  address_kept : (i : ℕ) (p : Place) → (frame new).address i p ≢ 0 → (frame new).address i p ≡ (frame old).address i p
  address_kept i p nz = (used_kept i ((frame-IsFrame new).places i p nz).0).places p nz

  walked_slots : (d : ℕ) → is_walked (tree (frame old)) d ≡ true → seen_slots (tree (frame new)) d ≡ seen_slots (tree (frame old)) d
  walked_slots d w = kept-slots d (named_kept d (or_left _ _ w))

  -- a slot of a walked directory names its inode
  linked_named : (d k i : ℕ) (name : List ℕ) → is_walked (tree (frame old)) d ≡ true → slot_at (tree (frame old)) d k ≡ Some (i, name) → is_named (tree (frame old)) i ≡ true
  linked_named d k i name v at = slot_named (frame old) d k i name v (walked_number d v) at

  same_dots : (d : ℕ) → is_walked (tree (frame old)) d ≡ true → HasDots (tree (frame old)) d → HasDots (tree (frame new)) d
  same_dots d v dots =
      let slot = λ (k : ℕ). ap (λ s. get_or s k None) (walked_slots d v) in
      let up : parent (tree (frame new)) d ≡ parent (tree (frame old)) d = ap number_in (slot 1) in
      record {
        self = slot 0 ∙ dots.self;
        up = slot 1 ∙ dots.up ∙ ap (λ p. Some (p, 46 ∷ 46 ∷ [])) (sym up);
        root = λ e. up ∙ dots.root e;
        walked = keeps-walked (parent (tree (frame new)) d) ∙ ap (is_walked (tree (frame old))) up ∙ dots.walked;
        child = λ ne. ap (λ p. is_child (tree (frame new)) p d) up ∙ ap (λ s. list_any (is_slot_of d) (drop 2 s)) (walked_slots (parent (tree (frame old)) d) dots.walked) ∙ dots.child ne;
      }

  keeps-names : IsTree (frame new) (tree (frame new))
  keeps-names = let names = weak.names in record {
    dots = λ d w. let v : is_walked (tree (frame old)) d ≡ true = sym (keeps-walked d) ∙ w in same_dots d v (names.dots d v);
    used = λ d k i name w at.
        let v : is_walked (tree (frame old)) d ≡ true = sym (keeps-walked d) ∙ w in
        let at' : slot_at (tree (frame old)) d k ≡ Some (i, name) = at_old d k i name v at in
        let u = names.used d k i name v at' in
        (kept-used i (named_kept i (linked_named d k i name v at')) ∙ u.0, u.1);
    linked = λ i. subst (λ n. n ≤ 65535) (sym (keeps-links i)) (names.linked i);
    one_slot = λ d e k l i name other w x low low' dir at at'.
        let v : is_walked (tree (frame old)) d ≡ true = sym (keeps-walked d) ∙ w in
        let y : is_walked (tree (frame old)) e ≡ true = sym (keeps-walked e) ∙ x in
        names.one_slot d e k l i name other v y low low' (keeps-pruned.fewer i dir) (at_old d k i name v at) (at_old e l i other y at');
  }
    where
      at_old : (d k i : ℕ) (name : List ℕ) → is_walked (tree (frame old)) d ≡ true → slot_at (tree (frame new)) d k ≡ Some (i, name) → slot_at (tree (frame old)) d k ≡ Some (i, name)
      at_old d k i name v at = ap (λ s. get_or s k None) (sym (walked_slots d v)) ∙ at

  pub keeps-sizes : HasSizes (frame new)
  unfolding frame
  keeps-sizes =
      let s = weak.sizes in
      let m : (frame new).mark ≡ (frame old).mark = ap (λ b. field b 440 4) keeps.first in
      let i : (frame new).isize ≡ (frame old).isize = ap (λ b. field b 0 2) keeps.first in
      let f : (frame new).fsize ≡ (frame old).fsize = ap (λ b. field b 2 4) keeps.first in
      record {
        mark = m ∙ s.mark;
        low = subst (λ z. 3 ≤ z) (sym i) s.low;
        high = subst (λ z. z ≤ 8193) (sym i) s.high;
        above = subst (λ z. z < (frame new).fsize) (sym i) (subst (λ z. (frame old).isize < z) (sym f) s.above);
        within = subst (λ z. z ≤ (frame new).sectors) (sym f) (subst (λ z. (frame old).fsize ≤ z) (sym keeps.length) s.within);
        not_huge = subst (λ z. z ≤ 1048576) (sym f) s.not_huge;
      }

  pub keeps-weak : IsWeak (frame new)
  keeps-weak = record {
    sizes = keeps-sizes;
    first = ⊎_elim (λ (k : KeepsInode old new 1). kept-used 1 k ∙ weak.first) (λ (f : FreesInode old new 1). freed-used 1 f) (keeps.inodes 1);
    root = kept-dir 2 (named_kept 2 root_named) ∙ weak.root;
    good = λ i used. let k = used_kept i used in let g = weak.good i (sym (kept-used i k) ∙ used) in record {
      kind = (λ z. (kept-type i k z == 4) || ((kept-type i k z == 8) || (kept-type i k z == 10))) ∙ g.kind;
      length = subst (λ n. n ≤ 70656) (sym (kept-size i k)) g.length;
      link = λ e. subst (λ n. n ≤ 1024) (sym (kept-size i k)) (g.link (sym (kept-type i k) ∙ e));
      directory = λ e. subst (λ n. (32 ≤ n) × (n % 16 ≡ 0)) (sym (kept-size i k)) (g.directory (sym (kept-type i k) ∙ e));
    };
    data_block = λ i p nz. let e = address_kept i p nz in let d = weak.data_block i p (λ z. nz (e ∙ z)) in
        (subst (λ n. n ≤ (frame new).address i p) (sym same_isize) (subst (λ a. (frame old).isize ≤ a) (sym e) d.0), subst (λ n. (frame new).address i p < n) (sym same_fsize) (subst (λ a. a < (frame old).fsize) (sym e) d.1));
    needed = λ i k dir lt z. let u = used_kept i ((frame-IsFrame new).directories i dir) in
        let lt' : k < sectors_of ((frame old).head i).size = subst (λ n. k < sectors_of n) (kept-size i u) lt in
        weak.needed i k (sym (kept-dir i u) ∙ dir) lt' (sym (below_size i k u lt') ∙ z);
    no_double = λ i. ⊎_elim (λ (z : (frame new).address i Double ≡ 0). z) (λ (nz : (frame new).address i Double ≢ 0). address_kept i Double nz ∙ weak.no_double i) (cases_eq ((frame new).address i Double) 0);
    unshared = λ i j p q nz same.
        let e = address_kept i p nz in let e' = address_kept j q (λ z. nz (same ∙ z)) in
        weak.unshared i j p q (λ z. nz (e ∙ z)) (sym e ∙ same ∙ e');
    names = keeps-names;
  }
    where
      root_named : is_named (tree (frame old)) 2 ≡ true
      root_named = or_left _ _ (reached_walked (tree (frame old)) numbers (root weak.root))
