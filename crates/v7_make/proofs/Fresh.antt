-- A volume that was just made has nothing to mend, and the root alone.
use Rattle.std.proofs.Common.{◌≡◌, ◌≢◌, ℕ, zero, suc, ◌+◌, ◌-◌, ◌<◌, ◌≤◌, Bool, true, false, cond, not, ◌==◌, ◌||◌, List, [], ◌∷◌, ◌++◌, drop, get_or, replicate, refl, sym, ap, subst, ◌∙◌, arith, ⊎_elim, eqb, ltb, Some, None}
use Rattle.std.proofs.lemmas.Bool.{cases_eq, cases_Bool, ne_eqb}
use Rattle.std.proofs.lemmas.List.Sums.{sum_by-append}
use Rattle.std.specs.FinMap.{empty, insert}
use Rattle.std.specs.List.{range_with_len, count_by, flat_map}
use Rattle.v7_layout.specs.declared.inode.Inode.{Inode}
use Rattle.v7_layout.specs.Numbers.{part, field}
use Rattle.v7_layout.specs.Records.{inode_of}
use Rattle.files_model.specs.Files.{Slot, Node, sectors_of, tabulated}
use Rattle.files_model.proofs.Maps.{tabulated_but_one}
use Rattle.stable.specs.Store.{Image}
use Rattle.v7_map.specs.Image.{isize_of, inode_at, inodes_before}
use Rattle.v7_map.specs.Frame.{Frame, Head, Place, Body, Single, Double, head_of, address_of, slots_of, is_directory, frame}
use Rattle.v7_map.specs.Tree.{Tree, root, tree, is_walked, is_named, links, seen_in, seen_slots, is_slot_of, number_in}
use Rattle.v7_map.specs.Weak.{IsWeak, IsStrong, IsTree, IsGood, HasDots, slot_at}
use Rattle.v7_map.specs.View.{view, files_of, node_of, body_at, body_of, held}
use Rattle.v7_map.proofs.AnyFrame.{frame-IsFrame}
use Rattle.v7_map.proofs.Used.{walked_is_dir}
use Rattle.v7_map.proofs.Walks.{walked_reached, reached_walked, or_left}
use Rattle.v7_make.specs.Made.{root_inode, root_slots, root_node, made_files, IsFresh}
use Rattle.v7_make.proofs.Lowest.{zeros_everywhere}

flat_none : (p : Slot → Bool) (g : ℕ → List Slot) (a n : ℕ) → ((x : ℕ) → a ≤ x → g x ≡ []) → count_by p (flat_map g (range_with_len a n)) ≡ 0
flat_none p g a zero none = refl
flat_none p g a (suc n) none =
    let r = flat_none p g (a + 1) n (λ x le. none x (omega (arith, le))) in
    ap (λ l. count_by p (l ++ flat_map g (range_with_len (a + 1) n))) (none a (omega arith)) ∙ r

flat_only : (p : Slot → Bool) (g : ℕ → List Slot) (d a n : ℕ) → ((x : ℕ) → x ≢ d → g x ≡ []) → a ≤ d → d < a + n → count_by p (flat_map g (range_with_len a n)) ≡ count_by p (g d)
flat_only p g d a zero none low high = absurd (omega (arith, low, high))
flat_only p g d a (suc n) none low high = ⊎_elim
    (λ (e : a ≡ d).
    let s = sum_by-append (λ y. cond {A = ℕ} (p y) 1 0) (g a) (flat_map g (range_with_len (a + 1) n)) in
    let z = flat_none p g (a + 1) n (λ x le. none x (λ q. omega (arith, le, q, e))) in
    let h : count_by p (g a) ≡ count_by p (g d) = ap (λ q. count_by p (g q)) e in
    omega (arith, s, z, h))
    (λ (ne : a ≢ d). ap (λ l. count_by p (l ++ flat_map g (range_with_len (a + 1) n))) (none a ne) ∙ flat_only p g d (a + 1) n none (omega (arith, low, ne)) (omega (arith, high)))
    (cases_eq a d)

abbrev name_in : Slot → List ℕ
name_in None = []
name_in (Some e) = e.1

some_name : (b : ℕ) (bs : List ℕ) → b ∷ bs ≡ [] → ⊥
some_name b bs e = absurd (cc)

tabulated_none : (n : ℕ) → tabulated {X = Node} (λ i. None) n ≡ empty
unfolding tabulated
tabulated_none zero = refl
tabulated_none (suc n) = tabulated_none n

-- an inode of zeros
none_mode : (inode_of []).mode ≡ 0
unfolding inode_of field part
none_mode = refl

none_generation : (inode_of []).generation ≡ 0
unfolding inode_of field part
none_generation = refl

module _ (image : Image) (now : ℕ) (fresh : IsFresh image now) where
  abbrev f : Frame
  f = frame image

  abbrev t : Tree
  t = tree (frame image)

  head_root : f.head 2 ≡ head_of (root_inode (isize_of image) now)
  unfolding frame
  head_root = ap head_of fresh.root

  not_used : (i : ℕ) → i ≢ 2 → (f.head i).is_used ≡ false
  unfolding frame
  not_used i ne = ap (λ (m : ℕ). not (m == 0)) (ap (λ (n : Inode). n.mode) (fresh.empty i ne) ∙ none_mode)

  used_root : (i : ℕ) → (f.head i).is_used ≡ true → i ≡ 2
  used_root i used = ⊎_elim (λ (e : i ≡ 2). e) (λ (ne : i ≢ 2). absurd (differ _ used (not_used i ne))) (cases_eq i 2)
    where
      differ : (b : Bool) → b ≡ true → b ≡ false → ⊥
      differ true t f = absurd (cc)
      differ false t f = absurd (cc)

  dir_root : is_directory (f.head 2) ≡ true
  dir_root = ap is_directory head_root

  dir_only : (i : ℕ) → t.is_dir i ≡ true → i ≡ 2
  dir_only i dir = used_root i ((frame-IsFrame image).directories i dir)

  -- the root's block is its only one
  address_first : f.address 2 (Body 0) ≡ isize_of image
  unfolding frame address_of
  address_first = ap (λ n. address_of image (head_of n) (Body 0)) fresh.root

  address_else : (p : Place) → p ≢ Body 0 → f.address 2 p ≡ 0
  unfolding frame address_of
  address_else (Body zero) ne = absurd (ne refl)
  address_else (Body (suc k)) ne = ap (λ n. address_of image (head_of n) (Body (suc k))) fresh.root ∙ past (ltb (suc k) 10) (ltb (suc k) 138)
    where
      past : (b c : Bool) → ◌≡◌ {A = ℕ} (cond b (get_or (replicate 9 0) k 0) (cond c 0 0)) 0
      past true c = zeros_everywhere 9 k
      past false true = refl
      past false false = refl
  address_else Single ne = ap (λ n. address_of image (head_of n) Single) fresh.root
  address_else Double ne = ap (λ n. address_of image (head_of n) Double) fresh.root

  only_block : (i : ℕ) (p : Place) → f.address i p ≢ 0 → (i ≡ 2) × (p ≡ Body 0)
  only_block i p nz =
      let e : i ≡ 2 = used_root i ((frame-IsFrame image).places i p nz).0 in
      (e, by_place p (λ z. nz (ap (λ q. f.address q p) e ∙ z)))
    where
      by_place : (p : Place) → f.address 2 p ≢ 0 → p ≡ Body 0
      by_place (Body zero) nz = refl
      by_place (Body (suc k)) nz = absurd (nz (address_else (Body (suc k)) (λ e. cc)))
      by_place Single nz = absurd (nz (address_else Single (λ e. cc)))
      by_place Double nz = absurd (nz (address_else Double (λ e. cc)))

  slots_root : f.slots 2 ≡ root_slots
  unfolding frame slots_of address_of
  slots_root = ap (λ n. slots_of image (head_of n)) fresh.root ∙ (λ z. fresh.self z ∷ fresh.up z ∷ [])

  numbers : (d : ℕ) → t.is_dir d ≡ true → (1 ≤ d) × (d < 1 + t.inodes)
  numbers d dir = let is = frame-IsFrame image in let r = is.numbers d (is.directories d dir) in let h = r.1 in (r.0, omega arith)

  walked_root : is_walked t 2 ≡ true
  walked_root = reached_walked t numbers (root dir_root)

  walked_only : (d : ℕ) → is_walked t d ≡ true → d ≡ 2
  walked_only d w = dir_only d (walked_is_dir {t = t} (walked_reached t d w))

  not_walked : (d : ℕ) → d ≢ 2 → is_walked t d ≡ false
  not_walked d ne = ⊎_elim (λ (w : is_walked t d ≡ true). absurd (ne (walked_only d w))) (λ (no' : is_walked t d ≡ false). no') (cases_Bool (is_walked t d))

  seen_root : seen_in t 0 2 ≡ root_slots
  seen_root = ap (λ b. cond b (drop 0 (seen_slots t 2)) []) walked_root ∙ slots_root

  seen_else : (d : ℕ) → d ≢ 2 → seen_in t 0 d ≡ []
  seen_else d ne = ap (λ b. cond b (drop 0 (seen_slots t d)) []) (not_walked d ne)

  links_are : (i : ℕ) → links t i ≡ count_by (is_slot_of i) root_slots
  unfolding links
  links_are i = let r = numbers 2 dir_root in flat_only (is_slot_of i) (seen_in t 0) 2 1 t.inodes seen_else r.0 r.1 ∙ ap (count_by (is_slot_of i)) seen_root

  links_root : links t 2 ≡ 2
  links_root = links_are 2

  links_else : (i : ℕ) → i ≢ 2 → links t i ≡ 0
  links_else i ne = links_are i ∙ (λ z. (0 + cond {A = ℕ} (ne_eqb 2 i (λ e. ne (sym e)) z) 1 0) + cond {A = ℕ} (ne_eqb 2 i (λ e. ne (sym e)) z) 1 0)

  -- the root's slots are these
  slot_only : (k i : ℕ) (name : List ℕ) → slot_at t 2 k ≡ Some (i, name) → (k < 2) × (i ≡ 2) × (name ≢ [])
  slot_only k i name at = by_place k (ap (λ s. get_or s k None) (sym slots_root) ∙ at)
    where
      by_place : (k : ℕ) → get_or root_slots k None ≡ Some (i, name) → (k < 2) × (i ≡ 2) × (name ≢ [])
      by_place zero e = (omega arith, sym (ap number_in e), λ z. some_name 46 [] (ap name_in e ∙ z))
      by_place (suc zero) e = (omega arith, sym (ap number_in e), λ z. some_name 46 (46 ∷ []) (ap name_in e ∙ z))
      by_place (suc (suc k)) e = absurd (cc)

  is_tree : IsTree f t
  is_tree = record {
    dots = λ d w. subst (HasDots t) (sym (walked_only d w)) (record {
      self = ap (λ s. get_or s 0 None) slots_root;
      up = ap (λ s. get_or s 1 None) slots_root ∙ (λ z. Some (sym parent_root z, 46 ∷ 46 ∷ []));
      root = λ e. parent_root;
      walked = ap (is_walked t) parent_root ∙ walked_root;
      child = λ ne. absurd (ne refl);
    });
    used = λ d k i name w at.
        let s = slot_only k i name (ap (λ q. slot_at t q k) (sym (walked_only d w)) ∙ at) in
        (ap (λ q. (f.head q).is_used) s.1 ∙ (frame-IsFrame image).directories 2 dir_root, s.2);
    linked = λ i. ⊎_elim (λ (e : i ≡ 2). let l = ap (links t) e ∙ links_root in omega (arith, l)) (λ (ne : i ≢ 2). let l = links_else i ne in omega (arith, l)) (cases_eq i 2);
    one_slot = λ d e k l i name other w x low low' dir at at'.
        let s = slot_only k i name (ap (λ q. slot_at t q k) (sym (walked_only d w)) ∙ at) in
        let lt = s.0 in absurd (omega (arith, lt, low));
  }
    where
      parent_root : number_in (slot_at t 2 1) ≡ 2
      parent_root = ap (λ s. number_in (get_or s 1 None)) slots_root

  good_root : IsGood (f.head 2)
  good_root = subst IsGood (sym head_root) (record { kind = refl; length = omega arith; link = λ e. absurd (omega (arith, e)); directory = λ e. (omega arith, refl) })

  size_root : (f.head 2).size ≡ 32
  size_root = ap (λ (h : Head). h.size) head_root

  block_inside : (isize_of image ≤ isize_of image) × (isize_of image < f.fsize)
  unfolding frame
  block_inside = (omega arith, fresh.sizes.above)

  isize_is : f.isize ≡ isize_of image
  unfolding frame
  isize_is = refl

  low_isize : 3 ≤ isize_of image
  unfolding frame
  low_isize = fresh.sizes.low

  pub address_is : (i : ℕ) (p : Place) → f.address i p ≢ 0 → f.address i p ≡ isize_of image
  address_is i p nz = let o = only_block i p nz in (λ z. f.address (o.0 z) (o.1 z)) ∙ address_first

  weak : IsWeak f
  weak = record {
    sizes = fresh.sizes;
    first = not_used 1 (λ e. omega (arith, e));
    root = dir_root;
    good = λ i used. subst (λ q. IsGood (f.head q)) (sym (used_root i used)) good_root;
    data_block = λ i p nz. let e = address_is i p nz in (subst (λ n. n ≤ f.address i p) (sym isize_is) (omega (arith, e)), subst (λ n. n < f.fsize) (sym e) block_inside.1);
    needed = λ i k dir lt z.
        let e : i ≡ 2 = used_root i ((frame-IsFrame image).directories i dir) in
        let lt' : k < sectors_of (f.head 2).size = subst (λ q. k < sectors_of (f.head q).size) e lt in
        let none : k ≡ 0 = (let s = size_root in omega (arith, lt', s)) in
        let low = low_isize in
        let zero' : isize_of image ≡ 0 = sym address_first ∙ ap (λ q. f.address 2 (Body q)) (sym none) ∙ ap (λ q. f.address q (Body k)) (sym e) ∙ z in
        omega (arith, low, zero');
    no_double = λ i. ⊎_elim (λ (z : f.address i Double ≡ 0). z) (λ (nz : f.address i Double ≢ 0). absurd (not_first Double (λ e. cc) (only_block i Double nz).1)) (cases_eq (f.address i Double) 0);
    unshared = λ i j p q nz same.
        let a = only_block i p nz in
        let b = only_block j q (λ z. nz (same ∙ z)) in
        (a.0 ∙ sym b.0, a.1 ∙ sym b.1);
    names = is_tree;
  }
    where
      not_first : (p : Place) → (p ≢ Body 0) → p ≡ Body 0 → ⊥
      not_first p ne e = ne e

  pub fresh_strong : IsStrong (frame image)
  fresh_strong = record {
    weak = weak;
    counted = λ i used. let e = used_root i used in subst (λ q. (f.head q).nlink ≡ links t q) (sym e) (ap (λ (h : Head). h.nlink) head_root ∙ sym links_root);
    named = λ i used. let e = used_root i used in subst (λ q. is_named t q ≡ true) (sym e) (or_left _ _ walked_root);
    none_past = λ i k past. ⊎_elim (λ (z : f.address i (Body k) ≡ 0). z)
        (λ (nz : f.address i (Body k) ≢ 0).
        let o = only_block i (Body k) nz in
        let none : k ≡ 0 = body_is o.1 in
        let past' : sectors_of (f.head 2).size ≤ k = subst (λ q. sectors_of (f.head q).size ≤ k) o.0 past in
        let s = size_root in absurd (omega (arith, past', none, s)))
        (cases_eq (f.address i (Body k)) 0);
    single_needed = λ i nz. absurd (not_body (only_block i Single nz).1);
  }
    where
      body_is : {k : ℕ} → Body k ≡ Body 0 → k ≡ 0
      body_is e = cc

      not_body : Single ≢ Body 0
      not_body e = cc

  generation : (i : ℕ) → (inode_at image i).generation ≡ cond (eqb i 2) 1 0
  generation i = ⊎_elim
      (λ (e : i ≡ 2). subst (λ q. (inode_at image q).generation ≡ cond (eqb q 2) 1 0) (sym e) (ap (λ (n : Inode). n.generation) fresh.root))
      (λ (ne : i ≢ 2). ap (λ (n : Inode). n.generation) (fresh.empty i ne) ∙ none_generation ∙ (λ z. cond {A = ℕ} (sym (ne_eqb i 2 ne) z) 1 0))
      (cases_eq i 2)

  -- and its files are the root alone
  named_else : (i : ℕ) → i ≢ 2 → is_named t i ≡ false
  named_else i ne = (λ z. not_walked i ne z || ltb 0 (links_else i ne z))

  body_none : (h : Head) (address : Place → ℕ) → is_directory h ≡ true → body_of image h address ≡ empty
  unfolding body_of
  body_none h address dir = ap (λ b. cond b empty (tabulated (λ k. held image h.size k (address (Body k))) (sectors_of h.size))) dir

  node_root : node_of t 2 (inode_at image 2) (body_at image f 2) ≡ root_node now
  node_root = (λ z. node_of t 2 (fresh.root z) (no_body z)) ∙ (λ z. record (root_node now) { nlink = links_root z; slots = slots_root z })
    where
      no_body : body_at image f 2 ≡ empty
      no_body = body_none (f.head 2) (f.address 2) dir_root

  pub fresh_view : view image ≡ made_files (inodes_before (isize_of image)) (f.fsize - f.isize) now
  unfolding view files_of made_files frame
  fresh_view =
      let r = numbers 2 dir_root in
      let nodes : tabulated (λ i. cond (is_named t i) (Some (node_of t i (inode_at image i) (body_at image f i))) None) (t.inodes + 1) ≡ insert empty 2 (root_node now) =
      tabulated_but_one (λ i. None) (λ i. cond (is_named t i) (Some (node_of t i (inode_at image i) (body_at image f i))) None) (t.inodes + 1) 2 (root_node now) (let h = r.1 in omega (arith, h))
      (ap (λ b. cond b (Some (node_of t 2 (inode_at image 2) (body_at image f 2))) None) (or_left _ _ walked_root) ∙ ap Some node_root)
      (λ q lt ne. ap (λ b. cond b (Some (node_of t q (inode_at image q) (body_at image f q))) None) (named_else q ne))
      ∙ ap (λ m. insert m 2 (root_node now)) (tabulated_none (t.inodes + 1)) in
      λ z. record {
        nodes = nodes z;
        generations = tabulated (λ i. cond (eqb i 0) None (Some (generation i z))) (t.inodes + 1);
        inodes = t.inodes;
        blocks = f.fsize - f.isize;
        read_only = fresh.writable z;
      }
