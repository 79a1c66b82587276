-- A frame without damage is Weak.
use Rattle.std.proofs.Common.{◌≡◌, ◌≢◌, ◌⊎◌, ℕ, zero, suc, ◌+◌, ◌-◌, ◌%◌, ◌<◌, ◌≤◌, Bool, true, false, cond, not, ◌&&◌, ◌||◌, List, [], ◌∷◌, ◌++◌, map, length, get_or, take, drop, refl, sym, ap, subst, ◌∙◌, arith, inl, inr, ⊎_elim, eqb, ltb, leb, Some, None, eq-eqb, ◌==◌}
use Rattle.std.proofs.lemmas.Bool.{cases_eq, cases_lt, cases_Bool, leb-true, ltb-true, eqb-true, ne_eqb, lt-ltb, le-ltb}
use Rattle.std.specs.List.{range_with_len, list_any, flat_map, count_by}
use Rattle.v7_map.specs.Frame.{Frame, IsFrame, CanHold, Place, Body, Single, Double, is_directory}
use Rattle.v7_map.specs.Tree.{Tree, tree, is_walked, seen_slots, seen_in, links, is_slot_of, is_child, number_in}
use Rattle.v7_map.specs.Weak.{IsWeak, HasSizes, IsGood, HasDots, slot_at, parent}
use Rattle.files_model.specs.Files.{sectors_of, Slot}
use Rattle.v7_map.proofs.Frames.{and_left, and_right}
use Rattle.v7_map.proofs.Walks.{walked_reached}
use Rattle.v7_map.proofs.Used.{walked_is_dir}
use Rattle.v7_map.proofs.Members.{In, In-left, In-right, In-flat_map, In-map, find_none, In-range, any_of, any_in}
use Rattle.v7_map.proofs.SlotLists.{in_slots, In-get_or, get_or-before, count_grows, flat_more}
use Rattle.v7_map.specs.Damage.{has_address, has_kind, has_length, has_entry, slot_tests, slots_before, is_some_slot, is_entry, is_nameless, is_only_child, Test, Sizes, Kind, Length, Address, Shared, Dots, Entry, place_at, block, inode_tests, directory_tests, tests, blocks_before, is_unshared, passes, damage}
use Rattle.v7_map.proofs.SuperBlock.{sizes-passed}
use Rattle.v7_map.proofs.PlaceIndex.{index_of, index_found}

entry_is : (i j : ℕ) (name other : List ℕ) → is_entry i name (Some (j, other)) ≡ true → (j ≡ i) × (other ≡ name)
entry_is i j [] [] e = (eqb-true j i e, refl)
entry_is i j [] (d ∷ ds) e = absurd (cc)
entry_is i j (c ∷ cs) [] e = absurd (cc)
entry_is i j (c ∷ cs) (d ∷ ds) e = let r = entry_is i j cs ds (and_right (eqb d c) _ e) in (r.0, (λ z. eqb-true d c (and_left (eqb d c) _ e) z ∷ r.1 z))

slot_is : (i : ℕ) (name : List ℕ) (slot : Slot) → is_entry i name slot ≡ true → slot ≡ Some (i, name)
slot_is i name None e = absurd (none_is name e)
  where
    none_is : (name : List ℕ) → is_entry i name None ≡ true → ⊥
    none_is name e = cc
slot_is i name (Some s) e = let r = entry_is i s.0 name s.1 e in (λ z. Some (r.0 z, r.1 z))

module _ (f : Frame) (is : IsFrame f) (none : damage f ≡ None) where
  numbers : (i : ℕ) → (f.head i).is_used ≡ true → (1 ≤ i) × (i < 1 + (tree f).inodes)
  numbers i used = let r = is.numbers i used in (r.0, (let high = r.1 in omega arith))

  passed : (t : Test) → In t (tests f) → passes f t ≡ true
  passed t in' = turned (passes f t) (find_none (λ t. not (passes f t)) t (tests f) none in')
    where
      turned : (b : Bool) → not b ≡ false → b ≡ true
      turned true e = refl
      turned false e = absurd (cc)

  -- a test of an inode in use
  inode_test : (i : ℕ) (t : Test) → (f.head i).is_used ≡ true → In t (Kind i ∷ Length i ∷ flat_map (λ m. Address i m ∷ Shared i m ∷ []) (range_with_len 0 140)) → passes f t ≡ true
  unfolding tests In
  inode_test i t used in' = let at = numbers i used in
      passed t (inr (In-left _ _ _ (In-flat_map (inode_tests f) t i (range_with_len 1 (tree f).inodes) (In-range i 1 (tree f).inodes at.0 at.1)
      (subst (λ b. In t (cond b (Kind i ∷ Length i ∷ flat_map (λ m. Address i m ∷ Shared i m ∷ []) (range_with_len 0 140)) (cond (i == 2) (Kind i ∷ []) []))) (sym used) in'))))

  address_test : (i n : ℕ) → (f.head i).is_used ≡ true → n < 140 → has_address f i (place_at n) ≡ true
  unfolding In
  address_test i n used lt = inode_test i (Address i n) used (inr (inr (In-flat_map (λ m. Address i m ∷ Shared i m ∷ []) (Address i n) n (range_with_len 0 140) (In-range n 0 140 (omega arith) lt) (inl refl))))

  -- a test of a walked directory
  directory_test : (d : ℕ) (t : Test) → is_walked (tree f) d ≡ true → (1 ≤ d) × (d < 1 + (tree f).inodes) → In t (Dots d ∷ flat_map (slot_tests (tree f) d) (range_with_len 0 (length (seen_slots (tree f) d)))) → passes f t ≡ true
  unfolding tests In
  directory_test d t walks at in' =
      passed t (inr (In-right _ (flat_map (inode_tests f) (range_with_len 1 (tree f).inodes)) _ (In-flat_map (directory_tests (tree f)) t d (range_with_len 1 (tree f).inodes) (In-range d 1 (tree f).inodes at.0 at.1)
      (subst (λ b. In t (cond b (Dots d ∷ flat_map (slot_tests (tree f) d) (range_with_len 0 (length (seen_slots (tree f) d)))) [])) (sym walks) in'))))

  shared_test : (i n : ℕ) → (f.head i).is_used ≡ true → n < 140 → is_unshared f i n ≡ true
  unfolding tests In
  shared_test i n used lt = let at = numbers i used in
      passed (Shared i n) (inr (In-left _ _ _ (In-flat_map (inode_tests f) (Shared i n) i _ (In-range i 1 ((tree f).inodes) at.0 at.1)
      (subst (λ b. In (Shared i n) (cond b (Kind i ∷ Length i ∷ flat_map (λ m. Address i m ∷ Shared i m ∷ []) (range_with_len 0 140)) (cond (i == 2) (Kind i ∷ []) []))) (sym used)
      (inr (inr (In-flat_map (λ m. Address i m ∷ Shared i m ∷ []) (Shared i n) n (range_with_len 0 140) (In-range n 0 140 (omega arith) lt) (inr (inl refl)))))))))

  -- a block that stood before is not there again
  not_before : (i n b : ℕ) → (f.head i).is_used ≡ true → n < 140 → block f i n ≢ 0 → In b (blocks_before f i n) → b ≢ block f i n
  not_before i n b used lt nonzero before same = clash (block f i n == 0) _ (ne_eqb (block f i n) 0 nonzero) (any_of (block f i n) (blocks_before f i n) (subst (λ z. In z (blocks_before f i n)) same before)) (shared_test i n used lt)
    where
      clash : (s t : Bool) → s ≡ false → t ≡ true → (s || not t) ≡ true → ⊥
      clash true t e g h = cc
      clash false true e g h = cc
      clash false false e g h = cc

  before_by_inode : (i j n m : ℕ) → 1 ≤ i → i < j → n < 140 → In (block f i n) (blocks_before f j m)
  before_by_inode i j n m low lt in' = In-left _ _ _ (In-flat_map (λ q. map (block f q) (range_with_len 0 140)) (block f i n) i _ (In-range i 1 (j - 1) low (omega arith)) (In-map (block f i) n _ (In-range n 0 140 (omega arith) in')))

  before_by_place : (i n m : ℕ) → n < m → In (block f i n) (blocks_before f i m)
  before_by_place i n m lt = In-right _ _ _ (In-map (block f i) n _ (In-range n 0 m (omega arith) (omega arith)))

  unshared_index : (i j n m : ℕ) → (f.head i).is_used ≡ true → (f.head j).is_used ≡ true → n < 140 → m < 140 → block f i n ≢ 0 → block f i n ≡ block f j m → (i ≡ j) × (n ≡ m)
  unshared_index i j n m ui uj ln lm nonzero same =
      let there : block f j m ≢ 0 = λ z. nonzero (same ∙ z) in
      ⊎_elim
      (λ (lt : i < j). absurd (not_before j m (block f i n) uj lm there (before_by_inode i j n m (numbers i ui).0 lt ln) same))
      (λ (ge : j ≤ i). ⊎_elim
      (λ (lt : j < i). absurd (not_before i n (block f j m) ui ln nonzero (before_by_inode j i m n (numbers j uj).0 lt lm) (sym same)))
      (λ (le : i ≤ j). let e : i ≡ j = omega arith in (
        e,
        (let same' : block f i n ≡ block f i m = same ∙ ap (λ z. block f z m) (sym e) in
            ⊎_elim
            (λ (lt : n < m). absurd (not_before i m (block f i n) ui lm (λ z. nonzero (same' ∙ z)) (before_by_place i n m lt) same'))
            (λ (ge' : m ≤ n). ⊎_elim
            (λ (lt : m < n). absurd (not_before i n (block f i m) ui ln nonzero (before_by_place i m n lt) (sym same')))
            (λ (le' : n ≤ m). let q : n ≡ m = omega arith in q)
            (cases_lt m n))
            (cases_lt n m)),
      ))
      (cases_lt j i))
      (cases_lt i j)

  -- each block stands at one place
  pub unshared_without_damage : (i j : ℕ) (p q : Place) → f.address i p ≢ 0 → f.address i p ≡ f.address j q → (i ≡ j) × (p ≡ q)
  unshared_without_damage i j p q nonzero same =
      let up = is.places i p nonzero in
      let uq = is.places j q (λ z. nonzero (same ∙ z)) in
      let a = index_found p up.1 in
      let b = index_found q uq.1 in
      let at-p : block f i (index_of p) ≡ f.address i p = ap (f.address i) a.1 in
      let at-q : block f j (index_of q) ≡ f.address j q = ap (f.address j) b.1 in
      let r = unshared_index i j (index_of p) (index_of q) up.0 uq.0 a.0 b.0 (λ z. nonzero (sym at-p ∙ z)) (at-p ∙ same ∙ sym at-q) in
      (r.0, sym a.1 ∙ ap place_at r.1 ∙ b.1)

  -- ---- sector 1

  sizes_pass : HasSizes f
  unfolding tests In
  sizes_pass = sizes-passed f (passed Sizes (inl refl))

  -- ---- the inodes

  kind_pass : (i : ℕ) → (f.head i).is_used ≡ true → has_kind i (f.head i) ≡ true
  unfolding In
  kind_pass i used = inode_test i (Kind i) used (inl refl)

  length_pass : (i : ℕ) → (f.head i).is_used ≡ true → has_length (f.head i) ≡ true
  unfolding In
  length_pass i used = inode_test i (Length i) used (inr (inl refl))

  first_pass : (f.head 1).is_used ≡ false
  first_pass = ⊎_elim (λ (used : (f.head 1).is_used ≡ true). let e : false ≡ true = kind_pass 1 used in absurd (cc)) (λ (h : (f.head 1).is_used ≡ false). h) (cases_Bool (f.head 1).is_used)

  root_pass : 2 < 1 + (tree f).inodes → is_directory (f.head 2) ≡ true
  unfolding tests In
  root_pass at = ⊎_elim
      (λ (used : (f.head 2).is_used ≡ true). kind_pass 2 used)
      (λ (free : (f.head 2).is_used ≡ false). passed (Kind 2) (inr (In-left _ _ _ (In-flat_map (inode_tests f) (Kind 2) 2 (range_with_len 1 (tree f).inodes) (In-range 2 1 (tree f).inodes (omega arith) at)
      (subst (λ b. In (Kind 2) (cond b (Kind 2 ∷ Length 2 ∷ flat_map (λ m. Address 2 m ∷ Shared 2 m ∷ []) (range_with_len 0 140)) (Kind 2 ∷ []))) (sym free) (inl refl))))))
      (cases_Bool (f.head 2).is_used)

  good_pass : (i : ℕ) → (f.head i).is_used ≡ true → IsGood (f.head i)
  good_pass i used =
      let k = and_right _ _ (kind_pass i used) in
      let l = length_pass i used in
      let r = and_right _ _ l in
      record {
        kind = kinds (i == 2) ((f.head i).type == 4) ((f.head i).type == 8) ((f.head i).type == 10) k;
        length = leb-true _ _ (and_left _ _ l);
        link = λ e. leb-true _ _ (links_size (f.head i).type (f.head i).size e r);
        directory = λ e. let q = directory_size (f.head i).type (f.head i).size e r in (leb-true _ _ (and_left _ _ q), eqb-true _ _ (and_right _ _ q));
      }
    where
      kinds : (two four eight ten : Bool) → cond two four (four || (eight || ten)) ≡ true → (four || (eight || ten)) ≡ true
      kinds true true eight ten e = refl
      kinds true false eight ten e = absurd (cc)
      kinds false four eight ten e = e

      links_size : (type size : ℕ) → type ≡ 10 → cond (type == 10) (leb size 1024) (cond (type == 4) (leb 32 size && (size % 16 == 0)) true) ≡ true → leb size 1024 ≡ true
      links_size type size e h = subst (λ z. cond (z == 10) (leb size 1024) (cond (z == 4) (leb 32 size && (size % 16 == 0)) true) ≡ true) e h

      directory_size : (type size : ℕ) → type ≡ 4 → cond (type == 10) (leb size 1024) (cond (type == 4) (leb 32 size && (size % 16 == 0)) true) ≡ true → (leb 32 size && (size % 16 == 0)) ≡ true
      directory_size type size e h = subst (λ z. cond (z == 10) (leb size 1024) (cond (z == 4) (leb 32 size && (size % 16 == 0)) true) ≡ true) e h

  place_test : (i : ℕ) (p : Place) → (f.head i).is_used ≡ true → CanHold p → has_address f i p ≡ true
  place_test i p used can = let a = index_found p can in subst (λ q. has_address f i q ≡ true) a.1 (address_test i (index_of p) used a.0)

  in_data : (a : ℕ) (need : Bool) → a ≢ 0 → cond (a == 0) (not need) (leb f.isize a && ltb a f.fsize) ≡ true → (f.isize ≤ a) × (a < f.fsize)
  in_data a need nonzero e = let h : (leb f.isize a && ltb a f.fsize) ≡ true = subst (λ b. cond b (not need) (leb f.isize a && ltb a f.fsize) ≡ true) (ne_eqb a 0 nonzero) e in
      (leb-true _ _ (and_left _ _ h), ltb-true _ _ (and_right _ _ h))

  data_pass : (i : ℕ) (p : Place) → f.address i p ≢ 0 → (f.isize ≤ f.address i p) × (f.address i p < f.fsize)
  data_pass i (Body k) nonzero = let u = is.places i (Body k) nonzero in in_data _ _ nonzero (place_test i (Body k) u.0 u.1)
  data_pass i Single nonzero = let u = is.places i Single nonzero in in_data _ _ nonzero (place_test i Single u.0 u.1)
  data_pass i Double nonzero = let u = is.places i Double nonzero in absurd (nonzero (eqb-true _ _ (place_test i Double u.0 u.1)))

  needed_pass : (i k : ℕ) → (f.head i).is_used ≡ true → is_directory (f.head i) ≡ true → k < sectors_of (f.head i).size → f.address i (Body k) ≢ 0
  needed_pass i k used dir lt zero' =
      let short = (good_pass i used).length in
      let can : k < 138 = omega arith in
      let e : cond (f.address i (Body k) == 0) (not (is_directory (f.head i) && ltb k (sectors_of (f.head i).size))) (leb f.isize (f.address i (Body k)) && ltb (f.address i (Body k)) f.fsize) ≡ true = place_test i (Body k) used can in
      let n : not (is_directory (f.head i) && ltb k (sectors_of (f.head i).size)) ≡ true = subst (λ b. cond b (not (is_directory (f.head i) && ltb k (sectors_of (f.head i).size))) (leb f.isize (f.address i (Body k)) && ltb (f.address i (Body k)) f.fsize) ≡ true) (eq-eqb _ _ zero') e in
      refused (is_directory (f.head i)) (ltb k (sectors_of (f.head i).size)) dir (lt-ltb _ _ lt) n
    where
      refused : (a b : Bool) → a ≡ true → b ≡ true → not (a && b) ≡ true → ⊥
      refused true true p q n = cc
      refused true false p q n = cc
      refused false b p q n = cc

  double_pass : (i : ℕ) → f.address i Double ≡ 0
  double_pass i = ⊎_elim (λ (z : f.address i Double ≡ 0). z) (λ (nz : f.address i Double ≢ 0). let u = is.places i Double nz in eqb-true _ _ (place_test i Double u.0 u.1)) (cases_eq (f.address i Double) 0)

  -- ---- the tree

  in_range : (d : ℕ) → is_walked (tree f) d ≡ true → (1 ≤ d) × (d < 1 + (tree f).inodes)
  in_range d w = numbers d (is.directories d (walked_is_dir (walked_reached (tree f) d w)))

  dots_pass : (d : ℕ) → is_walked (tree f) d ≡ true → HasDots (tree f) d
  unfolding In
  dots_pass d w =
      let t : Tree = tree f in
      let e = directory_test d (Dots d) w (in_range d w) (inl refl) in
      let e1 = and_right _ _ e in let e2 = and_right _ _ e1 in let e3 = and_right _ _ e2 in
      let two : d ≡ 2 → parent t d ≡ 2 = λ s. eqb-true _ _ (subst (λ b. cond b (parent t d == 2) (is_child t (parent t d) d) ≡ true) (eq-eqb d 2 s) e3) in
      let other : d ≢ 2 → is_child t (parent t d) d ≡ true = λ s. subst (λ b. cond b (parent t d == 2) (is_child t (parent t d) d) ≡ true) (ne_eqb d 2 s) e3 in
      record {
        self = slot_is d (46 ∷ []) (slot_at t d 0) (and_left _ _ e);
        up = slot_is (parent t d) (46 ∷ 46 ∷ []) (slot_at t d 1) (and_left _ _ e1);
        root = two;
        walked = and_left _ _ e2;
        child = other;
      }

  entry_pass : (d k i : ℕ) (name : List ℕ) → is_walked (tree f) d ≡ true → slot_at (tree f) d k ≡ Some (i, name) → ((f.head i).is_used && (not (is_nameless (Some (i, name))) && (ltb (count_by (is_slot_of i) (slots_before (tree f) 0 d k)) 65535 && is_only_child (tree f) d k i))) ≡ true
  unfolding In
  entry_pass d k i name w at =
      let t : Tree = tree f in
      let lt : k < length (seen_slots t d) = in_slots k (seen_slots t d) (i, name) at in
      let in' : In (Entry d k) (slot_tests t d k) = subst (λ s. In (Entry d k) (cond (is_some_slot s) (Entry d k ∷ []) [])) (sym at) (inl refl) in
      let e : has_entry f t d k ≡ true = directory_test d (Entry d k) w (in_range d w) (inr (In-flat_map (slot_tests t d) (Entry d k) k (range_with_len 0 (length (seen_slots t d))) (In-range k 0 (length (seen_slots t d)) (omega arith) (omega arith)) in')) in
      subst (λ s. ((f.head (number_in s)).is_used && (not (is_nameless s) && (ltb (count_by (is_slot_of (number_in s)) (slots_before t 0 d k)) 65535 && is_only_child t d k (number_in s)))) ≡ true) at e

  slot_named : (i : ℕ) (slot : Slot) → is_slot_of i slot ≡ true → (name : List ℕ) × (slot ≡ Some (i, name))
  slot_named i None e = absurd (cc)
  slot_named i (Some s) e = (s.1, (λ z. Some (eqb-true s.0 i e z, s.1)))

  -- the links that directories up to n give
  linked_to : (i n : ℕ) → n ≤ (tree f).inodes → count_by (is_slot_of i) (flat_map (seen_in (tree f) 0) (range_with_len 1 n)) ≤ 65535
  linked_to i zero le = omega arith
  linked_to i (suc n) le =
      let t : Tree = tree f in
      let pre : List Slot = flat_map (seen_in t 0) (range_with_len 1 n) in
      subst (λ l. count_by (is_slot_of i) l ≤ 65535) (sym (flat_more (seen_in t 0) 1 n))
      (count_grows (is_slot_of i) 65535 pre (seen_in t 0 (1 + n)) (linked_to i n (omega arith)) (by_walked (is_walked t (1 + n)) refl))
    where
      here : Tree
      here = tree f

      by_walked : (b : Bool) → is_walked here (1 + n) ≡ b → (k : ℕ) → k < length (cond b (seen_slots here (1 + n)) []) → is_slot_of i (get_or (cond b (seen_slots here (1 + n)) []) k None) ≡ true
          → count_by (is_slot_of i) (flat_map (seen_in here 0) (range_with_len 1 n) ++ take k (cond b (seen_slots here (1 + n)) [])) < 65535
      by_walked false w k lt names = absurd (omega arith)
      by_walked true w k lt names =
          let at = slot_named i (slot_at here (1 + n) k) names in
          let e = entry_pass (1 + n) k i at.0 w at.1 in
          let m : (1 + n) - 1 ≡ n = omega arith in
          let c : count_by (is_slot_of i) (slots_before here 0 (1 + n) k) < 65535 = ltb-true _ _ (and_left _ _ (and_right _ _ (and_right _ _ e))) in
          subst (λ q. count_by (is_slot_of i) (flat_map (seen_in here 0) (range_with_len 1 q) ++ take k (seen_slots here (1 + n))) < 65535) m c

  only : (d k i : ℕ) (name : List ℕ) → is_walked (tree f) d ≡ true → 2 ≤ k → (tree f).is_dir i ≡ true → slot_at (tree f) d k ≡ Some (i, name) → (i ≢ 2) × (list_any (is_slot_of i) (slots_before (tree f) 2 d k) ≡ false)
  only d k i name w le dir at =
      let r : (not (i == 2) && not (list_any (is_slot_of i) (slots_before (tree f) 2 d k))) ≡ true =
      subst (λ b. cond (false || not b) true (not (i == 2) && not (list_any (is_slot_of i) (slots_before (tree f) 2 d k))) ≡ true) dir
      (subst (λ b. cond (b || not ((tree f).is_dir i)) true (not (i == 2) && not (list_any (is_slot_of i) (slots_before (tree f) 2 d k))) ≡ true) (le-ltb k 2 le) passes_here) in
      ((λ z. not_true (i == 2) (and_left _ _ r) (eq-eqb i 2 z)), not_false (list_any (is_slot_of i) (slots_before (tree f) 2 d k)) (and_right _ _ r))
    where
      not_true : (b : Bool) → not b ≡ true → b ≡ true → ⊥
      not_true true e h = cc
      not_true false e h = cc

      not_false : (b : Bool) → not b ≡ true → b ≡ false
      not_false true e = absurd (cc)
      not_false false e = refl

      passes_here : cond (ltb k 2 || not ((tree f).is_dir i)) true (not (i == 2) && not (list_any (is_slot_of i) (slots_before (tree f) 2 d k))) ≡ true
      passes_here =
          let e = entry_pass d k i name w at in
          let rest : Bool = is_only_child (tree f) d k i in
          let below : Bool = ltb (count_by (is_slot_of i) (slots_before (tree f) 0 d k)) 65535 in
          and_right below rest (and_right (not (is_nameless (Some (i, name)))) (below && rest) (and_right (f.head i).is_used (not (is_nameless (Some (i, name))) && (below && rest)) e))

  -- a slot that names i stands before a later one
  named_before : (d e l i k : ℕ) (name : List ℕ) → is_walked (tree f) e ≡ true → 2 ≤ l → slot_at (tree f) e l ≡ Some (i, name) → (e < d) ⊎ ((e ≡ d) × (l < k)) → list_any (is_slot_of i) (slots_before (tree f) 2 d k) ≡ true
  named_before d e l i k name w le at (inl lt) =
      let t : Tree = tree f in
      let r = in_range e w in
      let here : In (Some (i, name)) (seen_in t 2 e) = subst (λ b. In (Some (i, name)) (cond b (drop 2 (seen_slots t e)) [])) (sym w) (In-get_or (seen_slots t e) 2 l (i, name) le at) in
      any_in (is_slot_of i) (Some (i, name)) (slots_before t 2 d k) (In-left _ _ _ (In-flat_map (seen_in t 2) (Some (i, name)) e (range_with_len 1 (d - 1)) (In-range e 1 (d - 1) r.0 (omega arith)) here)) (eq-eqb i i refl)
  named_before d e l i k name w le at (inr q) =
      let t : Tree = tree f in
      let here : get_or (take k (seen_slots t d)) l None ≡ Some (i, name) = get_or-before (seen_slots t d) l k q.1 ∙ subst (λ z. slot_at t z l ≡ Some (i, name)) q.0 at in
      any_in (is_slot_of i) (Some (i, name)) (slots_before t 2 d k) (In-right _ (flat_map (seen_in t 2) (range_with_len 1 (d - 1))) _ (In-get_or (take k (seen_slots t d)) 2 l (i, name) le here)) (eq-eqb i i refl)

  -- two slots past the first two that name one directory are one
  one_pass : (d e k l i : ℕ) (name other : List ℕ) → is_walked (tree f) d ≡ true → is_walked (tree f) e ≡ true → 2 ≤ k → 2 ≤ l → (tree f).is_dir i ≡ true
      → slot_at (tree f) d k ≡ Some (i, name) → slot_at (tree f) e l ≡ Some (i, other) → (i ≢ 2) × (d ≡ e) × (k ≡ l)
  one_pass d e k l i name other wd we lk ll dir at-d at-e =
      let od = only d k i name wd lk dir at-d in
      let oe = only e l i other we ll dir at-e in
      let no-e : (e < d) ⊎ ((e ≡ d) × (l < k)) → ⊥ = λ h. let x = named_before d e l i k other we ll at-e h in clash _ x od.1 in
      let no-d : (d < e) ⊎ ((d ≡ e) × (k < l)) → ⊥ = λ h. let x = named_before e d k i l name wd lk at-d h in clash _ x oe.1 in
      let same : d ≡ e = ⊎_elim (λ (lt : d < e). absurd (no-d (inl lt))) (λ (ge : e ≤ d). ⊎_elim (λ (lt : e < d). absurd (no-e (inl lt))) (λ (le : d ≤ e). let q : d ≡ e = omega arith in q) (cases_lt e d)) (cases_lt d e) in
      (od.0, same, ⊎_elim (λ (lt : k < l). absurd (no-d (inr (same, lt)))) (λ (ge : l ≤ k). ⊎_elim (λ (lt : l < k). absurd (no-e (inr (sym same, lt)))) (λ (le : k ≤ l). let q : k ≡ l = omega arith in q) (cases_lt l k)) (cases_lt k l))
    where
      clash : (b : Bool) → b ≡ true → b ≡ false → ⊥
      clash b t u = cc

  nameless_not : (i : ℕ) (name : List ℕ) → not (is_nameless (Some (i, name))) ≡ true → name ≢ []
  nameless_not i [] e = absurd (cc)
  nameless_not i (b ∷ bs) e = λ q. cc

  -- A frame without damage is Weak.
  pub weak_without_damage : IsWeak f
  unfolding links
  weak_without_damage = record {
    sizes = sizes_pass;
    first = first_pass;
    root = (let low = sizes_pass.low in root_pass (omega arith));
    good = good_pass;
    data_block = data_pass;
    needed = λ i k dir lt. needed_pass i k (is.directories i dir) dir lt;
    no_double = double_pass;
    unshared = unshared_without_damage;
    names = record {
      dots = dots_pass;
      used = λ d k i name w at. let e = entry_pass d k i name w at in (and_left _ _ e, nameless_not i name (and_left _ _ (and_right _ _ e)));
      linked = λ i. linked_all i;
      one_slot = one_pass;
    };
  }
    where
      linked_all : (i : ℕ) → links (tree f) i ≤ 65535
      linked_all i = linked_to i (tree f).inodes (omega arith)
