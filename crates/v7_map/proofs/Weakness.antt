-- A Weak frame has no damage.
use Rattle.std.proofs.Common.{◌≡◌, ◌≢◌, ◌⊎◌, ℕ, suc, ◌+◌, ◌-◌, ◌%◌, ◌<◌, ◌≤◌, Bool, true, false, cond, not, ◌&&◌, ◌||◌, List, [], ◌∷◌, ◌++◌, map, length, take, drop, length-take, get_or-take, refl, sym, ap, subst, ◌∙◌, arith, inl, inr, ⊎_elim, ltb, leb, Some, None, eq-eqb, ◌==◌}
use Rattle.std.proofs.lemmas.Bool.{cases_eq, cases_lt, cases_Bool, ltb-true, eqb-true, ne_eqb, lt-ltb, le-ltb, le-leb}
use Rattle.std.proofs.lemmas.List.Sums.{sum_by-append}
use Rattle.std.specs.List.{range_with_len, list_any, flat_map, count_by}
use Rattle.v7_map.specs.Frame.{Frame, IsFrame, Place, Body, Single, Double, is_directory}
use Rattle.v7_map.specs.Tree.{Tree, tree, is_walked, seen_slots, seen_in, links, is_slot_of, is_child, number_in}
use Rattle.v7_map.specs.Weak.{IsWeak, slot_at, parent}
use Rattle.files_model.specs.Files.{Slot}
use Rattle.v7_map.proofs.Frames.{and_left, and_right}
use Rattle.v7_map.proofs.Members.{In, find_all, in_append, in_flat_map, in_map, any_is, in_range_of}
use Rattle.v7_map.proofs.SlotLists.{in_drop, count_at, count_flat, flat_more}
use Rattle.v7_map.proofs.PlaceIndex.{place_once}
use Rattle.v7_map.proofs.SuperBlock.{sizes-pass}
use Rattle.v7_map.specs.Damage.{has_address, has_kind, has_length, has_dots, has_entry, slot_tests, slots_before, is_some_slot, is_entry, is_nameless, is_only_child, Test, Sizes, Kind, Length, Address, Shared, Dots, Entry, place_at, block, inode_tests, directory_tests, tests, blocks_before, is_unshared, passes, damage, is_needed}

not_all : (b : Bool) → (b ≡ true → ⊥) → b ≡ false
not_all true h = absurd (h refl)
not_all false h = refl

entry_same : (i : ℕ) (name : List ℕ) → is_entry i name (Some (i, name)) ≡ true
entry_same i [] = eq-eqb i i refl
entry_same i (c ∷ cs) = (λ z. eq-eqb c c refl z && is_entry i cs (Some (i, cs))) ∙ entry_same i cs

true_and : (a b : Bool) → a ≡ true → b ≡ true → (a && b) ≡ true
true_and true b e h = h
true_and false b e h = absurd (cc)

true_or : (a b : Bool) → (a ≡ true) ⊎ (b ≡ true) → (a || b) ≡ true
true_or true b h = refl
true_or false b (inl e) = absurd (cc)
true_or false b (inr e) = e

module _ (f : Frame) (is : IsFrame f) (weak : IsWeak f) where
  abbrev here : Tree
  here = tree f

  sizes_hold : passes f Sizes ≡ true
  sizes_hold = sizes-pass f weak.sizes

  kind_holds : (i : ℕ) → (f.head i).is_used ≡ true → has_kind i (f.head i) ≡ true
  kind_holds i used = true_and _ _ (ap not (ne_eqb i 1 (λ e. let free : (f.head i).is_used ≡ false = subst (λ z. (f.head z).is_used ≡ false) (sym e) weak.first in cc)))
      (⊎_elim
      (λ (two : i ≡ 2). ap (λ b. cond b ((f.head i).type == 4) (((f.head i).type == 4) || (((f.head i).type == 8) || ((f.head i).type == 10)))) (eq-eqb i 2 two) ∙ subst (λ z. is_directory (f.head z) ≡ true) (sym two) weak.root)
      (λ (no : i ≢ 2). ap (λ b. cond b ((f.head i).type == 4) (((f.head i).type == 4) || (((f.head i).type == 8) || ((f.head i).type == 10)))) (ne_eqb i 2 no) ∙ (weak.good i used).kind)
      (cases_eq i 2))

  length_holds : (i : ℕ) → (f.head i).is_used ≡ true → has_length (f.head i) ≡ true
  length_holds i used = let g = weak.good i used in true_and _ _ (le-leb _ _ g.length) (by_type (f.head i).type (f.head i).size g.link g.directory)
    where
      by_type : (type size : ℕ) → (type ≡ 10 → size ≤ 1024) → (type ≡ 4 → (32 ≤ size) × (size % 16 ≡ 0)) → cond (type == 10) (leb size 1024) (cond (type == 4) (leb 32 size && (size % 16 == 0)) true) ≡ true
      by_type type size link dir = ⊎_elim
          (λ (e : type ≡ 10). ap (λ b. cond b (leb size 1024) (cond (type == 4) (leb 32 size && (size % 16 == 0)) true)) (eq-eqb type 10 e) ∙ le-leb size 1024 (link e))
          (λ (n : type ≢ 10). ap (λ b. cond b (leb size 1024) (cond (type == 4) (leb 32 size && (size % 16 == 0)) true)) (ne_eqb type 10 n) ∙ ⊎_elim
          (λ (e : type ≡ 4). ap (λ b. cond b (leb 32 size && (size % 16 == 0)) true) (eq-eqb type 4 e) ∙ true_and _ _ (le-leb 32 size (dir e).0) (eq-eqb _ 0 (dir e).1))
          (λ (m : type ≢ 4). ap (λ b. cond b (leb 32 size && (size % 16 == 0)) true) (ne_eqb type 4 m))
          (cases_eq type 4))
          (cases_eq type 10)

  -- an address is one of a data block, or none where none is needed
  address_of_place : (i : ℕ) (p : Place) (need : Bool) → (f.address i p ≡ 0 → need ≡ true → ⊥) → cond (f.address i p == 0) (not need) (leb f.isize (f.address i p) && ltb (f.address i p) f.fsize) ≡ true
  address_of_place i p need never = ⊎_elim
      (λ (z : f.address i p ≡ 0). ap (λ b. cond b (not need) (leb f.isize (f.address i p) && ltb (f.address i p) f.fsize)) (eq-eqb _ 0 z) ∙ ap not (not_all need (never z)))
      (λ (nz : f.address i p ≢ 0). let d = weak.data_block i p nz in ap (λ b. cond b (not need) (leb f.isize (f.address i p) && ltb (f.address i p) f.fsize)) (ne_eqb _ 0 nz) ∙ true_and _ _ (le-leb _ _ d.0) (lt-ltb _ _ d.1))
      (cases_eq (f.address i p) 0)

  address_holds : (i : ℕ) (p : Place) → has_address f i p ≡ true
  address_holds i (Body k) = address_of_place i (Body k) (is_needed (f.head i) (Body k)) (λ z need. weak.needed i k (and_left _ _ need) (ltb-true _ _ (and_right _ _ need)) z)
  address_holds i Single = address_of_place i Single (is_needed (f.head i) Single) (λ z need. weak.needed i 10 (and_left _ _ need) (ltb-true _ _ (and_right _ _ need)) (is.through i 10 (omega arith) z))
  address_holds i Double = eq-eqb _ 0 (weak.no_double i)

  shared_holds : (i n : ℕ) → 1 ≤ i → n < 140 → is_unshared f i n ≡ true
  shared_holds i n low lt = true_or _ _ (⊎_elim
      (λ (z : block f i n ≡ 0). inl (eq-eqb _ 0 z))
      (λ (nz : block f i n ≢ 0). inr (ap not (not_all (list_any (λ b. b == block f i n) (blocks_before f i n)) (λ any.
      let q = any_is (λ b. b == block f i n) (blocks_before f i n) any in
      let same : q.0 ≡ block f i n = eqb-true q.0 (block f i n) q.2 in
      ⊎_elim
      (λ (l : In q.0 (flat_map (λ j. map (block f j) (range_with_len 0 140)) (range_with_len 1 (i - 1)))).
      let a = in_flat_map (λ j. map (block f j) (range_with_len 0 140)) q.0 (range_with_len 1 (i - 1)) l in
      let r = in_range_of a.0 1 (i - 1) a.1 in let up = r.1 in
      let b = in_map (block f a.0) q.0 (range_with_len 0 140) a.2 in
      let u = weak.unshared i a.0 (place_at n) (place_at b.0) nz (sym same ∙ b.2) in
      let e : i ≡ a.0 = u.0 in absurd (omega arith))
      (λ (r : In q.0 (map (block f i) (range_with_len 0 n))).
      let b = in_map (block f i) q.0 (range_with_len 0 n) r in
      let m = in_range_of b.0 0 n b.1 in let up = m.1 in
      let u = weak.unshared i i (place_at n) (place_at b.0) nz (sym same ∙ b.2) in
      let e : n ≡ b.0 = place_once n b.0 lt (omega arith) u.1 in absurd (omega arith))
      (in_append q.0 _ _ q.1)))))
      (cases_eq (block f i n) 0))

  dots_hold : (d : ℕ) → is_walked here d ≡ true → has_dots here d ≡ true
  dots_hold d w = let t : Tree = tree f in let h = weak.names.dots d w in
      true_and _ _ (subst (λ s. is_entry d (46 ∷ []) s ≡ true) (sym h.self) (entry_same d (46 ∷ [])))
      (true_and _ _ (subst (λ s. is_entry (parent t d) (46 ∷ 46 ∷ []) s ≡ true) (sym h.up) (entry_same (parent t d) (46 ∷ 46 ∷ [])))
      (true_and _ _ h.walked (⊎_elim
      (λ (two : d ≡ 2). ap (λ b. cond b (parent t d == 2) (is_child t (parent t d) d)) (eq-eqb d 2 two) ∙ eq-eqb _ 2 (h.root two))
      (λ (no : d ≢ 2). ap (λ b. cond b (parent t d == 2) (is_child t (parent t d) d)) (ne_eqb d 2 no) ∙ h.child no)
      (cases_eq d 2))))

  -- what counts before a slot, and the slot
  count_holds : (d k i : ℕ) (name : List ℕ) → is_walked here d ≡ true → (1 ≤ d) × (d < 1 + here.inodes) → slot_at here d k ≡ Some (i, name) → k < length (seen_slots here d) → count_by (is_slot_of i) (slots_before here 0 d k) < 65535
  unfolding links
  count_holds d k i name w at is' lt =
      let t : Tree = tree f in
      let p = λ (s : Slot). is_slot_of i s in
      let pre : List Slot = flat_map (seen_in t 0) (range_with_len 1 (d - 1)) in
      let low = at.0 in let up = at.1 in
      let total = weak.names.linked i in
      let one = count_at (is_slot_of i) (seen_slots t d) k lt (subst (λ s. is_slot_of i s ≡ true) (sym is') (eq-eqb i i refl)) in
      let e1 : suc (d - 1) ≡ d = omega arith in let e2 : 1 + (d - 1) ≡ d = omega arith in
      let more : flat_map (seen_in t 0) (range_with_len 1 d) ≡ pre ++ seen_slots t d =
      subst (λ z. flat_map (seen_in t 0) (range_with_len 1 z) ≡ pre ++ seen_in t 0 (1 + (d - 1))) e1 (flat_more (seen_in t 0) 1 (d - 1))
      ∙ ap (λ z. pre ++ seen_in t 0 z) e2 ∙ ap (λ b. pre ++ cond b (seen_slots t d) []) w in
      let a = ap (count_by (is_slot_of i)) more ∙ sum_by-append (λ y. cond (is_slot_of i y) 1 0) pre (seen_slots t d) in
      let b = sum_by-append (λ y. cond (is_slot_of i y) 1 0) pre (take k (seen_slots t d)) in
      let e3 : d + (t.inodes - d) ≡ t.inodes = omega arith in
      let c = subst (λ z. count_by (is_slot_of i) (flat_map (seen_in t 0) (range_with_len 1 d)) ≤ count_by (is_slot_of i) (flat_map (seen_in t 0) (range_with_len 1 z))) e3 (count_flat (is_slot_of i) (seen_in t 0) d (t.inodes - d)) in
      omega arith

  -- a slot that names i has it
  names_it : (i : ℕ) (slot : Slot) → is_slot_of i slot ≡ true → (name : List ℕ) × (slot ≡ Some (i, name))
  names_it i None e = absurd (cc)
  names_it i (Some s) e = (s.1, (λ z. Some (eqb-true s.0 i e z, s.1)))

  only_holds : (d k i : ℕ) (name : List ℕ) → is_walked here d ≡ true → slot_at here d k ≡ Some (i, name) → is_only_child here d k i ≡ true
  unfolding In
  only_holds d k i name w at = ⊎_elim
      (λ (lt : k < 2). ap (λ b. cond (b || not (here.is_dir i)) true rest) (lt-ltb k 2 lt))
      (λ (le : 2 ≤ k). ap (λ b. cond (b || not (here.is_dir i)) true rest) (le-ltb k 2 le) ∙ ⊎_elim
      (λ (dir : here.is_dir i ≡ true). ap (λ b. cond (false || not b) true rest) dir ∙ true_and _ _
      (ap not (ne_eqb i 2 (weak.names.one_slot d d k k i name name w w le le dir at at).0))
      (ap not (not_all (list_any (is_slot_of i) (slots_before here 2 d k)) (λ any.
      let q = any_is (is_slot_of i) (slots_before here 2 d k) any in
      let s = names_it i q.0 q.2 in
      ⊎_elim
      (λ (l : In q.0 (flat_map (seen_in here 2) (range_with_len 1 (d - 1)))).
      let a = in_flat_map (seen_in here 2) q.0 (range_with_len 1 (d - 1)) l in
      let r = in_range_of a.0 1 (d - 1) a.1 in let up = r.1 in let low = r.0 in
      let b = walked_in a.0 q.0 a.2 in
      let c = in_drop q.0 2 (seen_slots here a.0) b.1 in
      let u = weak.names.one_slot d a.0 k c.0 i name s.0 w b.0 le c.1 dir at (c.3 ∙ s.1) in
      let e : d ≡ a.0 = u.1 in absurd (omega arith))
      (λ (l : In q.0 (drop 2 (take k (seen_slots here d)))).
      let c = in_drop q.0 2 (take k (seen_slots here d)) l in
      let lt : c.0 < k = omega (arith, c.2, length-take k (seen_slots here d)) in
      let u = weak.names.one_slot d d k c.0 i name s.0 w w le c.1 dir at (sym (get_or-take k (seen_slots here d) c.0 None lt) ∙ c.3 ∙ s.1) in
      let e : k ≡ c.0 = u.2 in absurd (omega arith))
      (in_append q.0 _ _ q.1)))))
      (λ (file : here.is_dir i ≡ false). ap (λ b. cond (false || not b) true rest) file)
      (cases_Bool (here.is_dir i)))
      (cases_lt k 2)
    where
      rest : Bool
      rest = not (i == 2) && not (list_any (is_slot_of i) (slots_before here 2 d k))

      walked_in : (e : ℕ) (x : Slot) → In x (seen_in here 2 e) → (is_walked here e ≡ true) × In x (drop 2 (seen_slots here e))
      walked_in e x = by_walked (is_walked here e) refl
        where
          by_walked : (b : Bool) → is_walked here e ≡ b → In x (cond b (drop 2 (seen_slots here e)) []) → (is_walked here e ≡ true) × In x (drop 2 (seen_slots here e))
          by_walked true w h = (w, h)
          by_walked false w h = absurd h

  entry_holds : (d k : ℕ) → is_walked here d ≡ true → (1 ≤ d) × (d < 1 + here.inodes) → k < length (seen_slots here d) → is_some_slot (slot_at here d k) ≡ true → has_entry f here d k ≡ true
  entry_holds d k w at lt some = by_slot (slot_at here d k) refl some
    where
      nameless_is : (i : ℕ) (name : List ℕ) → name ≢ [] → not (is_nameless (Some (i, name))) ≡ true
      nameless_is i [] ne = absurd (ne refl)
      nameless_is i (b ∷ bs) ne = refl

      by_slot : (s : Slot) → slot_at here d k ≡ s → is_some_slot s ≡ true → has_entry f here d k ≡ true
      by_slot None e h = absurd (cc)
      by_slot (Some x) e h =
          let u = weak.names.used d k x.0 x.1 w e in
          subst (λ s. ((f.head (number_in s)).is_used && (not (is_nameless s) && (ltb (count_by (is_slot_of (number_in s)) (slots_before here 0 d k)) 65535 && is_only_child here d k (number_in s)))) ≡ true) (sym e)
          (true_and _ _ u.0 (true_and _ _ (nameless_is x.0 x.1 u.1) (true_and _ _ (lt-ltb _ _ (count_holds d k x.0 x.1 w at e lt)) (only_holds d k x.0 x.1 w e))))

  -- ---- each test

  inode_tests_hold : (i : ℕ) (t : Test) → (1 ≤ i) → In t (inode_tests f i) → passes f t ≡ true
  unfolding In
  inode_tests_hold i t low = by_used (f.head i).is_used refl
    where
      of_place : (n : ℕ) → (f.head i).is_used ≡ true → n < 140 → In t (Address i n ∷ Shared i n ∷ []) → passes f t ≡ true
      of_place n used lt (inl e) = subst (λ q. passes f q ≡ true) (sym e) (address_holds i (place_at n))
      of_place n used lt (inr (inl e)) = subst (λ q. passes f q ≡ true) (sym e) (shared_holds i n low lt)
      of_place n used lt (inr (inr h)) = absurd h

      of_used : (f.head i).is_used ≡ true → In t (Kind i ∷ Length i ∷ flat_map (λ m. Address i m ∷ Shared i m ∷ []) (range_with_len 0 140)) → passes f t ≡ true
      of_used used (inl e) = subst (λ q. passes f q ≡ true) (sym e) (kind_holds i used)
      of_used used (inr (inl e)) = subst (λ q. passes f q ≡ true) (sym e) (length_holds i used)
      of_used used (inr (inr h)) = let a = in_flat_map (λ m. Address i m ∷ Shared i m ∷ []) t (range_with_len 0 140) h in let r = in_range_of a.0 0 140 a.1 in of_place a.0 used (omega (arith, r.1)) a.2

      of_free : (b : Bool) → (i == 2) ≡ b → (f.head i).is_used ≡ false → In t (cond b (Kind i ∷ []) []) → passes f t ≡ true
      of_free true two free h = let clash : (f.head i).is_used ≡ true = is.directories i (subst (λ z. is_directory (f.head z) ≡ true) (sym (eqb-true i 2 two)) weak.root) in absurd (cc)
      of_free false two free h = absurd h

      by_used : (b : Bool) → (f.head i).is_used ≡ b → In t (cond b (Kind i ∷ Length i ∷ flat_map (λ m. Address i m ∷ Shared i m ∷ []) (range_with_len 0 140)) (cond (i == 2) (Kind i ∷ []) [])) → passes f t ≡ true
      by_used true used h = of_used used h
      by_used false free h = of_free (i == 2) refl free h

  directory_tests_hold : (d : ℕ) (t : Test) → (1 ≤ d) × (d < 1 + here.inodes) → In t (directory_tests here d) → passes f t ≡ true
  unfolding In
  directory_tests_hold d t at = by_walked (is_walked here d) refl
    where
      of_slot : (k : ℕ) (b : Bool) → is_some_slot (slot_at here d k) ≡ b → is_walked here d ≡ true → k < length (seen_slots here d) → In t (cond b (Entry d k ∷ []) []) → passes f t ≡ true
      of_slot k true some w lt (inl e) = subst (λ q. passes f q ≡ true) (sym e) (entry_holds d k w at lt some)
      of_slot k true some w lt (inr h) = absurd h
      of_slot k false some w lt h = absurd h

      of_walked : is_walked here d ≡ true → In t (Dots d ∷ flat_map (slot_tests here d) (range_with_len 0 (length (seen_slots here d)))) → passes f t ≡ true
      of_walked w (inl e) = subst (λ q. passes f q ≡ true) (sym e) (dots_hold d w)
      of_walked w (inr h) = let a = in_flat_map (slot_tests here d) t (range_with_len 0 (length (seen_slots here d))) h in let r = in_range_of a.0 0 (length (seen_slots here d)) a.1 in
          of_slot a.0 (is_some_slot (slot_at here d a.0)) refl w (omega (arith, r.1)) a.2

      by_walked : (b : Bool) → is_walked here d ≡ b → In t (cond b (Dots d ∷ flat_map (slot_tests here d) (range_with_len 0 (length (seen_slots here d)))) []) → passes f t ≡ true
      by_walked true w h = of_walked w h
      by_walked false w h = absurd h

  each_passes : (t : Test) → In t (tests f) → passes f t ≡ true
  unfolding tests In
  each_passes t (inl e) = subst (λ q. passes f q ≡ true) (sym e) sizes_hold
  each_passes t (inr h) = ⊎_elim
      (λ (l : In t (flat_map (inode_tests f) (range_with_len 1 here.inodes))). let a = in_flat_map (inode_tests f) t (range_with_len 1 here.inodes) l in let r = in_range_of a.0 1 here.inodes a.1 in inode_tests_hold a.0 t r.0 a.2)
      (λ (l : In t (flat_map (directory_tests here) (range_with_len 1 here.inodes))). let a = in_flat_map (directory_tests here) t (range_with_len 1 here.inodes) l in let r = in_range_of a.0 1 here.inodes a.1 in directory_tests_hold a.0 t r a.2)
      (in_append t _ _ h)

  -- A Weak frame has no damage.
  pub no_damage_when_weak : damage f ≡ None
  no_damage_when_weak = find_all (λ t. not (passes f t)) (tests f) (λ t in'. ap not (each_passes t in'))
