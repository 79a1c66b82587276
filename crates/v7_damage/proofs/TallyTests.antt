-- The tests of the walked directories pass where these facts hold of all their slots.
use Rattle.std.proofs.Common.{◌≡◌, ◌≢◌, ℕ, suc, ◌+◌, ◌-◌, ◌<◌, ◌≤◌, Bool, true, false, cond, not, ◌&&◌, ◌||◌, List, [], ◌∷◌, ◌++◌, length, take, drop, get_or, refl, sym, ap, subst, ◌∙◌, arith, inl, inr, ⊎_elim, ltb, Some, None, eq-eqb, ◌==◌}
use Rattle.std.proofs.lemmas.Bool.{cases_lt, cases_Bool, ne_eqb, lt-ltb, le-ltb}
use Rattle.std.proofs.lemmas.List.{drop-take, get_or-drop, length-drop}
use Rattle.std.proofs.lemmas.List.Sums.{sum_by-append}
use Rattle.std.specs.List.{range_with_len, list_any, flat_map, count_by}
use Rattle.files_model.specs.Files.{Slot}
use Rattle.v7_map.specs.Frame.{Frame}
use Rattle.v7_map.specs.Tree.{Tree, tree, is_walked, seen_in, is_slot_of, number_in}
use Rattle.v7_map.specs.Weak.{slot_at}
use Rattle.v7_map.specs.Damage.{Test, Dots, Entry, passes, has_dots, has_entry, slot_tests, slots_before, directory_tests, is_some_slot, is_entry, is_nameless, is_only_child}
use Rattle.v7_map.proofs.Frames.{and_left, and_right}
use Rattle.v7_map.proofs.Members.{In, find_all, in_flat_map, in_range_of}
use Rattle.v7_map.proofs.SlotLists.{count_at, count_cons, count_one, count_flat, flat_more}
use Rattle.v7_damage.specs.Names.{begins_with_dots, is_held, tests_of_directories}
use Rattle.v7_damage.specs.Tallied.{is_good}
use Rattle.v7_damage.specs.Tests.{first_failing}

true_and : (a b : Bool) → a ≡ true → b ≡ true → (a && b) ≡ true
true_and true b e h = h
true_and false b e h = absurd (cc)

-- what doesn't count isn't there
none_counts : (p : Slot → Bool) (xs : List Slot) → count_by p xs ≡ 0 → list_any p xs ≡ false
none_counts p [] e = refl
none_counts p (x ∷ xs) e = ⊎_elim
    (λ (yes : p x ≡ true). let a = count_cons p x xs in let b = count_one p x yes in absurd (omega arith))
    (λ (no : p x ≡ false). let a = count_cons p x xs in ap (λ b. b || list_any p xs) no ∙ none_counts p xs (omega arith))
    (cases_Bool (p x))

module _ (f : Frame) (m : ℕ) where
  abbrev here : Tree
  here = tree f

  -- a slot counts on top of those before it, without the first n of each directory
  counts_on : (n d k i : ℕ) (name : List ℕ) → is_walked here d ≡ true → (1 ≤ d) × (d < 1 + m) → slot_at here d k ≡ Some (i, name) → n ≤ k → k < length (f.slots d)
      → count_by (is_slot_of i) (slots_before here n d k) + 1 ≤ count_by (is_slot_of i) (flat_map (seen_in here n) (range_with_len 1 m))
  counts_on n d k i name w at is' le lt =
      let t : Tree = tree f in
      let pre : List Slot = flat_map (seen_in t n) (range_with_len 1 (d - 1)) in
      let low = at.0 in let up = at.1 in
      let back : n + (k - n) ≡ k = omega arith in
      let long = length-drop n (f.slots d) in
      let there : get_or (drop n (f.slots d)) (k - n) None ≡ Some (i, name) = get_or-drop n (f.slots d) (k - n) None ∙ ap (λ j. get_or (f.slots d) j None) back ∙ is' in
      let one = count_at (is_slot_of i) (drop n (f.slots d)) (k - n) (omega arith) (subst (λ s. is_slot_of i s ≡ true) (sym there) (eq-eqb i i refl)) in
      let cut : drop n (take k (f.slots d)) ≡ take (k - n) (drop n (f.slots d)) = ap (λ j. drop n (take j (f.slots d))) (sym back) ∙ drop-take n (k - n) (f.slots d) in
      let e1 : suc (d - 1) ≡ d = omega arith in let e2 : 1 + (d - 1) ≡ d = omega arith in
      let more : flat_map (seen_in t n) (range_with_len 1 d) ≡ pre ++ drop n (f.slots d) =
      subst (λ z. flat_map (seen_in t n) (range_with_len 1 z) ≡ pre ++ seen_in t n (1 + (d - 1))) e1 (flat_more (seen_in t n) 1 (d - 1))
      ∙ ap (λ z. pre ++ seen_in t n z) e2 ∙ ap (λ b. pre ++ cond b (drop n (f.slots d)) []) w in
      let a = ap (count_by (is_slot_of i)) more ∙ sum_by-append (λ y. cond (is_slot_of i y) 1 0) pre (drop n (f.slots d)) in
      let b = ap (λ l. count_by (is_slot_of i) (pre ++ l)) cut ∙ sum_by-append (λ y. cond (is_slot_of i y) 1 0) pre (take (k - n) (drop n (f.slots d))) in
      let e3 : d + (m - d) ≡ m = omega arith in
      let c = subst (λ z. count_by (is_slot_of i) (flat_map (seen_in t n) (range_with_len 1 d)) ≤ count_by (is_slot_of i) (flat_map (seen_in t n) (range_with_len 1 z))) e3 (count_flat (is_slot_of i) (seen_in t n) d (m - d)) in
      omega arith

  module _ (good : (d k : ℕ) → is_walked here d ≡ true → k < length (f.slots d) → is_good f (slot_at here d k) ≡ true)
      (dotted : (d : ℕ) → is_walked here d ≡ true → begins_with_dots here d ≡ true)
      (held : (d : ℕ) → is_walked here d ≡ true → is_held here d ≡ true)
      (few : (i : ℕ) → count_by (is_slot_of i) (flat_map (seen_in here 0) (range_with_len 1 m)) ≤ 65535)
      (once : (i : ℕ) → here.is_dir i ≡ true → count_by (is_slot_of i) (flat_map (seen_in here 2) (range_with_len 1 m)) ≤ 1)
      (root : here.is_dir 2 ≡ true → count_by (is_slot_of 2) (flat_map (seen_in here 2) (range_with_len 1 m)) ≡ 0) where
    dots_hold : (d : ℕ) → is_walked here d ≡ true → has_dots here d ≡ true
    dots_hold d w =
        let t : Tree = tree f in
        let begins = dotted d w in
        let holds = held d w in
        true_and _ _ (and_left (is_entry d (46 ∷ []) (slot_at t d 0)) _ begins)
        (true_and _ _ (and_right (is_entry d (46 ∷ []) (slot_at t d 0)) _ begins) holds)

    not_root : (d k i : ℕ) (name : List ℕ) → is_walked here d ≡ true → (1 ≤ d) × (d < 1 + m) → slot_at here d k ≡ Some (i, name) → 2 ≤ k → k < length (f.slots d) → here.is_dir i ≡ true → i ≢ 2
    not_root d k i name w at is' le lt dir two =
        let c = counts_on 2 d k i name w at is' le lt in
        let z : count_by (is_slot_of i) (flat_map (seen_in here 2) (range_with_len 1 m)) ≡ 0 =
        subst (λ j. count_by (is_slot_of j) (flat_map (seen_in here 2) (range_with_len 1 m)) ≡ 0) (sym two) (root (subst (λ j. here.is_dir j ≡ true) two dir)) in
        omega arith

    only_holds : (d k i : ℕ) (name : List ℕ) → is_walked here d ≡ true → (1 ≤ d) × (d < 1 + m) → slot_at here d k ≡ Some (i, name) → k < length (f.slots d) → is_only_child here d k i ≡ true
    only_holds d k i name w at is' lt = ⊎_elim
        (λ (low : k < 2). ap (λ b. cond (b || not (here.is_dir i)) true rest) (lt-ltb k 2 low))
        (λ (le : 2 ≤ k). ap (λ b. cond (b || not (here.is_dir i)) true rest) (le-ltb k 2 le) ∙ ⊎_elim
        (λ (dir : here.is_dir i ≡ true). ap (λ b. cond (false || not b) true rest) dir ∙ true_and _ _
        (ap not (ne_eqb i 2 (not_root d k i name w at is' le lt dir)))
        (ap not (none_counts (is_slot_of i) (slots_before here 2 d k) (let c = counts_on 2 d k i name w at is' le lt in let o = once i dir in omega arith))))
        (λ (file : here.is_dir i ≡ false). ap (λ b. cond (false || not b) true rest) file)
        (cases_Bool (here.is_dir i)))
        (cases_lt k 2)
      where
        rest : Bool
        rest = not (i == 2) && not (list_any (is_slot_of i) (slots_before here 2 d k))

    entry_holds : (d k : ℕ) → is_walked here d ≡ true → (1 ≤ d) × (d < 1 + m) → k < length (f.slots d) → is_some_slot (slot_at here d k) ≡ true → has_entry f here d k ≡ true
    entry_holds d k w at lt some = by_slot (slot_at here d k) refl some
      where
        by_slot : (s : Slot) → slot_at here d k ≡ s → is_some_slot s ≡ true → has_entry f here d k ≡ true
        by_slot None e h = absurd (cc)
        by_slot (Some x) e h =
            let u : is_good f (Some (x.0, x.1)) ≡ true = subst (λ s. is_good f s ≡ true) e (good d k w lt) in
            let c = counts_on 0 d k x.0 x.1 w at e (omega arith) lt in
            let all = few x.0 in
            subst (λ s. ((f.head (number_in s)).is_used && (not (is_nameless s) && (ltb (count_by (is_slot_of (number_in s)) (slots_before here 0 d k)) 65535 && is_only_child here d k (number_in s)))) ≡ true) (sym e)
            (true_and _ _ (and_left (f.head x.0).is_used _ u) (true_and _ _ (and_right (f.head x.0).is_used _ u) (true_and _ _ (lt-ltb _ _ (omega arith)) (only_holds d k x.0 x.1 w at e lt))))

    directory_tests_hold : (d : ℕ) (t : Test) → (1 ≤ d) × (d < 1 + m) → In t (directory_tests here d) → passes f t ≡ true
    unfolding In
    directory_tests_hold d t at = by_walked (is_walked here d) refl
      where
        of_slot : (k : ℕ) (b : Bool) → is_some_slot (slot_at here d k) ≡ b → is_walked here d ≡ true → k < length (f.slots d) → In t (cond b (Entry d k ∷ []) []) → passes f t ≡ true
        of_slot k true some w lt (inl e) = subst (λ q. passes f q ≡ true) (sym e) (entry_holds d k w at lt some)
        of_slot k true some w lt (inr h) = absurd h
        of_slot k false some w lt h = absurd h

        of_walked : is_walked here d ≡ true → In t (Dots d ∷ flat_map (slot_tests here d) (range_with_len 0 (length (f.slots d)))) → passes f t ≡ true
        of_walked w (inl e) = subst (λ q. passes f q ≡ true) (sym e) (dots_hold d w)
        of_walked w (inr h) = let a = in_flat_map (slot_tests here d) t (range_with_len 0 (length (f.slots d))) h in let r = in_range_of a.0 0 (length (f.slots d)) a.1 in
            of_slot a.0 (is_some_slot (slot_at here d a.0)) refl w (omega (arith, r.1)) a.2

        by_walked : (b : Bool) → is_walked here d ≡ b → In t (cond b (Dots d ∷ flat_map (slot_tests here d) (range_with_len 0 (length (f.slots d)))) []) → passes f t ≡ true
        by_walked true w h = of_walked w h
        by_walked false w h = absurd h

    pub all_hold : first_failing f (tests_of_directories here 1 m) ≡ None
    unfolding first_failing tests_of_directories
    all_hold = find_all (λ t. not (passes f t)) (flat_map (directory_tests here) (range_with_len 1 m))
        (λ t in'. let a = in_flat_map (directory_tests here) t (range_with_len 1 m) in' in let r = in_range_of a.0 1 m a.1 in ap not (directory_tests_hold a.0 t r a.2))
