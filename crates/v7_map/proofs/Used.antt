-- A node of the view is used.
use Rattle.std.proofs.Common.{◌≡◌, ℕ, zero, suc, ◌+◌, ◌<◌, ◌≤◌, Bool, true, false, cond, List, [], ◌∷◌, length, get_or, refl, ap, arith, ⊎_elim, ltb, Some, None}
use Rattle.std.proofs.lemmas.Bool.{cases_Bool, cases_lt, eqb-true}
use Rattle.std.proofs.lemmas.List.Sums.{sum_by-append}
use Rattle.std.specs.List.{range_with_len, count_by, flat_map}
use Rattle.files_model.specs.Files.{Slot}
use Rattle.v7_map.specs.Frame.{Frame, is_directory}
use Rattle.v7_map.specs.Tree.{Tree, Walked, root, named, tree, is_walked, is_named, links, seen_in, seen_slots, is_slot_of}
use Rattle.v7_map.specs.Weak.{IsWeak, slot_at}
use Rattle.v7_map.proofs.Walks.{walked_reached, or_cases}

pub walked_is_dir : {t : Tree} {d : ℕ} → Walked t d → t.is_dir d ≡ true
walked_is_dir (root e) = e
walked_is_dir (named w by e) = e

-- some element passes
count_found : (p : Slot → Bool) (xs : List Slot) → 0 < count_by p xs → (k : ℕ) × (p (get_or xs k None) ≡ true) × (k < length xs)
count_found p [] h = absurd (omega arith)
count_found p (x ∷ xs) h = ⊎_elim
    (λ (yes : p x ≡ true). (0, yes, omega arith))
    (λ (no' : p x ≡ false).
    let a = cons p x xs in let b : ◌≡◌ {A = ℕ} (cond (p x) 1 0) 0 = ap (λ t. cond t 1 0) no' in
    let r = count_found p xs (omega arith) in let lt : r.0 < length xs = r.2 in (suc r.0, r.1, omega arith))
    (cases_Bool (p x))
  where
    cons : (p : Slot → Bool) (x : Slot) (xs : List Slot) → count_by p (x ∷ xs) ≡ (0 + cond (p x) 1 0) + count_by p xs
    cons p x xs = sum_by-append (λ y. cond (p y) 1 0) (x ∷ []) xs

flat_found : (p : Slot → Bool) (g : ℕ → List Slot) (a n : ℕ) → 0 < count_by p (flat_map g (range_with_len a n)) → (d : ℕ) × (0 < count_by p (g d))
flat_found p g a zero h = absurd (omega arith)
flat_found p g a (suc n) h = ⊎_elim
    (λ (yes : 0 < count_by p (g a)). (a, yes))
    (λ (none : count_by p (g a) ≤ 0). let e = sum_by-append (λ y. cond (p y) 1 0) (g a) (flat_map g (range_with_len (a + 1) n)) in flat_found p g (a + 1) n (omega arith))
    (cases_lt 0 (count_by p (g a)))

named_by : (i : ℕ) (s : Slot) → is_slot_of i s ≡ true → (name : List ℕ) × (s ≡ Some (i, name))
named_by i None e = absurd (cc)
named_by i (Some (j, name)) e = (name, ap (λ q. Some (q, name)) (eqb-true j i e))

module _ (f : Frame) (weak : IsWeak f) (directories : (i : ℕ) → is_directory (f.head i) ≡ true → (f.head i).is_used ≡ true) where
  walked_used : (i : ℕ) → is_walked (tree f) i ≡ true → (f.head i).is_used ≡ true
  walked_used i w = directories i (walked_is_dir {t = tree f} (walked_reached (tree f) i w))

  linked_used : (i : ℕ) → ltb 0 (links (tree f) i) ≡ true → (f.head i).is_used ≡ true
  unfolding links
  linked_used i h =
      let some : 0 < links (tree f) i = positive (links (tree f) i) h in
      let d = flat_found (is_slot_of i) (seen_in (tree f) 0) 1 (tree f).inodes some in
      by_walked i d.0 (is_walked (tree f) d.0) refl d.1
    where
      positive : (n : ℕ) → ltb 0 n ≡ true → 0 < n
      positive n h = grind arith

      by_walked : (i d : ℕ) (b : Bool) → is_walked (tree f) d ≡ b → 0 < count_by (is_slot_of i) (cond b (seen_slots (tree f) d) []) → (f.head i).is_used ≡ true
      by_walked i d true w h = let k = count_found (is_slot_of i) (seen_slots (tree f) d) h in let n = named_by i (slot_at (tree f) d k.0) k.1 in (weak.names.used d k.0 i n.0 w n.1).0
      by_walked i d false w h = absurd (omega arith)

  pub named_used : (i : ℕ) → is_named (tree f) i ≡ true → (f.head i).is_used ≡ true
  named_used i h = ⊎_elim (λ (w : is_walked (tree f) i ≡ true). walked_used i w) (λ (l : ltb 0 (links (tree f) i) ≡ true). linked_used i l) (or_cases (is_walked (tree f) i) (ltb 0 (links (tree f) i)) h)
