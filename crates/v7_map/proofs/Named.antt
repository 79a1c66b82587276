-- What the slots of directories name.
use Rattle.std.proofs.Common.{◌≡◌, ℕ, ◌+◌, ◌<◌, ◌≤◌, Bool, true, false, cond, ◌||◌, List, [], ◌∷◌, refl, ap, ◌∙◌, arith, ⊎_elim, ltb, eqb-true, Some, None}
use Rattle.std.proofs.lemmas.Bool.{cases_Bool}
use Rattle.std.specs.List.{range_with_len, list_any, count_by, flat_map}
use Rattle.files_model.specs.Files.{Slot}
use Rattle.stable.specs.Store.{Image}
use Rattle.v7_map.specs.Frame.{is_directory, frame}
use Rattle.v7_map.specs.Tree.{Tree, tree, named, is_walked, is_named, links, seen_in, seen_slots, is_slot_of}
use Rattle.v7_map.specs.Weak.{slot_at}
use Rattle.v7_map.proofs.AnyFrame.{frame-IsFrame}
use Rattle.v7_map.proofs.Children.{has_slot-at}
use Rattle.v7_map.proofs.Members.{In, any_is, in_flat_map}
use Rattle.v7_map.proofs.SlotLists.{count_cons, in_drop}
use Rattle.v7_map.proofs.Walks.{walked_reached, reached_walked, or_cases, or_right}

-- a slot that names j has a name for it
pub names_is : (j : ℕ) (s : Slot) → is_slot_of j s ≡ true → (name : List ℕ) × (s ≡ Some (j, name))
names_is j None e = absurd (cc)
names_is j (Some (i, name)) e = (name, (λ z. Some (eqb-true i j e z, name)))

-- where some are counted, one passes
counted_any : (p : Slot → Bool) (xs : List Slot) → 0 < count_by p xs → list_any p xs ≡ true
counted_any p [] some = absurd (omega arith)
counted_any p (x ∷ xs) some = ⊎_elim
    (λ (yes : p x ≡ true). ap (λ b. b || list_any p xs) yes)
    (λ (no' : p x ≡ false). let c = count_cons p x xs in let z : ◌≡◌ {A = ℕ} (count_by p (x ∷ [])) 0 = ap (λ b. 0 + cond b 1 0) no' in
    or_right (p x) (list_any p xs) (counted_any p xs (omega arith)))
    (cases_Bool (p x))

not_in : (s : Slot) → In s [] → ⊥
unfolding In
not_in s h = h

-- what has a link is named by a slot of a walked directory
pub linked-slot : (t : Tree) (i : ℕ) → 0 < links t i → (e k : ℕ) × (name : List ℕ) × (is_walked t e ≡ true) × (slot_at t e k ≡ Some (i, name))
unfolding links
linked-slot t i some =
    let a = any_is (is_slot_of i) (flat_map (seen_in t 0) (range_with_len 1 t.inodes)) (counted_any (is_slot_of i) (flat_map (seen_in t 0) (range_with_len 1 t.inodes)) some) in
    let d = in_flat_map (seen_in t 0) a.0 (range_with_len 1 t.inodes) a.1 in
    by_walked d.0 a.0 a.2 (is_walked t d.0) refl d.2
  where
    by_walked : (d : ℕ) (s : Slot) → is_slot_of i s ≡ true → (b : Bool) → is_walked t d ≡ b → In s (cond b (seen_slots t d) [])
        → (e k : ℕ) × (name : List ℕ) × (is_walked t e ≡ true) × (slot_at t e k ≡ Some (i, name))
    by_walked d s names true w there = let at = in_drop s 0 (seen_slots t d) there in let n = names_is i s names in (d, at.0, n.0, w, at.3 ∙ n.1)
    by_walked d s names false w there = absurd (not_in s there)

above_zero : (n : ℕ) → ltb 0 n ≡ true → 0 < n
above_zero n h = grind arith

pub tree-numbers : (image : Image) (j : ℕ) → (tree (frame image)).is_dir j ≡ true → (1 ≤ j) × (j < 1 + (tree (frame image)).inodes)
tree-numbers image j dir = let is = frame-IsFrame image in let r = is.numbers j (is.directories j dir) in let high = r.1 in (r.0, omega arith)

module _ (image : Image) (i : ℕ) where
  linked_walked : is_directory ((frame image).head i) ≡ true → 0 < links (tree (frame image)) i → is_walked (tree (frame image)) i ≡ true
  linked_walked dir some =
      let e = linked-slot (tree (frame image)) i some in
      reached_walked (tree (frame image)) (tree-numbers image) (named (walked_reached (tree (frame image)) e.0 e.3) (has_slot-at (tree (frame image)) e.0 0 i e.1 e.2 (omega arith) e.4) dir)

  -- a directory that has a name is walked
  pub named_walked : is_directory ((frame image).head i) ≡ true → is_named (tree (frame image)) i ≡ true → is_walked (tree (frame image)) i ≡ true
  named_walked dir h = ⊎_elim (λ (w : is_walked (tree (frame image)) i ≡ true). w)
      (λ (l : ltb 0 (links (tree (frame image)) i) ≡ true). linked_walked dir (above_zero (links (tree (frame image)) i) l))
      (or_cases (is_walked (tree (frame image)) i) (ltb 0 (links (tree (frame image)) i)) h)
