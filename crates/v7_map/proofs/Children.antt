-- On a tree the walk goes through slots past the first two alone: `.` and `..` lead back.
use Rattle.std.proofs.Common.{◌≡◌, ◌≢◌, ℕ, ◌<◌, ◌≤◌, true, List, drop, refl, sym, ap, subst, ◌∙◌, arith, ⊎_elim, Some, None, eq-eqb, ◌+◌}
use Rattle.std.proofs.lemmas.Bool.{cases_eq, eqb-true}
use Rattle.std.specs.List.{list_any}
use Rattle.files_model.specs.Files.{Slot}
use Rattle.v7_map.specs.Frame.{Frame, IsFrame}
use Rattle.v7_map.specs.Tree.{Tree, tree, Walked, root, named, is_walked, is_child, is_slot_of, seen_slots, number_in}
use Rattle.v7_map.specs.Weak.{IsWeak, slot_at, parent}
use Rattle.v7_map.proofs.Members.{any_is, any_in}
use Rattle.v7_map.proofs.SlotLists.{in_drop, In-get_or}
use Rattle.v7_map.proofs.Walks.{reached_walked}

-- the directories that are found from the root through slots past the first two
pub data Descends (t : Tree) : ℕ → Type 0 where
  top : Descends t 2
  down : {d i : ℕ} → Descends t d → is_child t d i ≡ true → t.is_dir i ≡ true → Descends t i

slot_names : (i : ℕ) (s : Slot) → is_slot_of i s ≡ true → (name : List ℕ) × (s ≡ Some (i, name))
slot_names i None e = absurd (cc)
slot_names i (Some s) e = (s.1, (λ z. Some (eqb-true s.0 i e z, s.1)))

-- a slot of d from the n-th on that names i
slot_from : (t : Tree) (d n i : ℕ) → list_any (is_slot_of i) (drop n (seen_slots t d)) ≡ true → (k : ℕ) × (n ≤ k) × (name : List ℕ) × (slot_at t d k ≡ Some (i, name))
slot_from t d n i e =
    let a = any_is (is_slot_of i) (drop n (seen_slots t d)) e in
    let at = in_drop a.0 n (seen_slots t d) a.1 in
    let s = slot_names i a.0 a.2 in
    (at.0, at.1, s.0, at.3 ∙ s.1)

-- slot k names i
pub has_slot-at : (t : Tree) (d n i k : ℕ) (name : List ℕ) → n ≤ k → slot_at t d k ≡ Some (i, name) → list_any (is_slot_of i) (drop n (seen_slots t d)) ≡ true
has_slot-at t d n i k name le at = any_in (is_slot_of i) (Some (i, name)) (drop n (seen_slots t d)) (In-get_or (seen_slots t d) n k (i, name) le at) (eq-eqb i i refl)

module _ (f : Frame) (weak : IsWeak f) (is : IsFrame f) where
  abbrev t : Tree
  t = tree f

  numbers : (i : ℕ) → t.is_dir i ≡ true → (1 ≤ i) × (i < 1 + t.inodes)
  numbers i dir = let r = is.numbers i (is.directories i dir) in let high = r.1 in (r.0, omega arith)

  descends_is_walked : {d : ℕ} → Descends t d → Walked t d
  descends_is_walked top = root weak.root
  descends_is_walked (down {d = e} {i = i} from by dir) = let a = slot_from t e 2 i by in named (descends_is_walked from) (has_slot-at t e 0 i a.0 a.2 (omega arith) a.3) dir

  walks : {d : ℕ} → Walked t d → is_walked t d ≡ true
  walks w = reached_walked t numbers w

  -- where `..` leads from a directory that is found
  above : {d : ℕ} → Descends t d → is_walked t (parent t d) ≡ true → Descends t (parent t d)
  above top wp = subst (Descends t) (sym ((weak.names.dots 2 (walks (root weak.root))).root refl)) top
  above (down {d = e} {i = j} from by dir) wp =
      let w : is_walked t j ≡ true = walks (descends_is_walked (down from by dir)) in
      ⊎_elim
      (λ (two : j ≡ 2). subst (Descends t) (sym ((weak.names.dots j w).root two)) top)
      (λ (other : j ≢ 2).
      let a = slot_from t e 2 j by in
      let b = slot_from t (parent t j) 2 j ((weak.names.dots j w).child other) in
      subst (Descends t) (weak.names.one_slot e (parent t j) a.0 b.0 j a.2 b.2 (walks (descends_is_walked from)) wp a.1 b.1 dir a.3 b.3).1 from)
      (cases_eq j 2)

  pub walked_descends : {d : ℕ} → Walked t d → Descends t d
  walked_descends (root dir) = top
  walked_descends (named {d = d} {i = i} w by dir) =
      let from : Descends t d = walked_descends w in
      let a = slot_from t d 0 i by in
      let dots = weak.names.dots d (walks w) in
      let wi : is_walked t i ≡ true = walks (named w by dir) in
      ⊎_elim
      (λ (z : a.0 ≡ 0). let same : i ≡ d = ap number_in (sym a.3 ∙ ap (slot_at t d) z ∙ dots.self) in subst (Descends t) (sym same) from)
      (λ (nz : a.0 ≢ 0). ⊎_elim
      (λ (one : a.0 ≡ 1). let up : i ≡ parent t d = ap number_in (sym a.3 ∙ ap (slot_at t d) one) in subst (Descends t) (sym up) (above from (subst (λ q. is_walked t q ≡ true) up wi)))
      (λ (past : a.0 ≢ 1). down from (has_slot-at t d 2 i a.0 a.2 (omega arith) a.3) dir)
      (cases_eq a.0 1))
      (cases_eq a.0 0)

  -- the walk is the same
  pub descends_walked : {d : ℕ} → Descends t d → is_walked t d ≡ true
  descends_walked from = walks (descends_is_walked from)
