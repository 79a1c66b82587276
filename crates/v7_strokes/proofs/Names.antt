-- What slots name.
use Rattle.std.proofs.Common.{◌≡◌, ℕ, zero, suc, ◌+◌, ◌<◌, ◌≤◌, Bool, true, false, cond, ◌||◌, List, [], ◌∷◌, drop, get_or, refl, ap, ◌∙◌, arith, ⊎_elim, eqb-true, Some, None}
use Rattle.std.proofs.lemmas.Bool.{cases_Bool}
use Rattle.std.specs.List.{range_with_len, list_any, count_by, flat_map}
use Rattle.files_model.specs.Files.{Slot}
use Rattle.v7_map.specs.Tree.{Tree, is_walked, links, seen_in, seen_slots, is_slot_of, number_in}
use Rattle.v7_map.specs.Weak.{slot_at}
use Rattle.v7_map.proofs.Members.{In, any_is, in_flat_map}
use Rattle.v7_map.proofs.SlotLists.{count_cons, in_drop}
use Rattle.v7_map.proofs.Walks.{or_cases, or_right}

abbrev text_in : Slot → List ℕ
text_in None = []
text_in (Some e) = e.1

pub same_number : (i j : ℕ) (x y : List ℕ) → ◌≡◌ {A = Slot} (Some (i, x)) (Some (j, y)) → i ≡ j
same_number i j x y e = ap number_in e

pub some_slot : (i j : ℕ) (x y : List ℕ) → ◌≡◌ {A = Slot} (Some (i, x)) (Some (j, y)) → (i ≡ j) × (x ≡ y)
some_slot i j x y e = (ap number_in e, ap text_in e)

pub none_slot : (j : ℕ) (y : List ℕ) → ◌≡◌ {A = Slot} None (Some (j, y)) → ⊥
none_slot j y e = cc

-- a slot that names j
pub slot_of_any : (xs : List Slot) (n j : ℕ) → list_any (is_slot_of j) (drop n xs) ≡ true → (l : ℕ) × (n ≤ l) × (is_slot_of j (get_or xs l None) ≡ true)
slot_of_any [] zero j e = absurd (cc)
slot_of_any [] (suc n) j e = absurd (cc)
slot_of_any (x ∷ xs) zero j e = ⊎_elim
    (λ (h : is_slot_of j x ≡ true). (0, omega arith, h))
    (λ (h : list_any (is_slot_of j) xs ≡ true). let r = slot_of_any xs zero j h in (suc r.0, omega arith, r.2))
    (or_cases (is_slot_of j x) (list_any (is_slot_of j) xs) e)
slot_of_any (x ∷ xs) (suc n) j e = let r = slot_of_any xs n j e in let le = r.1 in (suc r.0, omega arith, r.2)
