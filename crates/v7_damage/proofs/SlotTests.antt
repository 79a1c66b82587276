-- Slot by slot through a directory.
use Rattle.std.proofs.Common.{◌≡◌, ℕ, zero, suc, ◌+◌, ◌-◌, ◌<◌, true, false, cond, List, [], ◌∷◌, ◌++◌, map, length, get_or, refl, sym, ap, ◌∙◌, arith, ⊎_elim, Some, None}
use Rattle.std.specs.List.{range_with_len, flat_map}
use Rattle.std.proofs.lemmas.Bool.{cases_Bool}
use Rattle.v7_layout.specs.declared.slot.Slot.{Slot as Stored}
use Rattle.v7_map.specs.Frame.{Frame}
use Rattle.v7_map.specs.Weak.{slot_at}
use Rattle.v7_map.specs.Tree.{Tree, tree}
use Rattle.v7_map.specs.Damage.{Test, Entry, is_some_slot, slot_tests, has_entry}
use Rattle.v7_damage.specs.Slots.{seen_slot}
use Rattle.v7_damage.specs.Names.{slot_passes, tests_of_slots}
use Rattle.v7_damage.specs.Tests.{first_failing}
use Rattle.v7_damage.proofs.Failing.{fails_here, passes_on}

pub seen-at : (slots : List Stored) (k : ℕ) (d : Stored) → k < length slots → get_or (map seen_slot slots) k None ≡ seen_slot (get_or slots k d)
seen-at [] k d lt = absurd (omega arith)
seen-at (s ∷ ss) zero d lt = refl
seen-at (s ∷ ss) (suc k) d lt = seen-at ss k d (omega arith)

pub slots_more : (t : Tree) (d k n : ℕ) → k < n → tests_of_slots t d k (n - k) ≡ slot_tests t d k ++ tests_of_slots t d (k + 1) (n - (k + 1))
unfolding tests_of_slots
slots_more t d k n lt = let e : n - k ≡ suc (n - (k + 1)) = omega arith in ap (λ m. flat_map (slot_tests t d) (range_with_len k m)) e

pub slots_end : (t : Tree) (d k m : ℕ) → m ≡ 0 → tests_of_slots t d k m ≡ []
unfolding tests_of_slots
slots_end t d k m e = ap (λ m. flat_map (slot_tests t d) (range_with_len k m)) e

module _ (f : Frame) (d k : ℕ) (us : List Test) where
  pub slot_passed : slot_passes f d k ≡ true → first_failing f (slot_tests (tree f) d k ++ us) ≡ first_failing f us
  slot_passed e = ⊎_elim
      (λ (some : is_some_slot (slot_at (tree f) d k) ≡ true).
      let yes : has_entry f (tree f) d k ≡ true = sym (ap (λ b. cond b (has_entry f (tree f) d k) true) some) ∙ e in
      ap (λ b. first_failing f (cond b (Entry d k ∷ []) [] ++ us)) some ∙ passes_on f (Entry d k) us yes)
      (λ (none : is_some_slot (slot_at (tree f) d k) ≡ false). ap (λ b. first_failing f (cond b (Entry d k ∷ []) [] ++ us)) none)
      (cases_Bool (is_some_slot (slot_at (tree f) d k)))

  pub slot_failed : slot_passes f d k ≡ false → first_failing f (slot_tests (tree f) d k ++ us) ≡ Some (Entry d k)
  slot_failed e = ⊎_elim
      (λ (some : is_some_slot (slot_at (tree f) d k) ≡ true).
      let no : has_entry f (tree f) d k ≡ false = sym (ap (λ b. cond b (has_entry f (tree f) d k) true) some) ∙ e in
      ap (λ b. first_failing f (cond b (Entry d k ∷ []) [] ++ us)) some ∙ fails_here f (Entry d k) us no)
      (λ (none : is_some_slot (slot_at (tree f) d k) ≡ false). let clash : true ≡ false = sym (ap (λ b. cond b (has_entry f (tree f) d k) true) none) ∙ e in absurd (cc))
      (cases_Bool (is_some_slot (slot_at (tree f) d k)))
