-- The list of the directories that were found.
use Rattle.std.proofs.Common.{◌≡◌, ◌≢◌, ℕ, ◌+◌, ◌<◌, ◌≤◌, Bool, true, false, cond, not, ◌||◌, ◌&&◌, ◌==◌, List, [], ◌∷◌, ◌++◌, length, get_or, take, map, refl, sym, ap, subst, ◌∙◌, arith, ⊎_elim, eq-eqb, Some, None}
use Rattle.std.specs.Prelude.{set}
use Rattle.std.proofs.lemmas.Bool.{cases_eq, ne_eqb}
use Rattle.std.proofs.lemmas.List.{get_or-set_same, get_or-set_other, take_more, length_push, take-take, map-append}
use Rattle.std.proofs.lemmas.List.Folds.{list_any-append}
use Rattle.std.proofs.lemmas.List.Sums.{sum_by-set, count_by-le-length}
use Rattle.std.specs.List.{list_any, take_while}
use Rattle.v7_layout.specs.declared.slot.Slot.{Slot as Stored}
use Rattle.v7_map.specs.Tree.{is_slot_of}
use Rattle.v7_damage.specs.Marks.{mark_at, is_among}
use Rattle.v7_damage.specs.Slots.{seen_slot, names}
use Rattle.v7_damage.specs.Walk.{AreListed, is_dir_in}
use Rattle.v7_damage.proofs.MarkLists.{among-other, among-here}

-- one number more
pub listed_more : (marks : List Bool) (xs : List ℕ) (x : ℕ) → x < length marks → mark_at marks x ≡ false → AreListed marks xs → AreListed (set marks x true) (xs ++ x ∷ [])
listed_more marks xs x lt new was = record {
  each = λ i. ⊎_elim
      (λ (e : i ≡ x). subst (λ d. mark_at (set marks x true) d ≡ is_among (xs ++ x ∷ []) d) (sym e) (get_or-set_same marks x true false lt ∙ sym (among-here xs x)))
      (λ (ne : i ≢ x). get_or-set_other marks x i true false ne ∙ was.each i ∙ sym (among-other xs x i (λ e. ne (sym e))))
      (cases_eq i x);
  once =
      let grown = sum_by-set (λ (b : Bool). cond b 1 0) marks x true false lt in
      let was_none : ◌≡◌ {A = ℕ} (cond (get_or marks x false) 1 0) 0 = ap (λ b. cond b 1 0) new in
      let before = was.once in
      let long = length_push xs x in
      omega arith;
}

-- a list has no more numbers than there are marks
pub listed_few : (marks : List Bool) (xs : List ℕ) → AreListed marks xs → length xs ≤ length marks
listed_few marks xs are = let few = count_by-le-length (λ (b : Bool). b) marks in let once = are.once in omega arith

-- a slot that is stored names its number, but for 0
names_number : (s : Stored) (i : ℕ) → i ≢ 0 → is_slot_of i (seen_slot s) ≡ (s.ino == i)
names_number s i ne = ⊎_elim
    (λ (z : s.ino ≡ 0). ap (λ b. is_slot_of i (cond b None (Some (s.ino, take_while (λ b. not (b == 0)) s.name)))) (eq-eqb s.ino 0 z) ∙ sym (ne_eqb s.ino i (λ e. ne (sym e ∙ z))))
    (λ (nz : s.ino ≢ 0). ap (λ b. is_slot_of i (cond b None (Some (s.ino, take_while (λ b. not (b == 0)) s.name)))) (ne_eqb s.ino 0 nz))
    (cases_eq s.ino 0)

or_false : (a : Bool) → (a || false) ≡ a
or_false true = refl
or_false false = refl

-- one slot more
pub names_more : (slots : List Stored) (k : ℕ) (d : Stored) (i : ℕ) → k < length slots → i ≢ 0 → names (take (k + 1) slots) i ≡ (names (take k slots) i || ((get_or slots k d).ino == i))
unfolding names
names_more slots k d i lt ne =
    ap (λ l. list_any (is_slot_of i) (map seen_slot l)) (take_more slots k d lt)
    ∙ ap (list_any (is_slot_of i)) (map-append seen_slot (take k slots) (get_or slots k d ∷ []))
    ∙ list_any-append (is_slot_of i) (map seen_slot (take k slots)) (seen_slot (get_or slots k d) ∷ [])
    ∙ ap (λ b. list_any (is_slot_of i) (map seen_slot (take k slots)) || b) (or_false (is_slot_of i (seen_slot (get_or slots k d))) ∙ names_number (get_or slots k d) i ne)

-- the marks with one slot more
pub marks_more : (a d n e s : Bool) → (d ≡ true → s ≡ (n || e)) → ((a || (d && n)) || (d && e)) ≡ (a || (d && s))
marks_more true d n e s h = refl
marks_more false true n e s h = sym (h refl)
marks_more false false n e s h = refl

pub names_none : (slots : List Stored) (i : ℕ) → names (take 0 slots) i ≡ false
unfolding names
names_none slots i = refl

-- nothing at the front changes
pub front_stays : (a b c : List ℕ) → length a ≤ length b → take (length a) b ≡ a → take (length b) c ≡ b → take (length a) c ≡ a
front_stays a b c le front next = sym (take-take (length a) (length b) c le) ∙ ap (take (length a)) next ∙ front

-- 0 is no directory's number
pub some_number : (types : List ℕ) (i : ℕ) → get_or types 0 0 ≡ 0 → is_dir_in types i ≡ true → i ≢ 0
some_number types i none dir z = let no : is_dir_in types 0 ≡ false = ap (λ t. t == 4) none in let yes : is_dir_in types 0 ≡ true = subst (λ j. is_dir_in types j ≡ true) z dir in absurd (cc)

pub marks_start : (slots : List Stored) (a d : Bool) (i : ℕ) → a ≡ (a || (d && names (take 0 slots) i))
unfolding names
marks_start slots true d i = refl
marks_start slots false true i = refl
marks_start slots false false i = refl
