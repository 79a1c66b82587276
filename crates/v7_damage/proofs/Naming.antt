-- Slots that were passed over: how many name an i-number, and which directories they name.
use Rattle.std.proofs.Common.{◌≡◌, ◌≢◌, ℕ, ◌+◌, ◌-◌, ◌<◌, ◌≤◌, Bool, true, false, cond, not, ◌&&◌, ◌||◌, ◌==◌, List, [], ◌∷◌, ◌++◌, length, get_or, take, drop, append_assoc, refl, sym, ap, subst, ◌∙◌, arith, ⊎_elim, eqb, ltb, eq-eqb, Some, None}
use Rattle.std.specs.Prelude.{set, count_by}
use Rattle.std.specs.List.{range_with_len, list_any, flat_map, take_while}
use Rattle.std.proofs.lemmas.Bool.{cases_eq, cases_lt, ne_eqb, lt-ltb, le-ltb}
use Rattle.std.proofs.lemmas.List.{take_more, length-take-le, length-set, get_or-set_same, get_or-set_other, drop-append-le, drop_all}
use Rattle.std.proofs.lemmas.List.Folds.{list_any-append}
use Rattle.std.proofs.lemmas.List.Sums.{sum_by-append, take_while-cons}
use Rattle.v7_layout.specs.declared.slot.Slot.{Slot as Stored}
use Rattle.files_model.specs.Files.{Slot}
use Rattle.v7_map.specs.Frame.{Frame}
use Rattle.v7_map.specs.Weak.{slot_at}
use Rattle.v7_map.specs.Tree.{Tree, tree, is_slot_of, seen_in, number_in}
use Rattle.v7_map.specs.Damage.{is_only_child, is_nameless, is_some_slot, slots_before}
use Rattle.v7_damage.specs.Marks.{mark_at}
use Rattle.v7_damage.specs.Slots.{seen_slot}
use Rattle.v7_damage.specs.Walk.{is_dir_in}
use Rattle.v7_damage.specs.Names.{slots_until, slot_passes, AreTypes, AreCounts, AreNamed}

or_none : (a : Bool) → (a || false) ≡ a
or_none true = refl
or_none false = refl

-- ---- one slot more

module _ (t : Tree) (d k : ℕ) (lt : k < length (t.slots d)) where
  before : ℕ → List Slot
  before n = flat_map (seen_in t n) (range_with_len 1 (d - 1))

  pub until_all : slots_until t 0 d (k + 1) ≡ slots_until t 0 d k ++ slot_at t d k ∷ []
  unfolding slots_until
  until_all = ap (λ l. flat_map (seen_in t 0) (range_with_len 1 (d - 1)) ++ l) (take_more (t.slots d) k None lt) ∙ sym (append_assoc (flat_map (seen_in t 0) (range_with_len 1 (d - 1))) (take k (t.slots d)) (slot_at t d k ∷ []))

  pub until_past : 2 ≤ k → slots_until t 2 d (k + 1) ≡ slots_until t 2 d k ++ slot_at t d k ∷ []
  unfolding slots_until
  until_past past =
      let long : length (take k (t.slots d)) ≡ k = length-take-le k (t.slots d) (omega arith) in
      ap (λ l. flat_map (seen_in t 2) (range_with_len 1 (d - 1)) ++ drop 2 l) (take_more (t.slots d) k None lt)
      ∙ ap (λ l. flat_map (seen_in t 2) (range_with_len 1 (d - 1)) ++ l) (drop-append-le 2 (take k (t.slots d)) (slot_at t d k ∷ []) (omega arith))
      ∙ sym (append_assoc (flat_map (seen_in t 2) (range_with_len 1 (d - 1))) (drop 2 (take k (t.slots d))) (slot_at t d k ∷ []))

  pub until_first : k < 2 → slots_until t 2 d (k + 1) ≡ slots_until t 2 d k
  unfolding slots_until
  until_first low =
      let one : length (take k (t.slots d)) ≡ k = length-take-le k (t.slots d) (omega arith) in
      let two : length (take (k + 1) (t.slots d)) ≡ k + 1 = length-take-le (k + 1) (t.slots d) (omega arith) in
      ap (λ l. flat_map (seen_in t 2) (range_with_len 1 (d - 1)) ++ l) (drop_all 2 (take (k + 1) (t.slots d)) (omega arith) ∙ sym (drop_all 2 (take k (t.slots d)) (omega arith)))

-- ---- marks of named directories

any_more : (i : ℕ) (slots : List Slot) (s : Slot) → list_any (is_slot_of i) (slots ++ s ∷ []) ≡ (list_any (is_slot_of i) slots || is_slot_of i s)
any_more i slots s = list_any-append (is_slot_of i) slots (s ∷ []) ∙ ap (λ b. list_any (is_slot_of i) slots || b) (or_none (is_slot_of i s))

-- a slot that names no directory
pub named_other : (types : List ℕ) (named : List Bool) (slots : List Slot) (ino : ℕ) (name : List ℕ) → is_dir_in types ino ≡ false → AreNamed types named slots → AreNamed types named (slots ++ Some (ino, name) ∷ [])
named_other types named slots ino name other was = record {
  each = λ i dir.
      let ne : ino ≢ i = (λ e. let no : is_dir_in types i ≡ false = subst (λ j. is_dir_in types j ≡ false) e other in let clash : true ≡ false = sym dir ∙ no in absurd (cc)) in
      was.each i dir ∙ sym (any_more i slots (Some (ino, name)) ∙ ap (λ b. list_any (is_slot_of i) slots || b) (ne_eqb ino i ne) ∙ or_none (list_any (is_slot_of i) slots));
}

pub named_empty : (types : List ℕ) (named : List Bool) (slots : List Slot) → AreNamed types named slots → AreNamed types named (slots ++ None ∷ [])
named_empty types named slots was = record { each = λ i dir. was.each i dir ∙ sym (any_more i slots None ∙ or_none (list_any (is_slot_of i) slots)) }

or_true : (a : Bool) → (a || true) ≡ true
or_true true = refl
or_true false = refl

pub named_more : (types : List ℕ) (named : List Bool) (slots : List Slot) (ino : ℕ) (name : List ℕ) → ino < length named → AreNamed types named slots → AreNamed types (set named ino true) (slots ++ Some (ino, name) ∷ [])
named_more types named slots ino name lt was = record {
  each = λ i dir. ⊎_elim
      (λ (e : i ≡ ino). ap (mark_at (set named ino true)) e ∙ get_or-set_same named ino true false lt
      ∙ sym (any_more i slots (Some (ino, name)) ∙ ap (λ b. list_any (is_slot_of i) slots || b) (eq-eqb ino i (sym e)) ∙ or_true (list_any (is_slot_of i) slots)))
      (λ (ne : i ≢ ino). get_or-set_other named ino i true false ne ∙ was.each i dir
      ∙ sym (any_more i slots (Some (ino, name)) ∙ ap (λ b. list_any (is_slot_of i) slots || b) (ne_eqb ino i (λ e. ne (sym e))) ∙ or_none (list_any (is_slot_of i) slots)))
      (cases_eq i ino);
}

-- ---- counts

pub count_more : (i : ℕ) (slots : List Slot) (s : Slot) → count_by (is_slot_of i) (slots ++ s ∷ []) ≡ count_by (is_slot_of i) slots + cond (is_slot_of i s) 1 0
count_more i slots s = sum_by-append (λ y. cond (is_slot_of i y) 1 0) slots (s ∷ []) ∙ (let e : 0 + cond (is_slot_of i s) 1 0 ≡ cond (is_slot_of i s) 1 0 = omega arith in ap (λ n. count_by (is_slot_of i) slots + n) e)

pub counts_empty : (counts : List ℕ) (slots : List Slot) → AreCounts counts slots → AreCounts counts (slots ++ None ∷ [])
counts_empty counts slots was = record {
  each = λ i low lt. was.each i low lt ∙ (let e : count_by (is_slot_of i) slots ≡ count_by (is_slot_of i) slots + 0 = omega arith in e) ∙ sym (count_more i slots None);
}

pub counts_more : (counts : List ℕ) (slots : List Slot) (ino count : ℕ) (name : List ℕ) → ino < length counts → count ≡ get_or counts ino 0 → AreCounts counts slots → AreCounts (set counts ino (count + 1)) (slots ++ Some (ino, name) ∷ [])
counts_more counts slots ino count name lt is was = record {
  each = λ i low within.
      let inside : i < length counts = subst (λ n. i < n) (length-set counts ino (count + 1)) within in
      ⊎_elim
      (λ (e : i ≡ ino).
      let one : ◌≡◌ {A = ℕ} (cond (eqb ino i) 1 0) 1 = ap (λ b. cond b 1 0) (eq-eqb ino i (sym e)) in
      let had : get_or counts i 0 ≡ count_by (is_slot_of i) slots = was.each i low inside in
      let same : count ≡ get_or counts i 0 = is ∙ ap (λ j. get_or counts j 0) (sym e) in
      ap (λ j. get_or (set counts ino (count + 1)) j 0) e ∙ get_or-set_same counts ino (count + 1) 0 lt ∙ ap (λ n. n + 1) (same ∙ had)
      ∙ sym (count_more i slots (Some (ino, name)) ∙ ap (λ n. count_by (is_slot_of i) slots + n) one))
      (λ (ne : i ≢ ino).
      let none : ◌≡◌ {A = ℕ} (cond (eqb ino i) 1 0) 0 = ap (λ b. cond b 1 0) (ne_eqb ino i (λ e. ne (sym e))) in
      get_or-set_other counts ino i (count + 1) 0 ne ∙ was.each i low inside ∙ (let e : count_by (is_slot_of i) slots ≡ count_by (is_slot_of i) slots + 0 = omega arith in e)
      ∙ sym (count_more i slots (Some (ino, name)) ∙ ap (λ n. count_by (is_slot_of i) slots + n) none))
      (cases_eq i ino);
}

-- ---- the tests

module _ (f : Frame) (types : List ℕ) (are : AreTypes f types) (d k ino : ℕ) where
  dir-is : is_dir_in types ino ≡ (tree f).is_dir ino
  dir-is = ap (λ t. t == 4) (are.each ino)

  -- a slot past the first two that names a directory
  pub only-by : (named : List Bool) → AreNamed types named (slots_until (tree f) 2 d k) → 2 ≤ k → is_dir_in types ino ≡ true → is_only_child (tree f) d k ino ≡ (not (ino == 2) && not (mark_at named ino))
  unfolding slots_until
  only-by named was past dir =
      (λ z. cond (le-ltb k 2 past z || not ((sym dir-is ∙ dir) z)) true (not (ino == 2) && not (list_any (is_slot_of ino) (slots_before (tree f) 2 d k))))
      ∙ ap (λ b. not (ino == 2) && not b) (sym (was.each ino dir))

pub seen-some : (s : Stored) → s.ino ≢ 0 → seen_slot s ≡ Some (s.ino, take_while (λ b. not (b == 0)) s.name)
seen-some s some = λ z. cond (ne_eqb s.ino 0 some z) None (Some (s.ino, take_while (λ b. not (b == 0)) s.name))

pub seen-none : (s : Stored) → s.ino ≡ 0 → seen_slot s ≡ None
seen-none s none = λ z. cond (eq-eqb s.ino 0 none z) None (Some (s.ino, take_while (λ b. not (b == 0)) s.name))

pub has_name : (ino : ℕ) (name : List ℕ) → get_or name 0 0 ≢ 0 → is_nameless (Some (ino, take_while (λ b. not (b == 0)) name)) ≡ false
has_name ino [] some = absurd (some refl)
has_name ino (x ∷ xs) some = ap (λ l. is_nameless (Some (ino, l))) (take_while-cons (λ b. not (b == 0)) x xs) ∙ (λ z. is_nameless (Some (ino, cond (not (ne_eqb x 0 some z)) (x ∷ take_while (λ b. not (b == 0)) xs) [])))

module _ (f : Frame) (d k ino : ℕ) (name : List ℕ) (at : slot_at (tree f) d k ≡ Some (ino, name)) where
  -- the test of a slot that isn't empty
  passes-by : slot_passes f d k ≡ ((f.head ino).is_used && (not (is_nameless (Some (ino, name))) && (ltb (count_by (is_slot_of ino) (slots_until (tree f) 0 d k)) 65535 && is_only_child (tree f) d k ino)))
  unfolding slots_until
  passes-by = λ z. cond (is_some_slot (at z))
      ((f.head (number_in (at z))).is_used && (not (is_nameless (at z)) && (ltb (count_by (is_slot_of (number_in (at z))) (slots_before (tree f) 0 d k)) 65535 && is_only_child (tree f) d k (number_in (at z))))) true

  module _ (used : (f.head ino).is_used ≡ true) (named : is_nameless (Some (ino, name)) ≡ false) (count : ℕ) (is : count ≡ count_by (is_slot_of ino) (slots_until (tree f) 0 d k)) where
    pub passes-many : 65535 ≤ count → slot_passes f d k ≡ false
    passes-many many = passes-by ∙ (λ z. used z && (not (named z) && ((ap (λ n. ltb n 65535) (sym is) ∙ le-ltb count 65535 many) z && is_only_child (tree f) d k ino)))

    pub passes-few : count < 65535 → slot_passes f d k ≡ is_only_child (tree f) d k ino
    passes-few few = passes-by ∙ (λ z. used z && (not (named z) && ((ap (λ n. ltb n 65535) (sym is) ∙ lt-ltb count 65535 few) z && is_only_child (tree f) d k ino)))

pub used-by : (f : Frame) (types : List ℕ) (ino : ℕ) → AreTypes f types → get_or types ino 0 ≢ 0 → (f.head ino).is_used ≡ true
used-by f types ino are some = are.used ino ∙ ap not (ne_eqb (f.head ino).type 0 (λ e. some (are.each ino ∙ e)))

pub empty_until : (t : Tree) (d k : ℕ) (types : List ℕ) (named : List Bool) → k < length (t.slots d) → slot_at t d k ≡ None → AreNamed types named (slots_until t 2 d k) → AreNamed types named (slots_until t 2 d (k + 1))
empty_until t d k types named lt none was = ⊎_elim
    (λ (low : k < 2). subst (AreNamed types named) (sym (until_first t d k lt low)) was)
    (λ (past : 2 ≤ k). subst (AreNamed types named) (sym (until_past t d k lt past ∙ ap (λ s. slots_until t 2 d k ++ s ∷ []) none)) (named_empty types named (slots_until t 2 d k) was))
    (cases_lt k 2)
