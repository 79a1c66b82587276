-- What is free beside the entries.
use Rattle.std.proofs.Common.{◌≡◌, ◌≢◌, ⊎_elim, ℕ, zero, suc, ◌+◌, ◌<◌, ◌≤◌, Bool, true, false, not, cond, if◌then◌else◌, ◌||◌, nat_eq, nat_lt, Option, Some, None, List, [], ◌∷◌, length, get_or, set, take, refl, sym, ◌∙◌, ap, arith, length-set}
use Rattle.std.specs.List.{position, position_or_len}
use Rattle.std.proofs.lemmas.Bool.{ltb-true, ltb-false, true≢false}
use Rattle.std.proofs.lemmas.List.{get_or-set_same, get_or-set_other, get_or_past}
use Rattle.std.proofs.lemmas.List.Folds.{list_any_at, list_any_more}
use Rattle.std.proofs.Math.Dec.{ltb}
use Rattle.index_sets.specs.Free.{is_free, IsLowestFrom}
use Rattle.presto_cache.specs.Slots.{at, is_dirty, uses, is_some_of, IsUsed, IsUnused, IsLowestUnused, AreSlots, find_in, place_in, or_else}
use Rattle.presto_cache.specs.Spare.{IsSpareOf, is_used_in, marked, marked_one}
use Rattle.presto_cache.specs.declared.slot.Slot.{Slot}
use Rattle.presto_cache.specs.declared.slot.Slot.TheVariants.{Free, Set, Doubt}
use Rattle.presto_cache.specs.declared.spare.Spare.{Spare}
use Rattle.presto_cache.proofs.Slots.{at_set, or_cases}
use Rattle.presto_cache.proofs.Listing.{by_head, nat_eq_same, nat_eq_other}

below_or_past : {P : Type 0} (i n : ℕ) → (i < n → P) → (n ≤ i → P) → P
below_or_past {P} i n below past = case (ltb i n) refl
  where
    case : (b : Bool) → ltb i n ≡ b → P
    case true is = below (ltb-true i n is)
    case false is = past (ltb-false i n is)

neither : (a b : Bool) → (a || b) ≡ false → (a ≡ false) × (b ≡ false)
neither false b h = (refl, h)
neither true b h = absurd (true≢false h)

flipped : (b c : Bool) → c ≡ not b → c ≡ true → b ≡ false
flipped false c e h = refl
flipped true c e h = absurd (true≢false (sym h ∙ e))

flipped_back : (b c : Bool) → c ≡ not b → c ≡ false → b ≡ true
flipped_back true c e h = refl
flipped_back false c e h = absurd (true≢false (sym e ∙ h))

-- whether an entry takes a buffer, by the entries
used_by : (slots : List Slot) (b : ℕ) → is_used_in slots b ≡ true → IsUsed slots b
used_by [] b h = absurd (true≢false (sym h))
used_by (s ∷ slots) b h = ⊎_elim (λ here. (0, here)) (λ there. let u = used_by slots b there in (suc u.0, u.1)) (or_cases (uses s b) (is_used_in slots b) h)

unused_by : (slots : List Slot) (b : ℕ) → is_used_in slots b ≡ false → IsUnused slots b
unused_by [] b h i = refl
unused_by (s ∷ slots) b h zero = (neither (uses s b) (is_used_in slots b) h).0
unused_by (s ∷ slots) b h (suc i) = unused_by slots b (neither (uses s b) (is_used_in slots b) h).1 i

none_uses : (slots : List Slot) (b : ℕ) → IsUnused slots b → is_used_in slots b ≡ false
none_uses [] b h = refl
none_uses (s ∷ slots) b h = ap (λ t. t || is_used_in slots b) (h 0) ∙ none_uses slots b (λ i. h (suc i))

same_use : (slots : List Slot) (i : ℕ) (new : Slot) (b : ℕ) → uses new b ≡ uses (at slots i) b → is_used_in (set slots i new) b ≡ is_used_in slots b
same_use [] i new b e = refl
same_use (s ∷ slots) zero new b e = ap (λ t. t || is_used_in slots b) e
same_use (s ∷ slots) (suc i) new b e = ap (λ t. uses s b || t) (same_use slots i new b e)

-- the first entry that passes a test, by the entries
first_at : {X : Type 0} (p : X → Bool) (xs : List X) (i : ℕ) (d : X) → i < length xs → p (get_or xs i d) ≡ true → ((k : ℕ) → k < i → p (get_or xs k d) ≡ false) → position_or_len p xs ≡ i
first_at p [] i d lt here before = absurd (omega (arith, lt))
first_at p (x ∷ xs) zero d lt here before = ap (λ b. cond (not b) (1 + position_or_len p xs) 0) here
first_at p (x ∷ xs) (suc i) d lt here before =
    let rest = first_at p xs i d (omega (arith, lt)) here (λ k less. before (suc k) (omega (arith, less))) in
    ap (λ b. cond (not b) (1 + position_or_len p xs) 0) (before 0 (omega arith)) ∙ omega (arith, rest)

first_past : {X : Type 0} (p : X → Bool) (xs : List X) (d : X) → ((k : ℕ) → k < length xs → p (get_or xs k d) ≡ false) → position_or_len p xs ≡ length xs
first_past p [] d none = refl
first_past p (x ∷ xs) d none =
    let rest = first_past p xs d (λ k less. none (suc k) (omega (arith, less))) in
    ap (λ b. cond (not b) (1 + position_or_len p xs) 0) (none 0 (omega arith)) ∙ omega (arith, rest)

lt_is : (i n : ℕ) → i < n → nat_lt i n ≡ true
lt_is i n lt = case (ltb i n) refl
  where
    case : (b : Bool) → ltb i n ≡ b → nat_lt i n ≡ true
    case true is = is
    case false is = let past = ltb-false i n is in absurd (omega (arith, lt, past))

not_lt_is : (n : ℕ) → nat_lt n n ≡ false
not_lt_is n = case (ltb n n) refl
  where
    case : (b : Bool) → ltb n n ≡ b → nat_lt n n ≡ false
    case true is = let lt = ltb-true n n is in absurd (omega (arith, lt))
    case false is = is

free_below : (free : List Bool) (i : ℕ) → is_free free i ≡ true → i < length free
free_below free i h = below_or_past i (length free) (λ lt. lt) (λ past. absurd (true≢false (sym h ∙ get_or_past free i false past)))

module _ {count : ℕ} {slots : List Slot} {spare : Spare} (is : IsSpareOf count slots spare) where
  pub buffer_below : (b : ℕ) → IsLowestFrom spare.buffers 0 (Some b) → b < count
  buffer_below b lowest = let lt = free_below spare.buffers b lowest.1 in let size = is.buffers in omega (arith, lt, size)

  used : (b : ℕ) → b < count → is_free spare.buffers b ≡ false → IsUsed slots b
  used b lt h = used_by slots b (flipped_back (is_used_in slots b) (is_free spare.buffers b) (is.each_buffer b lt) h)

  -- the lowest buffer that it has
  pub lowest_unused : (b : ℕ) → IsLowestFrom spare.buffers 0 (Some b) → IsLowestUnused slots b
  lowest_unused b lowest =
      let lt = buffer_below b lowest in
      record {
        unused = unused_by slots b (flipped (is_used_in slots b) (is_free spare.buffers b) (is.each_buffer b lt) lowest.1);
        lower = λ c less. used c (omega (arith, less, lt)) (lowest.2 c (omega arith) less);
      }

  pub all_used : IsLowestFrom spare.buffers 0 None → (b : ℕ) → b < count → IsUsed slots b
  all_used none b lt = used b lt (none b (omega arith))

  -- the lowest entry that it has
  pub lowest_free : (found : Option ℕ) → IsLowestFrom spare.entries 0 found → found ≡ position (λ slot. not (is_dirty slot)) slots
  lowest_free (Some i) lowest =
      let lt : i < length slots = let below = free_below spare.entries i lowest.1 in let size = is.entries in omega (arith, below, size) in
      let first = first_at (λ slot. not (is_dirty slot)) slots i Free lt (sym (is.each_entry i lt) ∙ lowest.1)
      (λ k less. sym (is.each_entry k (omega (arith, less, lt))) ∙ lowest.2 k (omega arith) less) in
      sym (ap (λ n. cond (nat_lt n (length slots)) (Some n) None) first ∙ ap (λ b. cond b (Some i) None) (lt_is i (length slots) lt))
  lowest_free None none =
      let past = first_past (λ slot. not (is_dirty slot)) slots Free (λ k lt. sym (is.each_entry k lt) ∙ none k (omega arith)) in
      sym (ap (λ n. cond (nat_lt n (length slots)) (Some n) None) past ∙ ap (λ b. cond b (Some (length slots)) None) (not_lt_is (length slots)))

-- what marking does
set_at : (buffers : List Bool) (c b : ℕ) (free : Bool) → b < length buffers → is_free (set buffers c free) b ≡ (if nat_eq c b then free else is_free buffers b)
set_at buffers c b free lt = by_head c b
    (λ e. ap (λ n. is_free (set buffers n free) b) e ∙ get_or-set_same buffers b free false lt ∙ ap (λ t. if t then free else is_free buffers b) (sym (nat_eq_same c b e)))
    (λ ne. get_or-set_other buffers c b free false (λ e. ne (sym e)) ∙ ap (λ t. if t then free else is_free buffers b) (sym (nat_eq_other c b ne)))

marked_one_length : (o : Option ℕ) (free : Bool) (buffers : List Bool) → length (marked_one o free buffers) ≡ length buffers
marked_one_length None free buffers = refl
marked_one_length (Some c) free buffers = length-set buffers c free

marked_one_at : (o : Option ℕ) (free : Bool) (buffers : List Bool) (b : ℕ) → b < length buffers → is_free (marked_one o free buffers) b ≡ (if is_some_of o b then free else is_free buffers b)
marked_one_at None free buffers b lt = refl
marked_one_at (Some c) free buffers b lt = set_at buffers c b free lt

marked_length : (slot : Slot) (free : Bool) (buffers : List Bool) → length (marked slot free buffers) ≡ length buffers
marked_length Free free buffers = refl
marked_length (Set s c) free buffers = length-set buffers c free
marked_length (Doubt s o n k) free buffers = marked_one_length n free (marked_one o free buffers) ∙ marked_one_length o free buffers

marked_at : (slot : Slot) (free : Bool) (buffers : List Bool) (b : ℕ) → b < length buffers → is_free (marked slot free buffers) b ≡ (if uses slot b then free else is_free buffers b)
marked_at Free free buffers b lt = refl
marked_at (Set s c) free buffers b lt = set_at buffers c b free lt
marked_at (Doubt s o n k) free buffers b lt =
    let size = marked_one_length o free buffers in
    marked_one_at n free (marked_one o free buffers) b (omega (arith, lt, size)) ∙ ap (λ t. if is_some_of n b then free else t) (marked_one_at o free buffers b lt) ∙ either (is_some_of o b) (is_some_of n b)
  where
    either : (x y : Bool) → (if y then free else (if x then free else is_free buffers b)) ≡ (if x || y then free else is_free buffers b)
    either true true = refl
    either true false = refl
    either false true = refl
    either false false = refl

-- after another thing is known of an entry
module _ {count : ℕ} {slots : List Slot} {spare new : Spare} {i : ℕ} (slot : Slot) (is : IsSpareOf count slots spare) (lt : i < length slots)
    (apart : (j b : ℕ) → j ≢ i → uses (at slots i) b ≡ true → uses (at slots j) b ≡ true → ⊥)
    (buffers : new.buffers ≡ marked slot false (marked (at slots i) true spare.buffers)) (entries : new.entries ≡ set spare.entries i (not (is_dirty slot))) where
  size_before : length (marked (at slots i) true spare.buffers) ≡ count
  size_before = marked_length (at slots i) true spare.buffers ∙ is.buffers

  free_now : (b : ℕ) → b < count → is_free new.buffers b ≡ (if uses slot b then false else (if uses (at slots i) b then true else is_free spare.buffers b))
  free_now b below =
      let size = is.buffers in
      ap (λ l. is_free l b) buffers ∙ marked_at slot false (marked (at slots i) true spare.buffers) b (omega (arith, below, size_before))
      ∙ ap (λ t. if uses slot b then false else t) (marked_at (at slots i) true spare.buffers b (omega (arith, below, size)))

  only_it : (b : ℕ) → uses (at slots i) b ≡ true → uses slot b ≡ false → is_used_in (set slots i slot) b ≡ false
  only_it b was leaves = none_uses (set slots i slot) b (λ j. ⊎_elim
      (λ here. ap (λ s. uses s b) here.1 ∙ leaves)
      (λ there. ap (λ s. uses s b) there.1 ∙ no_other (uses (at slots j) b) (apart j b there.0 was))
      (at_set slots i j slot lt))
    where
      no_other : (t : Bool) → (t ≡ true → ⊥) → t ≡ false
      no_other true h = absurd (h refl)
      no_other false h = refl

  each_now : (b : ℕ) → b < count → is_free new.buffers b ≡ not (is_used_in (set slots i slot) b)
  each_now b below = free_now b below ∙ case (uses slot b) (uses (at slots i) b) refl refl
    where
      case : (x y : Bool) → uses slot b ≡ x → uses (at slots i) b ≡ y → (if x then false else (if y then true else is_free spare.buffers b)) ≡ not (is_used_in (set slots i slot) b)
      case true y takes was = sym (ap not (list_any_at (λ s. uses s b) (set slots i slot) i Free (let size = length-set slots i slot in omega (arith, lt, size)) (ap (λ s. uses s b) (get_or-set_same slots i slot Free lt) ∙ takes)))
      case false true takes was = sym (ap not (only_it b was takes))
      case false false takes was = is.each_buffer b below ∙ sym (ap not (same_use slots i slot b (takes ∙ sym was)))

  pub still_spare : IsSpareOf count (set slots i slot) new
  still_spare = record {
    buffers = ap length buffers ∙ marked_length slot false (marked (at slots i) true spare.buffers) ∙ size_before;
    each_buffer = each_now;
    entries = ap length entries ∙ length-set spare.entries i (not (is_dirty slot)) ∙ is.entries ∙ sym (length-set slots i slot);
    each_entry = λ j below. ⊎_elim
        (λ here. ap (λ l. is_free l j) entries ∙ ap (is_free (set spare.entries i (not (is_dirty slot)))) here.0
        ∙ get_or-set_same spare.entries i (not (is_dirty slot)) false (let size = is.entries in omega (arith, lt, size)) ∙ sym (ap (λ s. not (is_dirty s)) here.1))
        (λ there. ap (λ l. is_free l j) entries ∙ get_or-set_other spare.entries i j (not (is_dirty slot)) false there.0
        ∙ is.each_entry j (let size = length-set slots i slot in omega (arith, below, size)) ∙ sym (ap (λ s. not (is_dirty s)) there.1))
        (at_set slots i j slot lt);
  }

-- what is free beside the first entries
pub record IsSpareBeside (count n : ℕ) (slots : List Slot) (spare : Spare) : Type 0 where
  pub buffers : length spare.buffers ≡ count
  pub each_buffer : (b : ℕ) → b < count → is_free spare.buffers b ≡ not (is_used_in (take n slots) b)
  pub entries : length spare.entries ≡ length slots
  pub each_entry : (i : ℕ) → i < n → is_free spare.entries i ≡ not (is_dirty (at slots i))

module _ {count n : ℕ} {slots : List Slot} {spare new : Spare} (is : IsSpareBeside count n slots spare) (lt : n < length slots)
    (buffers : new.buffers ≡ marked (at slots n) false spare.buffers) (entries : new.entries ≡ set spare.entries n (not (is_dirty (at slots n)))) where
  pub one_more_beside : IsSpareBeside count (n + 1) slots new
  one_more_beside = record {
    buffers = ap length buffers ∙ marked_length (at slots n) false spare.buffers ∙ is.buffers;
    each_buffer = λ b below.
        ap (λ l. is_free l b) buffers ∙ marked_at (at slots n) false spare.buffers b (let size = is.buffers in omega (arith, below, size))
        ∙ ap (λ t. if uses (at slots n) b then false else t) (is.each_buffer b below) ∙ more (uses (at slots n) b) (is_used_in (take n slots) b)
        ∙ sym (ap not (list_any_more (λ s. uses s b) slots n Free lt));
    entries = ap length entries ∙ length-set spare.entries n (not (is_dirty (at slots n))) ∙ is.entries;
    each_entry = λ i below. by_head i n
        (λ e. ap (λ l. is_free l i) entries ∙ ap (is_free (set spare.entries n (not (is_dirty (at slots n))))) e
        ∙ get_or-set_same spare.entries n (not (is_dirty (at slots n))) false (let size = is.entries in omega (arith, lt, size)) ∙ ap (λ k. not (is_dirty (at slots k))) (sym e))
        (λ ne. ap (λ l. is_free l i) entries ∙ get_or-set_other spare.entries n i (not (is_dirty (at slots n))) false ne ∙ is.each_entry i (omega (arith, below, ne)));
  }
    where
      more : (x y : Bool) → (if x then false else not y) ≡ not (y || x)
      more true true = refl
      more true false = refl
      more false true = refl
      more false false = refl

-- a sector without an entry goes where the lowest free entry is
pub placed_free : {count : ℕ} {slots : List Slot} {spare : Spare} (sector : ℕ) (missing found : Option ℕ) → IsSpareOf count slots spare → missing ≡ find_in slots sector → missing ≡ None
    → IsLowestFrom spare.entries 0 found → found ≡ place_in slots sector
placed_free {slots = slots} sector missing found is looked none lowest = lowest_free is found lowest ∙ ap (λ (o : Option ℕ). or_else o (position (λ slot. not (is_dirty slot)) slots)) (sym none ∙ looked)

-- as `know` finds the entry
pub spare_after : {count : ℕ} {slots : List Slot} {spare new : Spare} {i : ℕ} {was : Slot} (slot : Slot) → IsSpareOf count slots spare → AreSlots count slots → i < length slots → was ≡ at slots i
    → new.buffers ≡ marked slot false (marked was true spare.buffers) → new.entries ≡ set spare.entries i (not (is_dirty slot)) → IsSpareOf count (set slots i slot) new
spare_after {spare = spare} {i = i} slot is are lt known buffers entries =
    still_spare slot is lt (λ j b ne u v. are.buffers_apart i j b (λ e. ne (sym e)) u v) (buffers ∙ ap (λ (s : Slot). marked slot false (marked s true spare.buffers)) known) entries
