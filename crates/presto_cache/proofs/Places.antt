-- Where a sector goes, and that a buffer is free.
use Rattle.std.proofs.Common.{◌≡◌, ◌≢◌, ℕ, zero, suc, ◌+◌, ◌<◌, ◌≤◌, Bool, true, false, not, cond, ◌&&◌, nat_eq, nat_lt, Option, Some, None, List, [], ◌∷◌, length, get_or, refl, sym, ◌∙◌, ap, arith}
use Rattle.std.specs.List.{position, position_or_len}
use Rattle.std.proofs.lemmas.List.Quantifiers.{position-Some}
use Rattle.std.proofs.lemmas.List.{get_or_past}
use Rattle.std.proofs.lemmas.Bool.{eqb-true, eq-eqb, ltb-true, ltb-false, true≢false}
use Rattle.std.proofs.lemmas.Bool.Decides.{nat_tests}
use Rattle.std.proofs.Math.Dec.{ltb, eqb}
use Rattle.presto_cache.specs.Slots.{is_dirty, in_doubt, sector_of, uses, at, AreSlots, IsPlace, IsUsed, NoDoubt, is_for, find_in, place_in, or_else}
use Rattle.presto_cache.specs.declared.slot.Slot.{Slot}
use Rattle.presto_cache.specs.declared.slot.Slot.TheVariants.{Free, Set, Doubt}
use Rattle.std.proofs.lemmas.Option.{none-some}
use Rattle.std.proofs.lemmas.List.Sums.{fails_before_first}

both : (a b : Bool) → (a && b) ≡ true → (a ≡ true) × (b ≡ true)
both true b h = (refl, h)
both false b h = absurd (true≢false (sym h))

before_first : {X : Type 0} (p : X → Bool) (xs : List X) (k : ℕ) (d : X) → length xs ≤ position_or_len p xs → k < length xs → p (get_or xs k d) ≡ false
before_first p xs k d none lt = fails_before_first p xs k d (omega arith)

pub position-None : (p : Slot → Bool) (xs : List Slot) → p Free ≡ false → position p xs ≡ None → (k : ℕ) → p (at xs k) ≡ false
position-None p xs default none k = case (ltb (position_or_len p xs) (length xs)) refl
  where
    case : (b : Bool) → ltb (position_or_len p xs) (length xs) ≡ b → p (at xs k) ≡ false
    case true is = absurd (none-some (position_or_len p xs) (sym none ∙ ap (λ b. cond b (Some (position_or_len p xs)) None) is))
    case false past = in_list (ltb k (length xs)) refl
      where
        in_list : (b : Bool) → ltb k (length xs) ≡ b → p (at xs k) ≡ false
        in_list true lt = before_first p xs k Free (ltb-false (position_or_len p xs) (length xs) past) (ltb-true k (length xs) lt)
        in_list false ge = ap p (get_or_past xs k Free (ltb-false k (length xs) ge)) ∙ default

pub no_entry : (slots : List Slot) (s : ℕ) → find_in slots s ≡ None → (k : ℕ) → is_dirty (at slots k) ≡ true → sector_of (at slots k) ≢ s
no_entry slots s none k dirty e =
    true≢false (sym (ap (λ b. b && nat_eq (sector_of (at slots k)) s) dirty ∙ eq-eqb (sector_of (at slots k)) s e) ∙ position-None (is_for s) slots refl none k)

pub entry_found : (slots : List Slot) (s i : ℕ) → find_in slots s ≡ Some i → (i < length slots) × (is_dirty (at slots i) ≡ true) × (sector_of (at slots i) ≡ s)
entry_found slots s i found =
    let at_i = position-Some (is_for s) slots i Free found in
    let two = both (is_dirty (at slots i)) (nat_eq (sector_of (at slots i)) s) at_i.1 in
    (at_i.0, two.0, eqb-true (sector_of (at slots i)) s two.1)

some_is : {i j : ℕ} → Some i ≡ Some j → i ≡ j
some_is e = cc

pub is_place : (buffers : ℕ) (slots : List Slot) (s i : ℕ) → AreSlots buffers slots → NoDoubt slots → place_in slots s ≡ Some i → IsPlace slots i s
is_place buffers slots s i are sure placed = case (find_in slots s) refl
  where
    case : (o : Option ℕ) → find_in slots s ≡ o → IsPlace slots i s
    case (Some j) found =
        let e : j ≡ i = some_is (sym (ap (λ (o : Option ℕ). or_else o (position (λ slot. not (is_dirty slot)) slots)) found) ∙ placed) in
        let there = entry_found slots s i (found ∙ ap (λ (k : ℕ). Some k) e) in
        record {
          in_range = there.0;
          others = λ k ne dirty same. are.sectors k i ne dirty there.1 (same ∙ sym there.2);
          this = λ _. there.2;
          sure = sure i;
        }
    case None missing =
        let free = position-Some (λ slot. not (is_dirty slot)) slots i Free (sym (ap (λ (o : Option ℕ). or_else o (position (λ slot. not (is_dirty slot)) slots)) missing) ∙ placed) in
        record {
          in_range = free.0;
          others = λ k ne dirty. no_entry slots s missing k dirty;
          this = λ dirty. absurd (true≢false (sym free.1 ∙ ap not dirty));
          sure = sure i;
        }

-- how many entries have a buffer below m
abbrev has_below : ℕ → Slot → Bool
has_below m Free = false
has_below m (Set s b) = nat_lt b m
has_below m (Doubt s o n c) = false

abbrev low : ℕ → Slot → ℕ
low m slot = cond (has_below m slot) 1 0

abbrev total : ℕ → List Slot → ℕ
total m [] = 0
total m (x ∷ xs) = low m x + total m xs

low_one : (m : ℕ) (x : Slot) → low m x ≤ 1
low_one m Free = omega arith
low_one m (Set s b) = grind (arith, nat_tests)
low_one m (Doubt s o n c) = omega arith

total_few : (m : ℕ) (xs : List Slot) → total m xs ≤ length xs
total_few m [] = omega arith
total_few m (x ∷ xs) = omega (arith, low_one m x, total_few m xs)

low_more : (m : ℕ) (x : Slot) → low m x ≤ low (suc m) x
low_more m Free = omega arith
low_more m (Set s b) = grind (arith, nat_tests)
low_more m (Doubt s o n c) = omega arith

total_more : (m : ℕ) (xs : List Slot) → total m xs ≤ total (suc m) xs
total_more m [] = omega arith
total_more m (x ∷ xs) = omega (arith, low_more m x, total_more m xs)

low_used : (m : ℕ) (x : Slot) → in_doubt x ≡ false → uses x m ≡ true → low m x < low (suc m) x
low_used m Free sure used = absurd (true≢false (sym used))
low_used m (Set s b) sure used = let e : b ≡ m = eqb-true b m used in grind (arith, nat_tests)
low_used m (Doubt s o n c) sure used = absurd (true≢false sure)

total_used : (m : ℕ) (xs : List Slot) (i : ℕ) → in_doubt (at xs i) ≡ false → uses (at xs i) m ≡ true → total m xs < total (suc m) xs
total_used m [] i sure used = absurd (true≢false (sym used))
total_used m (x ∷ xs) zero sure used = omega (arith, low_used m x sure used, total_more m xs)
total_used m (x ∷ xs) (suc i) sure used = omega (arith, low_more m x, total_used m xs i sure used)

all_used : (m : ℕ) (xs : List Slot) → NoDoubt xs → ((b : ℕ) → b < m → IsUsed xs b) → m ≤ total m xs
all_used zero xs sure used = omega arith
all_used (suc m) xs sure used =
    let top = used m (omega arith) in
    omega (arith, all_used m xs sure (λ b lt. used b (omega arith)), total_used m xs top.0 (sure top.0) top.1)

-- there are more buffers than entries
pub some_unused : (buffers : ℕ) (xs : List Slot) → AreSlots buffers xs → NoDoubt xs → 0 < buffers → ((b : ℕ) → b < buffers → IsUsed xs b) → ⊥
some_unused buffers xs are sure some used = omega (arith, are.count, all_used buffers xs sure used, total_few buffers xs)
