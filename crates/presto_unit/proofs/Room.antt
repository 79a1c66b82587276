-- Room for a sector on a board.
use Rattle.std.proofs.Common.{◌≡◌, ◌≢◌, ⊎_elim, ℕ, ◌<◌, ◌≤◌, Bool, true, false, not, cond, suc, Option, Some, None, IsSome, List, [], ◌∷◌, ◌+◌, nat_eq, if◌then◌else◌, Result, Ok, Err, drop, length, set, refl, sym, ◌∙◌, ap, subst, arith}
use Rattle.std.specs.List.{position, position_or_len}
use Rattle.std.proofs.lemmas.Bool.{true≢false, eq-eqb, ltb-false}
use Rattle.std.proofs.Math.Dec.{ltb}
use Rattle.std.proofs.lemmas.List.Sums.{fails_before_first}
use Rattle.std.proofs.lemmas.List.{length-set}
use Rattle.std.proofs.lemmas.Option.{none-some}
use Rattle.rig.specs.declared.rig.Rig.{Ghosts}
use Rattle.presto_cache.specs.Calls.{KeptIt}
use Rattle.presto_unit.specs.Putting.{StandsOnBoard}
use Rattle.presto_unit.proofs.Entries.{sent_adds, stuck_adds}
use Rattle.presto_cache.specs.Slots.{at, is_dirty, in_doubt, sector_of, is_for, find_in, place_in, or_else, NoDoubt, IsLowestUnused, IsPlace}
use Rattle.presto_cache.specs.Order.{listed}
use Rattle.presto_cache.specs.Entries.{Entry, changed, entries_in, oldest_in, with_entry, without_entry}
use Rattle.presto_cache.specs.Cache.{slots_of, entries_of, buffers_of, Becomes, IsKept, IsKeptInDoubt, Same}
use Rattle.presto_cache.specs.declared.slot.Slot.{Slot}
use Rattle.presto_cache.specs.declared.slot.Slot.TheVariants.{Free, Set}
use Rattle.presto_cache.specs.declared.cache.Cache.{Cache}
use Rattle.presto_cache.proofs.Slots.{at_set}
use Rattle.presto_cache.proofs.Places.{is_place, position-None}
use Rattle.presto_cache.proofs.Listing.{none_listed}
use Rattle.presto_unit.specs.Flushing.{oldest_sector, IsPutOnBoard, IsTried, RoomMade}

-- none passes
none_within : (p : Slot → Bool) (xs : List Slot) (k : ℕ) → position p xs ≡ None → k < length xs → p (at xs k) ≡ false
none_within p xs k none lt = case (ltb (position_or_len p xs) (length xs)) refl
  where
    case : (b : Bool) → ltb (position_or_len p xs) (length xs) ≡ b → p (at xs k) ≡ false
    case true is = absurd (none-some (position_or_len p xs) (sym none ∙ ap (λ b. cond b (Some (position_or_len p xs)) None) is))
    case false past = fails_before_first p xs k Free (let past_is = ltb-false (position_or_len p xs) (length xs) past in omega arith)

free_none : (a b : Option ℕ) → or_else a b ≡ None → b ≡ None
free_none None b e = e
free_none (Some i) b e = absurd (none-some i (sym e))

not_false : (b : Bool) → not b ≡ false → b ≡ true
not_false true e = refl
not_false false e = absurd (true≢false e)

-- where there is no room, each entry is dirty
pub full_dirty : (slots : List Slot) (s k : ℕ) → place_in slots s ≡ None → k < length slots → is_dirty (at slots k) ≡ true
full_dirty slots s k full lt = not_false (is_dirty (at slots k)) (none_within (λ slot. not (is_dirty slot)) slots k (free_none (find_in slots s) (position (λ slot. not (is_dirty slot)) slots) full) lt)

-- one is free after an entry was sent
pub room_after : (slots : List Slot) (s i : ℕ) → i < length slots → place_in (set slots i Free) s ≢ None
room_after slots s i lt none = ⊎_elim
    (λ a. true≢false (sym (full_dirty (set slots i Free) s i none (let n = length-set slots i Free in omega (arith, lt, n))) ∙ ap is_dirty a.1))
    (λ a. a.0 refl)
    (at_set slots i i Free lt)

nothing_oldest : (es : List Entry) → oldest_in es ≡ None → length es ≡ 0
nothing_oldest [] e = refl
nothing_oldest (x ∷ es) e = absurd (none-some x.index (sym e))

length_entries : (slots : List Slot) (order : List ℕ) → length (entries_in slots order) ≡ length order
length_entries slots [] = refl
length_entries slots (x ∷ xs) = ap suc (length_entries slots xs)

-- without entries none is dirty
pub none_dirty : (c : Cache) → length (entries_of c) ≡ 0 → (i : ℕ) → is_dirty (at (slots_of c) i) ≡ false
none_dirty c none = let e = length_entries (slots_of c) (listed c.order) in none_listed (slots_of c) (listed c.order) c.ordered (omega (arith, e, none))

pub no_oldest : (c : Cache) → oldest_in (entries_of c) ≡ None → (i : ℕ) → is_dirty (at (slots_of c) i) ≡ false
no_oldest c none = none_dirty c (nothing_oldest (entries_of c) none)

-- a full board has an oldest entry
pub full_oldest : (c : Cache) (s : ℕ) → 2 ≤ buffers_of c → place_in (slots_of c) s ≡ None → oldest_in (entries_of c) ≡ None → ⊥
full_oldest c s some full none =
    true≢false (sym (full_dirty (slots_of c) s 0 full (let n = c.are.count in omega (arith, n, some))) ∙ no_oldest c none 0)

-- the sector of the oldest entry
oldest_is : (slots : List Slot) (order : List ℕ) (i : ℕ) → oldest_in (entries_in slots order) ≡ Some i → oldest_sector (entries_in slots order) ≡ sector_of (at slots i)
oldest_is slots [] i e = absurd (none-some i e)
oldest_is slots (x ∷ xs) i e = ap (λ n. sector_of (at slots n)) (some_same e)
  where
    some_same : {a b : ℕ} → Some a ≡ Some b → a ≡ b
    some_same h = cc

pub sector_of_oldest : (c : Cache) (i : ℕ) → oldest_in (entries_of c) ≡ Some i → sector_of (at (slots_of c) i) ≡ oldest_sector (entries_of c)
sector_of_oldest c i e = sym (oldest_is (slots_of c) (listed c.order) i e)

-- a kept sector has an entry
pub kept_stands : (old new : Cache) (s : ℕ) → NoDoubt (slots_of old) → IsKept s old new → IsSome (find_in (slots_of new) s)
kept_stands old new s sure kept = case (find_in (slots_of new) s) refl
  where
    place : IsPlace (slots_of old) kept.index s
    place = is_place (buffers_of old) (slots_of old) s kept.index old.are sure kept.place

    there : at (slots_of new) kept.index ≡ Set s kept.buffer
    there = ap (λ (l : List Slot). at l kept.index) kept.is.slots ∙ ⊎_elim (λ a. a.1) (λ a. absurd (a.0 refl)) (at_set (slots_of old) kept.index kept.index (Set s kept.buffer) place.in_range)

    case : (o : Option ℕ) → find_in (slots_of new) s ≡ o → IsSome o
    case (Some i) e = refl
    case None e = absurd (true≢false (sym (ap (is_for s) there ∙ eq-eqb s s refl) ∙ position-None (is_for s) (slots_of new) refl e kept.index))

-- no entry is in doubt once a sector is kept
pub kept_sure : (old new : Cache) (s : ℕ) → NoDoubt (slots_of old) → IsKept s old new → NoDoubt (slots_of new)
kept_sure old new s sure kept i =
    ap (λ (l : List Slot). in_doubt (at l i)) kept.is.slots
    ∙ ⊎_elim (λ a. ap in_doubt a.1) (λ a. ap in_doubt a.1 ∙ sure i) (at_set (slots_of old) kept.index i (Set s kept.buffer) (is_place (buffers_of old) (slots_of old) s kept.index old.are sure kept.place).in_range)

-- a sector was kept where there was room
pub put_now : {R : Type 0} (r : Ghosts R) {rig now : R} (old new : Cache) (s : ℕ) (bytes : List ℕ) → NoDoubt (slots_of old) → place_in (slots_of old) s ≢ None → KeptIt r s bytes rig now old new → StandsOnBoard r s bytes rig now old new
put_now r old new s bytes sure room kept = record {
  put = record { kept = λ _. kept.cache; full = λ none. absurd (room none) };
  stands = kept_stands old new s sure kept.cache;
  sure = kept_sure old new s sure kept.cache;
  image = kept.image;
}

-- what becomes of one entry adds one at most
with_few : (e : Entry) (es : List Entry) → length (with_entry e es) ≤ length es + 1
with_few e [] = omega arith
with_few e (x ∷ es) = case (nat_eq x.index e.index) (with_few e es)
  where
    case : (b : Bool) → length (with_entry e es) ≤ length es + 1 → length (if b then e ∷ es else x ∷ with_entry e es) ≤ suc (length es) + 1
    case true few = omega arith
    case false few = omega (arith, few)

without_few : (i : ℕ) (es : List Entry) → length (without_entry i es) ≤ length es
without_few i [] = omega arith
without_few i (x ∷ es) = case (nat_eq x.index i) (without_few i es)
  where
    case : (b : Bool) → length (without_entry i es) ≤ length es → length (if b then es else x ∷ without_entry i es) ≤ suc (length es)
    case true few = omega arith
    case false few = omega (arith, few)

pub becomes_few : (old new : Cache) (i : ℕ) (slot : Slot) → Becomes i slot old new → length (entries_of new) ≤ length (entries_of old) + 1
becomes_few old new i slot is = subst (λ (n : ℕ). n ≤ length (entries_of old) + 1) (sym (ap length is.entries)) (case (is_dirty slot))
  where
    case : (b : Bool) → length (if b then with_entry (record { index = i; slot = slot }) (entries_of old) else without_entry i (entries_of old)) ≤ length (entries_of old) + 1
    case true = with_few (record { index = i; slot = slot }) (entries_of old)
    case false = let few = without_few i (entries_of old) in omega (arith, few)

pub failed_few : (old new : Cache) (s : ℕ) → IsKeptInDoubt s old new → length (entries_of new) ≤ length (entries_of old) + 1
failed_few old new s failed = ⊎_elim (λ same. let e = ap length same.entries in omega (arith, e)) (λ is. becomes_few old new failed.index _ is) failed.is

pub sent_few : {T E : Type 0} (old new : Cache) (i : ℕ) (result : Result T E) → i < length (slots_of old) → is_dirty (at (slots_of old) i) ≡ true → oldest_in (entries_of old) ≡ Some i → IsTried i result old new → length (entries_of new) ≤ length (entries_of old)
sent_few old new i (Ok x) lt dirty oldest is = (sent_adds old i lt dirty oldest new is).count
sent_few old new i (Err e) lt dirty oldest is = (stuck_adds old i lt dirty oldest new is).count

-- the same of a cache that is known to be the same
same_kept : (a b c : Cache) (s : ℕ) → Same a b → IsKept s b c → IsKept s a c
same_kept a b c s same kept = record {
  index = kept.index;
  buffer = kept.buffer;
  place = ap (λ (l : List Slot). place_in l s) (sym same.slots) ∙ kept.place;
  lowest = subst (λ (l : List Slot). IsLowestUnused l kept.buffer) same.slots kept.lowest;
  is = record {
    slots = kept.is.slots ∙ ap (λ (l : List Slot). set l kept.index (Set s kept.buffer)) same.slots;
    entries = kept.is.entries ∙ ap (changed kept.index (Set s kept.buffer)) same.entries;
  };
}

same_room : (a b c : Cache) (s : ℕ) → Same a b → RoomMade s b c → RoomMade s a c
same_room a b c s same room = record {
  index = room.index;
  mid = room.mid;
  oldest = ap oldest_in (sym same.entries) ∙ room.oldest;
  sent = record { slots = room.sent.slots ∙ ap (λ (l : List Slot). set l room.index Free) same.slots; entries = room.sent.entries ∙ ap (drop 1) same.entries };
  kept = room.kept;
}

pub same_put : (a b c : Cache) (s : ℕ) → Same a b → IsPutOnBoard s b c → IsPutOnBoard s a c
same_put a b c s same put = record {
  kept = λ room. same_kept a b c s same (put.kept (λ none. room (ap (λ (l : List Slot). place_in l s) (sym same.slots) ∙ none)));
  full = λ none. same_room a b c s same (put.full (ap (λ (l : List Slot). place_in l s) same.slots ∙ none));
}
