-- What becomes of the entries.
use Rattle.std.proofs.Common.{◌≡◌, ◌⊎◌, inl, inr, ⊎_elim, ℕ, ◌+◌, ◌<◌, ◌≤◌, List, [], ◌∷◌, ◌++◌, map, suc, Option, Some, None, IsSome, true, false, length, drop, set, refl, sym, ◌∙◌, ap, arith, length-append, if◌then◌else◌}
use Rattle.std.proofs.lemmas.Bool.{true≢false}
use Rattle.presto_cache.specs.Slots.{at, is_dirty, in_doubt, sector_of, clear_failed, NoDoubt, AreSlots, find_in}
use Rattle.presto_cache.specs.Entries.{Entry, entries_in, entry_in, with_entry, without_entry, changed, oldest_in}
use Rattle.presto_cache.specs.Cache.{slots_of, entries_of, Becomes, Same, IsLast}
use Rattle.presto_cache.specs.declared.slot.Slot.{Slot}
use Rattle.presto_cache.specs.declared.slot.Slot.TheVariants.{Free, Set, Doubt}
use Rattle.presto_cache.specs.declared.cache.Cache.{Cache}
use Rattle.presto_cache.proofs.Slots.{at_set}
use Rattle.presto_cache.proofs.Listing.{nat_eq_same, nat_eq_other, by_head, length_without as without_length, without_in}
use Rattle.presto_cache.specs.Order.{listed, times, without}
use Rattle.presto_cache.proofs.Places.{entry_found}
use Rattle.presto_cache.proofs.Clearing.{failed_sector_of}
use Rattle.stable.specs.Counts.{Rose}
use Rattle.stable.specs.declared.state.Cause.{Cause}
use Rattle.presto_unit.specs.Flushing.{AddsNone, NoDirty, IsSent, IsStuck, IsStuckNext}

-- ---- slots

pub failed_dirty : (slot : Slot) → is_dirty slot ≡ true → is_dirty (clear_failed slot) ≡ true
failed_dirty Free h = h
failed_dirty (Set s b) h = refl
failed_dirty (Doubt s o n c) h = refl

record SlotsAdd (old new : List Slot) : Type 0 where
  dirty : (i : ℕ) → is_dirty (at new i) ≡ true → is_dirty (at old i) ≡ true
  sector : (i : ℕ) → is_dirty (at new i) ≡ true → sector_of (at new i) ≡ sector_of (at old i)

slots_add : (old new : List Slot) (i : ℕ) → i < length old → is_dirty (at old i) ≡ true → (new ≡ set old i Free) ⊎ ((new ≡ old) ⊎ (new ≡ set old i (clear_failed (at old i)))) → SlotsAdd old new
slots_add old new i lt dirty (inl is) = record {
  dirty = λ j h. ⊎_elim
      (λ a. absurd (true≢false (sym h ∙ ap (λ l. is_dirty (at l j)) is ∙ ap is_dirty a.1)))
      (λ a. sym (ap (λ l. is_dirty (at l j)) is ∙ ap is_dirty a.1) ∙ h) (at_set old i j Free lt);
  sector = λ j h. ⊎_elim
      (λ a. absurd (true≢false (sym h ∙ ap (λ l. is_dirty (at l j)) is ∙ ap is_dirty a.1)))
      (λ a. ap (λ l. sector_of (at l j)) is ∙ ap sector_of a.1) (at_set old i j Free lt);
}
slots_add old new i lt dirty (inr (inl is)) = record { dirty = λ j h. sym (ap (λ l. is_dirty (at l j)) is) ∙ h; sector = λ j h. ap (λ l. sector_of (at l j)) is }
slots_add old new i lt dirty (inr (inr is)) = record {
  dirty = λ j h. ⊎_elim
      (λ a. ap (λ n. is_dirty (at old n)) a.0 ∙ dirty)
      (λ a. sym (ap (λ l. is_dirty (at l j)) is ∙ ap is_dirty a.1) ∙ h) (at_set old i j (clear_failed (at old i)) lt);
  sector = λ j h. ⊎_elim
      (λ a. ap (λ l. sector_of (at l j)) is ∙ ap sector_of a.1 ∙ failed_sector_of (at old i) ∙ ap (λ n. sector_of (at old n)) (sym a.0))
      (λ a. ap (λ l. sector_of (at l j)) is ∙ ap sector_of a.1) (at_set old i j (clear_failed (at old i)) lt);
}

pub no_doubt : (slots : List Slot) (i : ℕ) → i < length slots → NoDoubt slots → NoDoubt (set slots i Free)
no_doubt slots i lt sure j = ⊎_elim (λ a. ap in_doubt a.1) (λ a. ap in_doubt a.1 ∙ sure j) (at_set slots i j Free lt)

sure_free : (slot : Slot) → is_dirty slot ≡ false → in_doubt slot ≡ false
sure_free Free h = refl
sure_free (Set s b) h = refl
sure_free (Doubt s o n c) h = h

pub no_dirty_sure : (slots : List Slot) → NoDirty slots → NoDoubt slots
no_dirty_sure slots clean i = sure_free (at slots i) (clean i)

-- ---- the oldest entry

-- it stands first
oldest_first : (es : List Entry) (i : ℕ) → oldest_in es ≡ Some i → (e : Entry) × (es ≡ e ∷ drop 1 es) × (e.index ≡ i)
oldest_first [] i h = absurd (none_some h)
  where
    none_some : {n : ℕ} → None ≡ Some n → ⊥
    none_some e = cc
oldest_first (e ∷ es) i h = (e, refl, some_same h)
  where
    some_same : {a b : ℕ} → Some a ≡ Some b → a ≡ b
    some_same e = cc

without_first : (e : Entry) (es : List Entry) (i : ℕ) → e.index ≡ i → without_entry i (e ∷ es) ≡ es
without_first e es i is = ap (λ b. if b then es else e ∷ without_entry i es) (nat_eq_same e.index i is)

without_oldest : (es : List Entry) (i : ℕ) → oldest_in es ≡ Some i → without_entry i es ≡ drop 1 es
without_oldest es i h =
    let first = oldest_first es i h in
    ap (without_entry i) first.1 ∙ without_first first.0 (drop 1 es) i first.2

with_oldest : (es : List Entry) (i : ℕ) (new : Entry) → new.index ≡ i → oldest_in es ≡ Some i → with_entry new es ≡ new ∷ drop 1 es
with_oldest es i new own h =
    let first = oldest_first es i h in
    ap (with_entry new) first.1 ∙ ap (λ b. if b then new ∷ drop 1 es else first.0 ∷ with_entry new (drop 1 es)) (nat_eq_same first.0.index new.index (first.2 ∙ sym own))

length_oldest : (es : List Entry) (i : ℕ) → oldest_in es ≡ Some i → length es ≡ length (drop 1 es) + 1
length_oldest es i h = let first = oldest_first es i h in omega (arith, ap length first.1)

pub length_some : (c : Cache) (i : ℕ) → oldest_in (entries_of c) ≡ Some i → 1 ≤ length (entries_of c)
length_some c i h = let e = length_oldest (entries_of c) i h in omega (arith, e)

module _ (old : Cache) (i : ℕ) (lt : i < length (slots_of old)) (dirty : is_dirty (at (slots_of old) i) ≡ true) (oldest : oldest_in (entries_of old) ≡ Some i) where
  pub sent : (new : Cache) → Becomes i Free old new → IsSent i old new
  sent new b = record { slots = b.slots; entries = b.entries ∙ without_oldest (entries_of old) i oldest }

  pub sent_length : (new : Cache) → IsSent i old new → length (entries_of old) ≡ length (entries_of new) + 1
  sent_length new is = let e = length_oldest (entries_of old) i oldest in omega (arith, e, ap length is.entries)

  pub sent_adds : (new : Cache) → IsSent i old new → AddsNone old new
  sent_adds new is =
      let add = slots_add (slots_of old) (slots_of new) i lt dirty (inl is.slots) in
      record { dirty = add.dirty; sector = add.sector; count = omega (arith, sent_length new is) }

  -- it goes last after a failure
  pub stuck : (mid new : Cache) → Same old mid ⊎ Becomes i (clear_failed (at (slots_of old) i)) old mid → IsLast i mid new → IsStuck i old new
  stuck mid new (inl same) last = record {
    slots = inl (last.slots ∙ same.slots);
    entries = last.entries ∙ ap (λ (es : List Entry). without_entry i es ++ entry_in (slots_of mid) i ∷ []) same.entries
        ∙ ap (λ (es : List Entry). es ++ entry_in (slots_of mid) i ∷ []) (without_oldest (entries_of old) i oldest)
        ∙ ap (λ (l : List Slot). drop 1 (entries_of old) ++ entry_in l i ∷ []) (sym last.slots);
  }
  stuck mid new (inr b) last =
      let slot = clear_failed (at (slots_of old) i) in
      let e : Entry = record { index = i; slot = slot } in
      let changed_is : changed i slot (entries_of old) ≡ e ∷ drop 1 (entries_of old) =
      ap (λ b. if b then with_entry e (entries_of old) else without_entry i (entries_of old)) (failed_dirty (at (slots_of old) i) dirty)
      ∙ with_oldest (entries_of old) i e refl oldest in
      record {
        slots = inr (last.slots ∙ b.slots);
        entries = last.entries ∙ ap (λ (es : List Entry). without_entry i es ++ entry_in (slots_of mid) i ∷ []) (b.entries ∙ changed_is)
            ∙ ap (λ (es : List Entry). es ++ entry_in (slots_of mid) i ∷ []) (without_first e (drop 1 (entries_of old)) i refl)
            ∙ ap (λ (l : List Slot). drop 1 (entries_of old) ++ entry_in l i ∷ []) (sym last.slots);
      }

  pub stuck_length : (new : Cache) → IsStuck i old new → length (entries_of new) ≡ length (entries_of old)
  stuck_length new is =
      let e = length_oldest (entries_of old) i oldest in
      omega (arith, e, ap length is.entries, length-append (drop 1 (entries_of old)) (entry_in (slots_of new) i ∷ []))

  pub stuck_adds : (new : Cache) → IsStuck i old new → AddsNone old new
  stuck_adds new is =
      let add = slots_add (slots_of old) (slots_of new) i lt dirty (inr is.slots) in
      record { dirty = add.dirty; sector = add.sector; count = omega (arith, stuck_length new is) }

-- after a failure it is dirty still
pub still_dirty : (old mid : Cache) (i : ℕ) → i < length (slots_of old) → is_dirty (at (slots_of old) i) ≡ true → Same old mid ⊎ Becomes i (clear_failed (at (slots_of old) i)) old mid → is_dirty (at (slots_of mid) i) ≡ true
still_dirty old mid i lt dirty (inl same) = ap (λ (l : List Slot). is_dirty (at l i)) same.slots ∙ dirty
still_dirty old mid i lt dirty (inr b) = ap (λ (l : List Slot). is_dirty (at l i)) b.slots ∙ ⊎_elim (λ a. ap is_dirty a.1 ∙ failed_dirty (at (slots_of old) i) dirty) (λ a. absurd (a.0 refl)) (at_set (slots_of old) i i (clear_failed (at (slots_of old) i)) lt)

without_with : (e : Entry) (es : List Entry) → without_entry e.index (with_entry e es) ≡ without_entry e.index es
without_with e [] = ap (λ b. if b then [] else e ∷ []) (nat_eq_same e.index e.index refl)
without_with e (x ∷ es) = by_head x.index e.index
    (λ same. ap (without_entry e.index) (ap (λ b. if b then e ∷ es else x ∷ with_entry e es) (nat_eq_same x.index e.index same))
    ∙ ap (λ b. if b then es else e ∷ without_entry e.index es) (nat_eq_same e.index e.index refl)
    ∙ sym (ap (λ b. if b then es else x ∷ without_entry e.index es) (nat_eq_same x.index e.index same)))
    (λ ne. ap (without_entry e.index) (ap (λ b. if b then e ∷ es else x ∷ with_entry e es) (nat_eq_other x.index e.index ne))
    ∙ ap (λ b. if b then with_entry e es else x ∷ without_entry e.index (with_entry e es)) (nat_eq_other x.index e.index ne)
    ∙ ap (λ (l : List Entry). x ∷ l) (without_with e es)
    ∙ sym (ap (λ b. if b then es else x ∷ without_entry e.index es) (nat_eq_other x.index e.index ne)))

length_map : {A B : Type 0} (f : A → B) (xs : List A) → length (map f xs) ≡ length xs
length_map f [] = refl
length_map f (x ∷ xs) = ap suc (length_map f xs)

-- ---- a cleared entry, whichever place it has

length_without : (c : Cache) (i : ℕ) → is_dirty (at (slots_of c) i) ≡ true → length (without_entry i (entries_of c)) + 1 ≡ length (entries_of c)
length_without c i dirty =
    let order = listed c.order in
    let slots = slots_of c in
    let one : 1 ≤ times i order = let e = c.ordered i ∙ ap (λ b. if b then 1 else 0) dirty in omega (arith, e) in
    let e = without_length i order one in
    omega (arith, e, length_map (entry_in slots) order, length_map (entry_in slots) (without i order), ap length (without_in slots i order))

module _ (old : Cache) (i : ℕ) (lt : i < length (slots_of old)) (dirty : is_dirty (at (slots_of old) i) ≡ true) where
  pub cleared_adds : (new : Cache) → Becomes i Free old new → AddsNone old new
  cleared_adds new b =
      let add = slots_add (slots_of old) (slots_of new) i lt dirty (inl b.slots) in
      let e = length_without old i dirty in
      record { dirty = add.dirty; sector = add.sector; count = omega (arith, e, ap length b.entries) }

  pub last_adds : (mid new : Cache) → Becomes i (clear_failed (at (slots_of old) i)) old mid → IsLast i mid new → AddsNone old new
  last_adds mid new b last =
      let slot = clear_failed (at (slots_of old) i) in
      let still : is_dirty (at (slots_of mid) i) ≡ true = ap (λ (l : List Slot). is_dirty (at l i)) b.slots ∙ ⊎_elim (λ a. ap is_dirty a.1 ∙ failed_dirty (at (slots_of old) i) dirty) (λ a. absurd (a.0 refl)) (at_set (slots_of old) i i slot lt) in
      let add = slots_add (slots_of old) (slots_of new) i lt dirty (inr (inr (last.slots ∙ b.slots))) in
      let e = length_without mid i still in
      let f = length_without old i dirty in
      let put : changed i slot (entries_of old) ≡ with_entry (record { index = i; slot = slot }) (entries_of old) =
      ap (λ c. if c then with_entry (record { index = i; slot = slot }) (entries_of old) else without_entry i (entries_of old)) (failed_dirty (at (slots_of old) i) dirty) in
      let there = without_with (record { index = i; slot = slot }) (entries_of old) in
      record {
        dirty = add.dirty;
        sector = add.sector;
        count = omega (arith, e, f, ap length last.entries, length-append (without_entry i (entries_of mid)) (entry_in (slots_of mid) i ∷ []), ap (λ (es : List Entry). length (without_entry i es)) (b.entries ∙ put), ap length there);
      }

-- no entry of its sector is left
pub none_left : (buffers : ℕ) (slots : List Slot) (s i : ℕ) → AreSlots buffers slots → find_in slots s ≡ Some i → find_in (set slots i Free) s ≡ None
none_left buffers slots s i are found = case (find_in (set slots i Free) s) refl
  where
    case : (o : Option ℕ) → find_in (set slots i Free) s ≡ o → o ≡ None
    case None e = refl
    case (Some j) e =
        let was = entry_found slots s i found in
        let is = entry_found (set slots i Free) s j e in
        absurd (⊎_elim
        (λ a. true≢false (sym is.1 ∙ ap is_dirty a.1))
        (λ a. are.sectors j i a.0 (sym (ap is_dirty a.1) ∙ is.1) was.1 (sym (ap sector_of a.1) ∙ is.2 ∙ sym was.2))
        (at_set slots i j Free was.0))

pub adds_same : (c : Cache) → AddsNone c c
adds_same c = record { dirty = λ i h. h; sector = λ i h. refl; count = omega arith }

pub adds_more : (a b c : Cache) → AddsNone a b → AddsNone b c → AddsNone a c
adds_more a b c p q = record { dirty = λ i h. p.dirty i (q.dirty i h); sector = λ i h. q.sector i h ∙ p.sector i (q.dirty i h); count = omega (arith, p.count, q.count) }

-- an entry that is listed is as its slot
oldest_is : (slots : List Slot) (order : List ℕ) (i : ℕ) → oldest_in (entries_in slots order) ≡ Some i → entries_in slots order ≡ entry_in slots i ∷ drop 1 (entries_in slots order)
oldest_is slots [] i h = absurd (none_some h)
  where
    none_some : {n : ℕ} → None ≡ Some n → ⊥
    none_some e = cc
oldest_is slots (x ∷ xs) i h = ap (λ n. entry_in slots n ∷ entries_in slots xs) (some_same h)
  where
    some_same : {a b : ℕ} → Some a ≡ Some b → a ≡ b
    some_same e = cc

-- the oldest entry failed
pub stuck_next : (old new : Cache) (i : ℕ) (first : Option Cause) (before now : ℕ) → i < length (slots_of old) → oldest_in (entries_of old) ≡ Some i → IsStuck i old new → IsSome first → Rose before now
    → IsStuckNext first before now (entries_of old) (entries_of new)
stuck_next old new i first before now lt oldest stuck some rose = record {
  some = some;
  rose = rose;
  oldest = entry_in (slots_of old) i;
  first = oldest_is (slots_of old) (listed old.order) i oldest;
  failed = entry_in (slots_of new) i;
  last = stuck.entries;
  still = record {
    index = refl;
    slot = ⊎_elim
        (λ same. inl (ap (λ (l : List Slot). at l i) same))
        (λ doubt. inr (ap (λ (l : List Slot). at l i) doubt ∙ ⊎_elim (λ a. a.1) (λ a. absurd (a.0 refl)) (at_set (slots_of old) i i (clear_failed (at (slots_of old) i)) lt)))
        stuck.slots;
  };
}
