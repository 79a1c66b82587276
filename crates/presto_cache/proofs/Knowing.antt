-- What a cache knows after it learned something of one entry.
use Rattle.std.proofs.Common.{◌≡◌, ◌<◌, ℕ, Bool, true, false, List, length, set, refl, sym, ◌∙◌, ap}
use Rattle.presto_cache.specs.Slots.{at, is_dirty}
use Rattle.presto_cache.specs.Order.{listed, followed}
use Rattle.presto_cache.specs.Entries.{entries_in, changed}
use Rattle.presto_cache.specs.Cache.{slots_of, entries_of, Becomes, Same}
use Rattle.std.proofs.lemmas.Bool.{true≢false}
use Rattle.presto_cache.specs.declared.slot.Slot.{Slot}
use Rattle.presto_cache.specs.declared.slot.Slot.TheVariants.{Free, Set, Doubt}
use Rattle.presto_cache.specs.declared.cache.Cache.{Cache}
use Rattle.presto_cache.proofs.Listing.{entries_changed}
use Rattle.presto_cache.proofs.Slots.{same_slot}

-- by what was found and is known of the entry
pub followed_at : (i : ℕ) (xs : List ℕ) {was is a b : Bool} {new : List ℕ} → new ≡ followed a b i xs → a ≡ was → b ≡ is → new ≡ followed was is i xs
followed_at i xs {was} {b = b} new_is a_is b_is = new_is ∙ ap (λ t. followed t b i xs) a_is ∙ ap (λ t. followed was t i xs) b_is

followed_stays : (b : Bool) (i : ℕ) (xs : List ℕ) → followed b b i xs ≡ xs
followed_stays true i xs = refl
followed_stays false i xs = refl

-- what is known already
entries_stay : (c : Cache) (i : ℕ) → i < length (slots_of c) → changed i (at (slots_of c) i) (entries_of c) ≡ entries_of c
entries_stay c i lt =
    let slots = slots_of c in
    let order = listed c.order in
    sym (entries_changed slots order i (at slots i) lt c.ordered)
    ∙ ap (λ (l : List Slot). entries_in l (followed (is_dirty (at slots i)) (is_dirty (at slots i)) i order)) (same_slot slots i)
    ∙ ap (entries_in slots) (followed_stays (is_dirty (at slots i)) i order)

pub stays : (old new : Cache) (i : ℕ) (slot : Slot) → i < length (slots_of old) → slot ≡ at (slots_of old) i → Becomes i slot old new → Same old new
stays old new i slot lt known b = record {
  slots = b.slots ∙ ap (λ (s : Slot). set (slots_of old) i s) known ∙ same_slot (slots_of old) i;
  entries = b.entries ∙ ap (λ (s : Slot). changed i s (entries_of old)) known ∙ entries_stay old i lt;
}

pub free_stays : (c : Cache) (i : ℕ) → i < length (slots_of c) → is_dirty (at (slots_of c) i) ≡ false → Becomes i Free c c
free_stays c i lt free =
    let known : at (slots_of c) i ≡ Free = clean (at (slots_of c) i) free in
    record {
      slots = sym (ap (λ (s : Slot). set (slots_of c) i s) (sym known) ∙ same_slot (slots_of c) i);
      entries = sym (ap (λ (s : Slot). changed i s (entries_of c)) (sym known) ∙ entries_stay c i lt);
    }
  where
    clean : (slot : Slot) → is_dirty slot ≡ false → slot ≡ Free
    clean Free free = refl
    clean (Set s b) free = absurd (true≢false free)
    clean (Doubt s o n k) free = absurd (true≢false free)
