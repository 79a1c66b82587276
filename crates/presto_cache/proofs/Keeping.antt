-- What `keep` has found before it stores: the sector's entry, and a buffer for it.
use Rattle.std.proofs.Common.{◌≡◌, ◌⊎◌, ℕ, ◌<◌, ◌^◌, Some, set, sym, subst}
use Rattle.rig.specs.declared.rig.Rig.{Ghosts}
use Rattle.presto_cache.specs.Slots.{AreSlots, NoDoubt, IsLowestUnused, at, place_in}
use Rattle.presto_cache.specs.Stores.{IsFill}
use Rattle.presto_cache.specs.Cache.{slots_of, buffers_of, Knows}
use Rattle.presto_cache.specs.declared.slot.Slot.{Slot}
use Rattle.presto_cache.specs.declared.slot.Slot.TheVariants.{Set}
use Rattle.presto_cache.specs.declared.cache.Cache.{Cache}
use Rattle.presto_cache.proofs.Known.{knows_slots}
use Rattle.presto_cache.proofs.Places.{is_place}
use Rattle.presto_cache.proofs.Filling.{doubt_for, set_are, told_are}

pub record IsFound {R : Type 0} (r : Ghosts R) (rig : R) (cache : Cache) (sector index buffer : ℕ) : Type 0 where
  pub place : place_in (slots_of cache) sector ≡ Some index
  pub lowest : IsLowestUnused (slots_of cache) buffer
  pub fill : IsFill (r.sizes rig) (slots_of cache) index sector buffer

module _ {R : Type 0} (r : Ghosts R) {rig : R} {cache : Cache} (knows : Knows r rig cache) {s i b : ℕ} where
  -- what `keep` looked for
  pub found : NoDoubt (slots_of cache) → s < (r.sizes rig).sectors → s < 2 ^ 32 → Some i ≡ place_in (slots_of cache) s → IsLowestUnused (slots_of cache) b → b < buffers_of cache → IsFound r rig cache s i b
  found sure on_disk small placed low in_range =
      record {
        place = sym placed;
        lowest = low;
        fill = record {
          place = is_place (buffers_of cache) (slots_of cache) s i cache.are sure (sym placed);
          unused = low.unused;
          on_board = subst (λ n. b < n) knows.suits.buffers in_range;
          on_disk = on_disk;
          small = small;
        };
      }

  -- what the cache then knows of the entry fits
  pub set_fits : IsFill (r.sizes rig) (slots_of cache) i s b → AreSlots (buffers_of cache) (set (slots_of cache) i (Set s b))
  set_fits fill =
      let known = knows_slots r knows in
      subst (λ n. AreSlots n (set (slots_of cache) i (Set s b))) (sym knows.suits.buffers) (set_are known.are known.below fill)

  pub told_fits : IsFill (r.sizes rig) (slots_of cache) i s b → (slot : Slot) → (slot ≡ at (slots_of cache) i) ⊎ (slot ≡ doubt_for (slots_of cache) i s b) → AreSlots (buffers_of cache) (set (slots_of cache) i slot)
  told_fits fill slot told =
      let known = knows_slots r knows in
      subst (λ n. AreSlots n (set (slots_of cache) i slot)) (sym knows.suits.buffers) (told_are known.are known.below fill slot told)
