-- What the lemmas on a call suppose, as one record, and where it comes from.
use Rattle.std.proofs.Common.{◌≡◌, ℕ, ◌≤◌, true, List, ◌∙◌, subst}
use Rattle.stable.specs.Moments.{IsClocked}
use Rattle.rig.specs.Devices.{Devices, Sizes, HasShape, IsBoard}
use Rattle.rig.specs.declared.rig.Rig.{Ghosts}
use Rattle.nvram_map.proofs.Shapes.{shape_now}
use Rattle.presto_cache.specs.Slots.{AreSlots, AllBelowSectors}
use Rattle.presto_cache.specs.Board.{IsOf, KnowsSlots}
use Rattle.presto_cache.specs.Cache.{slots_of, Knows}
use Rattle.presto_cache.specs.declared.slot.Slot.{Slot}
use Rattle.presto_cache.specs.declared.cache.Cache.{Cache}

-- of a board that kept its memory, what stands on it and what is known of it
pub record IsKnown (sizes : Sizes) (slots : List Slot) (d : Devices) : Type 0 where
  pub few : sizes.buffers ≤ 2048
  pub are : AreSlots sizes.buffers slots
  pub low : AllBelowSectors sizes.sectors slots
  pub of : IsOf slots d
  pub kept : d.kept ≡ true
  pub shape : HasShape sizes d

-- what is known of a cache is known of its entries
pub knows_slots : {R : Type 0} (r : Ghosts R) {rig : R} {cache : Cache} → Knows r rig cache → KnowsSlots r rig (slots_of cache)
knows_slots r {rig} {cache} knows = record {
  are = subst (λ n. AreSlots n (slots_of cache)) knows.suits.buffers cache.are;
  below = knows.suits.below;
  is = knows.is;
  kept = knows.kept;
}

-- where the rig tells its contents, by its laws
module _ {R : Type 0} (r : Ghosts R) (clocked : IsClocked r.tells r.contents r.moment r.left_since) (shape : (rig : R) (t : ℕ) (d : Devices) → r.left_since rig t d → HasShape (r.sizes rig) d)
    (told : (rig : R) → r.tells → (r.contents rig).kept ≡ r.is_kept rig) (board : (rig : R) → IsBoard (r.sizes rig) (r.is_kept rig)) where
  pub slots_known : {rig : R} {slots : List Slot} → KnowsSlots r rig slots → r.tells → IsKnown (r.sizes rig) slots (r.contents rig)
  slots_known {rig} knows tells = record {
    few = (board rig).most;
    are = knows.are;
    low = knows.below;
    of = knows.is tells;
    kept = told rig tells ∙ knows.kept;
    shape = shape_now clocked shape rig tells;
  }

  pub known_at : {rig : R} {cache : Cache} → Knows r rig cache → r.tells → IsKnown (r.sizes rig) (slots_of cache) (r.contents rig)
  known_at knows tells = slots_known (knows_slots r knows) tells
