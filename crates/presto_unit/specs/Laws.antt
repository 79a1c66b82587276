-- What the contract of a unit as a store rests on.
use Rattle.std.proofs.Common.{◌≡◌, inl, ◌≤◌, ℕ, suc, Bool, true, false, if◌then◌else◌, List, [], ◌∷◌, length, get_or, set, refl, ◌∙◌, ap, ⊎_elim, ◌<◌, arith}
use Rattle.std.proofs.lemmas.List.{length-set}
use Rattle.stable.specs.Moments.{IsClocked}
use Rattle.stable.specs.Store.{Image, HasSectors}
use Rattle.rig.specs.Devices.{Devices, Sizes, HasShape, IsBoard}
use Rattle.rig.specs.declared.rig.Rig.{Ghosts}
use Rattle.nvram_map.specs.Overlay.{overlay, laid, entries, is_entry, entry_buffer, entry_sector}
use Rattle.nvram_map.proofs.Overlaid.{sound_overlay, length-overlay, length-laid}
use Rattle.presto_cache.specs.Cache.{slots_of, Knows}
use Rattle.presto_cache.specs.declared.cache.Cache.{Cache}
use Rattle.presto_cache.specs.declared.slot.Slot.{Slot}
use Rattle.presto_cache.proofs.Known.{IsKnown, known_at}
use Rattle.presto_cache.proofs.Puts.{get_or_set}
use Rattle.presto_cache.proofs.Slots.{entry_names}
use Rattle.presto_unit.specs.Images.{overlays_since}

-- ---- an overlay is whole

abbrev pub AreLong : List (List ℕ) → Type 0
AreLong disk = (s : ℕ) → s < length disk → length (get_or disk s []) ≡ 512

set_long : (disk : List (List ℕ)) (a : ℕ) (x : List ℕ) → length x ≡ 512 → AreLong disk → AreLong (set disk a x)
set_long disk a x long are s lt = ⊎_elim
    (λ same. ap length same ∙ are s (let n = length-set disk a x in omega (arith, lt, n)))
    (λ this. ap length this.1 ∙ long)
    (get_or_set disk a x s)

pub laid_long : (es : List ℕ) (buffers disk : List (List ℕ)) → ((i : ℕ) → is_entry (get_or es i 0) ≡ true → length (get_or buffers (entry_buffer (get_or es i 0)) []) ≡ 512) → AreLong disk → AreLong (laid es buffers disk)
laid_long [] buffers disk long are = are
laid_long (w ∷ es) buffers disk long are = laid_long es buffers (if is_entry w then set disk (entry_sector w) (get_or buffers (entry_buffer w) []) else disk) (λ i. long (suc i)) (case (is_entry w) refl)
  where
    case : (b : Bool) → is_entry w ≡ b → AreLong (if b then set disk (entry_sector w) (get_or buffers (entry_buffer w) []) else disk)
    case true is = set_long disk (entry_sector w) (get_or buffers (entry_buffer w) []) (long 0 is) are
    case false is = are

pub overlay_whole : (sizes : Sizes) (slots : List Slot) (d : Devices) → IsKnown sizes slots d → HasSectors sizes.sectors (overlay d)
overlay_whole sizes slots d known = record {
  size = length-overlay d ∙ known.shape.disk;
  long = λ s lt. ap (λ (b : Bool). length (get_or (if b then laid (entries d) d.buffers d.disk else d.disk) s [])) known.kept
      ∙ laid_long (entries d) d.buffers d.disk
      (λ i is. (known.shape.each_buffer (entry_buffer (get_or (entries d) i 0)) (known.are.buffers_fit i (entry_buffer (get_or (entries d) i 0)) (entry_names known.are known.of i is).buffer)).size)
      (λ k below. (known.shape.each_sector k (omega (arith, below, known.shape.disk))).size)
      s (let n = length-laid (entries d) d.buffers d.disk in omega (arith, lt, n, known.shape.disk));
}

-- ---- the laws

module _ {R : Type 0} (r : Ghosts R) (clocked : IsClocked r.tells r.contents r.moment r.left_since) where
  module _ (shape : (rig : R) (t : ℕ) (d : Devices) → r.left_since rig t d → HasShape (r.sizes rig) d)
      (told : (rig : R) → r.tells → (r.contents rig).kept ≡ r.is_kept rig) (board : (rig : R) → IsBoard (r.sizes rig) (r.is_kept rig)) where
    pub overlay_now : (rig : R) (cache : Cache) → Knows r rig cache → (t : ℕ) → r.tells → t ≤ r.moment rig → overlays_since r.sizes r.left_since rig t (overlay (r.contents rig))
    overlay_now rig cache knows t tells le = (
      r.contents rig,
      clocked.now rig t tells le,
      record { shows = (r.contents rig, inl refl, refl); whole = overlay_whole (r.sizes rig) (slots_of cache) (r.contents rig) (known_at r clocked shape told board knows tells) },
    )

  pub overlay_only : (rig : R) (i : Image) → overlays_since r.sizes r.left_since rig (r.moment rig) i → i ≡ overlay (r.contents rig)
  overlay_only rig i left =
      let by = left.2.shows in
      by.2 ∙ sound_overlay left.0 by.0 by.1 ∙ ap overlay (clocked.only rig left.0 left.1)

  pub overlay_wider : (rig : R) (t u : ℕ) (i : Image) → t ≤ u → overlays_since r.sizes r.left_since rig u i → overlays_since r.sizes r.left_since rig t i
  overlay_wider rig t u i le left = (left.0, clocked.wider rig t u left.0 le left.1, left.2)

  pub overlay_told : (rig : R) (t : ℕ) (i : Image) → overlays_since r.sizes r.left_since rig t i → r.tells
  overlay_told rig t i left = clocked.told rig t left.0 left.1
