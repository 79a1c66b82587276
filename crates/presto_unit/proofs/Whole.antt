-- What can be opened is whole, and so each sound crash of it shows an image.
use Rattle.std.proofs.Common.{◌≡◌, inl, inr, ℕ, ◌^◌, ◌<◌, ◌≤◌, Bool, true, false, if◌then◌else◌, List, [], ◌∷◌, length, get_or, drop, refl, sym, ◌∙◌, ap, subst, arith}
use Rattle.rig.specs.Devices.{Devices, Sizes, HasShape, IsBoard}
use Rattle.nvram_map.specs.Overlay.{overlay, laid, entries, is_entry, entry_buffer, SoundlyLeaves}
use Rattle.nvram_map.proofs.Overlaid.{sound_overlay, length-overlay, length-laid, made_buffer}
use Rattle.nvram_map.proofs.Listed.{zero_free}
use Rattle.std.proofs.lemmas.Bool.{true≢false}
use Rattle.stable.specs.Store.{HasSectors}
use Rattle.presto_unit.specs.Images.{overlays_since}
use Rattle.presto_unit.specs.Laws.{laid_long}
use Rattle.presto_unit.specs.Opening.{IsOpenable}
use Rattle.nvram_map.specs.Overlay.{NoEntry}
use Rattle.presto_cache.specs.Cache.{slots_of, entries_of}
use Rattle.presto_cache.specs.declared.cache.Cache.{Cache}
use Rattle.presto_cache.proofs.Known.{IsKnown}
use Rattle.presto_cache.proofs.Slots.{entry_names}
use Rattle.presto_unit.proofs.Room.{none_dirty}

-- the disk is whole
disk_whole : (sizes : Sizes) (d : Devices) → HasShape sizes d → overlay d ≡ d.disk → HasSectors sizes.sectors (overlay d)
disk_whole sizes d shape same = subst (HasSectors sizes.sectors) (sym same) (record { size = shape.disk; long = λ s lt. (shape.each_sector s lt).size })

no_words : (l : List ℕ) → length l ≡ 0 → drop 2 l ≡ []
no_words [] e = refl
no_words (a ∷ l) e = absurd (omega (arith, e))

pub open_whole : (sizes : Sizes) (kept : Bool) (d : Devices) → sizes.sectors ≤ 2 ^ 32 → IsBoard sizes kept → HasShape sizes d → IsOpenable sizes d → HasSectors sizes.sectors (overlay d)
open_whole sizes kept d few board shape (inl none) = disk_whole sizes d shape (at d.kept)
  where
    at : (b : Bool) → (if b then laid (entries d) d.buffers d.disk else d.disk) ≡ d.disk
    at false = refl
    at true = ap (λ es. laid es d.buffers d.disk) (no_words d.words (omega (arith, shape.words, board.no_words none)))
open_whole sizes kept d few board shape (inr (inl lost)) = disk_whole sizes d shape (ap (λ (b : Bool). if b then laid (entries d) d.buffers d.disk else d.disk) lost)
open_whole sizes kept d few board shape (inr (inr named)) = at d.kept refl
  where
    held : (i : ℕ) → is_entry (get_or (entries d) i 0) ≡ true → length (get_or d.buffers (entry_buffer (get_or (entries d) i 0)) []) ≡ 512
    held i is =
        let word = named.board.entries_are.each i (λ zero. true≢false (sym is ∙ ap is_entry zero ∙ zero_free)) in
        let low : word.1 < 2 ^ 16 = omega (arith, word.3, board.most) in
        let at_buffer : entry_buffer (get_or (entries d) i 0) ≡ word.1 = ap entry_buffer word.4 ∙ made_buffer word.1 word.0 (omega (arith, word.2, few)) low in
        ap (λ b. length (get_or d.buffers b [])) at_buffer ∙ (shape.each_buffer word.1 word.3).size

    at : (b : Bool) → d.kept ≡ b → HasSectors sizes.sectors (overlay d)
    at false lost = disk_whole sizes d shape (ap (λ (b : Bool). if b then laid (entries d) d.buffers d.disk else d.disk) lost)
    at true on = record {
      size = length-overlay d ∙ shape.disk;
      long = λ s lt. ap (λ (b : Bool). length (get_or (if b then laid (entries d) d.buffers d.disk else d.disk) s [])) on
          ∙ laid_long (entries d) d.buffers d.disk held (λ k below. (shape.each_sector k (omega (arith, below, shape.disk))).size) s (let n = length-laid (entries d) d.buffers d.disk in omega (arith, lt, n, shape.disk));
    }

-- where each crash since a moment can be opened again, each sound one shows an image since then
pub all_shown : {R : Type 0} (sizes : R → Sizes) (is_kept : R → Bool) (left_since : R → ℕ → Devices → Type 0) (r : R) (t : ℕ) (d after : Devices) → (sizes r).sectors ≤ 2 ^ 32 → IsBoard (sizes r) (is_kept r)
    → HasShape (sizes r) d → IsOpenable (sizes r) d → left_since r t d → SoundlyLeaves d after → overlays_since sizes left_since r t (overlay after)
all_shown sizes is_kept left_since r t d after few board shape opens left crash =
    (d, left, record { shows = (after, crash, refl); whole = subst (HasSectors (sizes r).sectors) (sym (sound_overlay d after crash)) (open_whole (sizes r) (is_kept r) d few board shape opens) })

-- where no entry is dirty, no word is set
pub none_set : (sizes : Sizes) (cache : Cache) (d : Devices) → IsKnown sizes (slots_of cache) d → length (entries_of cache) ≡ 0 → NoEntry d
none_set sizes cache d known none i = case (is_entry (get_or (entries d) i 0)) refl
  where
    case : (b : Bool) → is_entry (get_or (entries d) i 0) ≡ b → b ≡ false
    case false e = refl
    case true e = absurd (true≢false (sym (entry_names known.are known.of i e).dirty ∙ none_dirty cache none i))
