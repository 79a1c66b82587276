-- A board without entries.
use Rattle.std.proofs.Common.{◌≡◌, inl, inr, Option, Some, None, ℕ, zero, suc, ◌-◌, ◌^◌, ◌<◌, ◌≤◌, Bool, List, [], ◌∷◌, length, get_or, replicate, drop, refl, sym, ◌∙◌, ap, arith}
use Rattle.std.proofs.lemmas.Bool.{true≢false}
use Rattle.rig.specs.Devices.{Devices, Sizes, HasShape, IsBoard, with_kept}
use Rattle.nvram_map.specs.Overlay.{overlay, entries, is_entry}
use Rattle.nvram_map.specs.Words.{AreEntries, IsBoardOf}
use Rattle.nvram_map.specs.Formats.{formatted, PartlyFormatted}
use Rattle.nvram_map.specs.Boards.{entries_from, FitBoard}
use Rattle.nvram_map.specs.declared.board.BoardEntry.{BoardEntry}
use Rattle.nvram_map.proofs.Listed.{free_first, zero_free}
use Rattle.nvram_map.proofs.Overlaid.{bare}
use Rattle.presto_cache.specs.Made.{AreReadFrom, IsMadeOf, slot_from}
use Rattle.presto_cache.specs.Slots.{find_in, is_dirty}
use Rattle.presto_cache.specs.declared.slot.Slot.{Slot}
use Rattle.presto_cache.proofs.Places.{entry_found}

zeros : (n i : ℕ) → ◌≡◌ {A = ℕ} (get_or (replicate n 0) i 0) 0
zeros zero i = refl
zeros (suc n) zero = refl
zeros (suc n) (suc i) = zeros n i

no_entries : (n a : ℕ) → entries_from a (replicate n 0) ≡ []
no_entries zero a = refl
no_entries (suc n) a = free_first a 0 (replicate n 0) zero_free ∙ no_entries n (suc a)

-- words of which none is set
pub none_set : (sizes : Sizes) (words : List ℕ) → ((i : ℕ) → get_or words i 0 ≡ 0) → AreEntries sizes words
none_set sizes words none = record {
  each = λ i some. absurd (some (none i));
  sectors = λ i j ne a b. absurd (a (none i));
  buffers = λ i j ne a b. absurd (a (none i));
}

-- what formatting came to leaves the disk, and that the memory was lost
pub formatted_stays : (name : ℕ) (old d : Devices) → PartlyFormatted name old d → (d.disk ≡ old.disk) × (d.kept ≡ old.kept)
formatted_stays name old d (inl p) = (ap (λ (e : Devices). e.disk) p.2, ap (λ (e : Devices). e.kept) p.2)
formatted_stays name old d (inr (inl e)) = (ap (λ (e : Devices). e.disk) e, ap (λ (e : Devices). e.kept) e)
formatted_stays name old d (inr (inr e)) = (ap (λ (e : Devices). e.disk) e, ap (λ (e : Devices). e.kept) e)

module _ (name : ℕ) (old : Devices) where
  -- a board that was formatted is that of the name
  pub formatted_board : (sizes : Sizes) → IsBoardOf sizes name (with_kept (formatted name old))
  formatted_board sizes = record { marked = refl; named = refl; entries_are = none_set sizes (replicate (length old.words - 2) 0) (zeros (length old.words - 2)) }

  -- and once it is marked as kept, it completes nothing
  pub marked_overlay : overlay (with_kept (formatted name old)) ≡ old.disk
  marked_overlay = bare (with_kept (formatted name old)) (inr (λ i. ap is_entry (zeros (length old.words - 2) i) ∙ zero_free))

  pub formatted_read : (sizes : Sizes) (kept : Bool) → HasShape sizes (with_kept (formatted name old)) → IsBoard sizes kept → 0 < sizes.buffers → sizes.sectors ≤ 2 ^ 32 → AreReadFrom sizes [] (with_kept (formatted name old))
  formatted_read sizes kept shape board some sectors = record {
    words = let w = board.some_words some in omega (arith, w, shape.words);
    sectors = sectors;
    entries_are = (formatted_board sizes).entries_are;
    read = sym (no_entries (length old.words - 2) 0);
  }

-- a rig without a board
pub bare_read : (sizes : Sizes) (kept : Bool) (d : Devices) → HasShape sizes d → IsBoard sizes kept → sizes.buffers ≡ 0 → sizes.sectors ≤ 2 ^ 32 → AreReadFrom sizes [] d
bare_read sizes kept d shape board none sectors = record {
  words = omega (arith, shape.words, board.no_words none, none);
  sectors = sectors;
  entries_are = none_set sizes (entries d) (λ i. ap (λ (l : List ℕ). get_or l i 0) no_words);
  read = sym (ap (entries_from 0) no_words);
}
  where
    dropped : (l : List ℕ) → length l ≡ 0 → drop 2 l ≡ []
    dropped [] e = refl
    dropped (a ∷ l) e = absurd (omega (arith, e))

    no_words : entries d ≡ []
    no_words = dropped d.words (omega (arith, shape.words, board.no_words none))

pub fit_none : (sizes : Sizes) → FitBoard sizes []
fit_none sizes = record {
  fits = record {
    index_fits = λ k lt. absurd (omega (arith, lt));
    buffer_fits = λ k lt. absurd (omega (arith, lt));
    indices = λ j k lt below. absurd (omega (arith, below));
    sectors = λ j k lt below. absurd (omega (arith, below));
    buffers_differ = λ j k lt below. absurd (omega (arith, below));
  };
  rising = λ j k lt below. absurd (omega (arith, below));
  on_disk = λ k lt. absurd (omega (arith, lt));
}

-- no entry is found on an empty board
pub finds_none : (board : List BoardEntry) (slots : List Slot) (s : ℕ) → board ≡ [] → IsMadeOf board slots → find_in slots s ≡ None
finds_none board slots s none made = case (find_in slots s) refl
  where
    case : (o : Option ℕ) → find_in slots s ≡ o → o ≡ None
    case None e = refl
    case (Some i) e = absurd (true≢false (sym (entry_found slots s i e).1 ∙ ap is_dirty (made i ∙ ap (λ (es : List BoardEntry). slot_from es i) none)))
