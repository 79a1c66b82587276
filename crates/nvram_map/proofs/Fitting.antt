-- Entries that are added one after the other fit the board.
use Rattle.std.proofs.Common.{◌≡◌, ◌≢◌, inl, inr, ⊎_elim, ℕ, ◌+◌, ◌<◌, ◌≤◌, List, [], ◌∷◌, ◌++◌, length, get_or, sym, subst, arith}
use Rattle.std.proofs.lemmas.List.{get_or_append_left, get_or_at, length-append}
use Rattle.std.proofs.lemmas.Bool.{cases_lt}
use Rattle.rig.specs.Devices.{Sizes}
use Rattle.nvram_map.specs.Boards.{entry_at, no_entry, FitBoard}
use Rattle.nvram_map.specs.Judged.{IsAdded}
use Rattle.nvram_map.specs.declared.board.BoardEntry.{BoardEntry}

module _ {X : Type 0} (d : X) (xs : List X) (x : X) where
  at_left : (k : ℕ) → k < length xs → get_or (xs ++ x ∷ []) k d ≡ get_or xs k d
  at_left k lt = get_or_append_left xs (x ∷ []) d k lt

  at_last : (k : ℕ) → k < length (xs ++ x ∷ []) → length xs ≤ k → (k ≡ length xs) × (get_or (xs ++ x ∷ []) k d ≡ x)
  at_last k lt le =
      let last : k ≡ length xs = omega (arith, length-append xs (x ∷ [])) in
      (last, get_or_at xs x [] d k (sym last))

  -- what holds of each, and of one more
  pub each_push : (P : X → Type 0) → ((k : ℕ) → k < length xs → P (get_or xs k d)) → P x → (k : ℕ) → k < length (xs ++ x ∷ []) → P (get_or (xs ++ x ∷ []) k d)
  each_push P each one k lt = ⊎_elim (λ low. subst P (sym (at_left k low)) (each k low)) (λ le. subst P (sym (at_last k lt le).1) one) (cases_lt k (length xs))

  -- what holds of each two, and of each with one more
  pub pairs_push : (P : X → X → Type 0) → ((j k : ℕ) → j < k → k < length xs → P (get_or xs j d) (get_or xs k d)) → ((k : ℕ) → k < length xs → P (get_or xs k d) x)
      → (j k : ℕ) → j < k → k < length (xs ++ x ∷ []) → P (get_or (xs ++ x ∷ []) j d) (get_or (xs ++ x ∷ []) k d)
  pairs_push P pairs one j k before lt = ⊎_elim low last (cases_lt k (length xs))
    where
      low : k < length xs → P (get_or (xs ++ x ∷ []) j d) (get_or (xs ++ x ∷ []) k d)
      low is = subst (λ a. P a (get_or (xs ++ x ∷ []) k d)) (sym (at_left j (omega arith))) (subst (λ b. P (get_or xs j d) b) (sym (at_left k is)) (pairs j k before is))

      last : length xs ≤ k → P (get_or (xs ++ x ∷ []) j d) (get_or (xs ++ x ∷ []) k d)
      last is =
          let there = at_last k lt is in
          let first : j < length xs = omega (arith, there.0) in
          subst (λ a. P a (get_or (xs ++ x ∷ []) k d)) (sym (at_left j first)) (subst (λ b. P (get_or xs j d) b) (sym there.1) (one j first))

-- the entries so far fit, and are of words below i
pub record FitBelow (sizes : Sizes) (i : ℕ) (board : List BoardEntry) : Type 0 where
  pub fit : FitBoard sizes board
  pub below : (k : ℕ) → k < length board → (get_or board k no_entry).index < i

pub fit_none : (sizes : Sizes) → FitBelow sizes 0 []
fit_none sizes = record {
  fit = record {
    fits = record {
      index_fits = λ k lt. absurd (omega arith);
      buffer_fits = λ k lt. absurd (omega arith);
      indices = λ j k before lt e. absurd (omega arith);
      sectors = λ j k before lt e. absurd (omega arith);
      buffers_differ = λ j k before lt e. absurd (omega arith);
    };
    rising = λ j k before lt. absurd (omega arith);
    on_disk = λ k lt. absurd (omega arith);
  };
  below = λ k lt. absurd (omega arith);
}

module _ (sizes : Sizes) (i word : ℕ) (board : List BoardEntry) (fits : i + 1 < sizes.buffers) where
  pub fit_more : (new : List BoardEntry) → FitBelow sizes i board → IsAdded sizes board i word new → FitBelow sizes (i + 1) new
  fit_more new so_far (inl free) = subst (FitBelow sizes (i + 1)) (sym free.1) record { fit = so_far.fit; below = λ k lt. omega (arith, so_far.below k lt) }
  fit_more new so_far (inr set) = subst (FitBelow sizes (i + 1)) (sym set.2) record {
    fit = record {
      fits = record {
        index_fits = each_push no_entry board entry (λ e. e.index + 1 < sizes.buffers) so_far.fit.fits.index_fits fits;
        buffer_fits = each_push no_entry board entry (λ e. e.buffer < sizes.buffers) so_far.fit.fits.buffer_fits set.0.on_board;
        indices = pairs_push no_entry board entry (λ a b. a.index ≢ b.index) so_far.fit.fits.indices (λ k lt e. omega (arith, so_far.below k lt, e));
        sectors = pairs_push no_entry board entry (λ a b. a.sector ≢ b.sector) so_far.fit.fits.sectors (λ k lt. (set.1 k no_entry lt).0);
        buffers_differ = pairs_push no_entry board entry (λ a b. a.buffer ≢ b.buffer) so_far.fit.fits.buffers_differ (λ k lt. (set.1 k no_entry lt).1);
      };
      rising = pairs_push no_entry board entry (λ a b. a.index < b.index) so_far.fit.rising so_far.below;
      on_disk = each_push no_entry board entry (λ e. e.sector < sizes.sectors) so_far.fit.on_disk set.0.on_disk;
    };
    below = each_push no_entry board entry (λ e. e.index < i + 1) (λ k lt. omega (arith, so_far.below k lt)) (omega arith);
  }
    where
      entry : BoardEntry
      entry = entry_at i word
