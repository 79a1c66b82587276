-- What the stores of `format` do to the words, and what the words are then.
use Rattle.std.proofs.Common.{◌≡◌, inl, inr, ℕ, zero, suc, ◌+◌, ◌-◌, ◌<◌, Bool, true, false, if◌then◌else◌, List, [], ◌∷◌, ◌++◌, length, get_or, set, take, drop, replicate, refl, sym, ◌∙◌, ap, subst, arith}
use Rattle.std.proofs.lemmas.List.{append_assoc, append-nil, drop_more, drop_all, length-append, length-replicate, length-take-le, set_at}
use Rattle.rig.specs.Devices.{Devices, Sizes, HasShape, with_word, WordOldOrNew}
use Rattle.rig.specs.declared.rig.Rig.{Ghosts}
use Rattle.stable.specs.Moments.{IsClocked, LeavesOnly}
use Rattle.stable.proofs.Clocked.{goes_on, weaker, ends}
use Rattle.nvram_map.specs.Overlay.{is_entry, laid, overlay}
use Rattle.nvram_map.specs.Words.{mark, IsBoardOf}
use Rattle.nvram_map.specs.Formats.{with_words, freed, empty_words, emptied, named, formatted, PartlyFreed, PartlyFormatted}
use Rattle.nvram_map.proofs.Overlaid.{laid-none}

replicate_more : {X : Type 0} (n : ℕ) (x : X) → replicate (suc n) x ≡ replicate n x ++ x ∷ []
replicate_more zero x = refl
replicate_more (suc n) x = ap (λ l. x ∷ l) (replicate_more n x)

-- before the first store
pub freed_none : (ws : List ℕ) → freed 0 ws ≡ ws
freed_none [] = refl
freed_none (a ∷ []) = refl
freed_none (a ∷ b ∷ ws) = refl

-- one store more
pub freed_more : (ws : List ℕ) (n : ℕ) → n + 2 < length ws → set (freed n ws) (n + 2) 0 ≡ freed (n + 1) ws
freed_more ws n lt =
    ap (λ l. set ((take 2 ws ++ replicate n 0) ++ l) (n + 2) 0) (drop_more ws (n + 2) 0 lt)
    ∙ set_at (take 2 ws ++ replicate n 0) (get_or ws (n + 2) 0) (drop (n + 2 + 1) ws) 0 (n + 2) front
    ∙ ap (λ k. (take 2 ws ++ replicate n 0) ++ 0 ∷ drop k ws) along
    ∙ sym (append_assoc (take 2 ws ++ replicate n 0) (0 ∷ []) (drop (n + 1 + 2) ws))
    ∙ ap (λ l. l ++ drop (n + 1 + 2) ws) (append_assoc (take 2 ws) (replicate n 0) (0 ∷ []) ∙ ap (λ l. take 2 ws ++ l) (sym (replicate_more n 0) ∙ ap (λ k. replicate k 0) plain))
  where
    front : length (take 2 ws ++ replicate n 0) ≡ n + 2
    front = omega (arith, length-append (take 2 ws) (replicate n 0), length-replicate {A = ℕ} n 0, length-take-le 2 ws (omega arith))

    along : n + 2 + 1 ≡ n + 1 + 2
    along = omega arith

    plain : suc n ≡ n + 1
    plain = omega arith

-- after the last
pub freed_all : (ws : List ℕ) (n : ℕ) → length ws ≡ n + 2 → freed n ws ≡ empty_words (get_or ws 0 0) (get_or ws 1 0) ws
freed_all [] n is = absurd (omega arith)
freed_all (a ∷ []) n is = absurd (omega arith)
freed_all (a ∷ b ∷ ws) n is =
    ap (λ l. (a ∷ b ∷ replicate n 0) ++ l) (drop_all (n + 2) (a ∷ b ∷ ws) (omega arith)) ∙ append-nil (a ∷ b ∷ replicate n 0) ∙ ap (λ k. a ∷ b ∷ replicate k 0) so_many
  where
    so_many : n ≡ length (a ∷ b ∷ ws) - 2
    so_many = omega (arith, is)

zero_at : (n i : ℕ) → ◌≡◌ {A = ℕ} (get_or (replicate n 0) i 0) 0
zero_at zero i = refl
zero_at (suc n) zero = refl
zero_at (suc n) (suc i) = zero_at n i

module _ (name : ℕ) (old : Devices) where
  pub formatted_board : (sizes : Sizes) → IsBoardOf sizes name (formatted name old)
  formatted_board sizes = record {
    marked = refl;
    named = refl;
    entries_are = record {
      each = λ i some. absurd (some (zero_at (length old.words - 2) i));
      sectors = λ i j differ some other e. some (zero_at (length old.words - 2) i);
      buffers = λ i j differ some other e. some (zero_at (length old.words - 2) i);
    };
  }

  pub formatted_image : overlay (formatted name old) ≡ old.disk
  formatted_image = at old.kept
    where
      at : (k : Bool) → (if k then laid (replicate (length old.words - 2) 0) old.buffers old.disk else old.disk) ≡ old.disk
      at false = refl
      at true = laid-none old.buffers (replicate (length old.words - 2) 0) old.disk (λ i. ap is_entry (zero_at (length old.words - 2) i))

  -- the name is stored, and then the mark
  module _ (mid d : Devices) where
    pub named_step : (word : ℕ) → word ≡ name → mid ≡ emptied old → d ≡ with_word mid 1 word → d ≡ named name old
    named_step word is freed_all stored = stored ∙ ap (λ (m : Devices). with_word m 1 word) freed_all ∙ ap (λ n. named n old) is

    pub named_cut : (word : ℕ) → word ≡ name → mid ≡ emptied old → PartlyFreed old mid → WordOldOrNew 1 word mid d → PartlyFormatted name old d
    named_cut word is freed_all partly (inl same) = inl (subst (PartlyFreed old) (sym same) partly)
    named_cut word is freed_all partly (inr stored) = inr (inl (named_step word is freed_all stored))

    pub marked_step : mid ≡ named name old → d ≡ with_word mid 0 mark → d ≡ formatted name old
    marked_step is stored = stored ∙ ap (λ (m : Devices). with_word m 0 mark) is

    pub marked_cut : mid ≡ named name old → WordOldOrNew 0 mark mid d → PartlyFormatted name old d
    marked_cut is (inl same) = inr (inl (same ∙ is))
    marked_cut is (inr stored) = inr (inr (marked_step is stored))

module _ {sizes : Sizes} {old mid : Devices} (n : ℕ) (shape : HasShape sizes old) (within : n + 2 < sizes.words) (is : mid ≡ with_words old (freed n old.words)) where
  pub freed_step : (d : Devices) → d ≡ with_word mid (n + 2) 0 → d ≡ with_words old (freed (n + 1) old.words)
  freed_step d stored = stored ∙ ap (λ (m : Devices). with_word m (n + 2) 0) is ∙ ap (with_words old) (freed_more old.words n (omega (arith, shape.words)))

  pub freed_cut : (d : Devices) → WordOldOrNew (n + 2) 0 mid d → PartlyFreed old d
  freed_cut d (inl same) = (n, omega (arith, shape.words), same ∙ is)
  freed_cut d (inr stored) = (n + 1, omega (arith, shape.words), freed_step d stored)

pub freed_start : (old : Devices) → with_words old (freed 0 old.words) ≡ old
freed_start old = ap (with_words old) (freed_none old.words)

pub freed_last : {sizes : Sizes} {old d : Devices} (n : ℕ) → HasShape sizes old → sizes.words ≡ n + 2 → d ≡ with_words old (freed n old.words) → d ≡ emptied old
freed_last {old = old} n shape all is = is ∙ ap (with_words old) (freed_all old.words n (shape.words ∙ all))

-- each moment of the stores of `format`: the entries are freed, the name is stored, and then the mark
module _ {R : Type 0} (r : Ghosts R) (clocked : IsClocked r.tells r.contents r.moment r.left_since) (name : ℕ) {old mid : R} (first : LeavesOnly r.moment r.left_since old mid (PartlyFreed (r.contents old)))
    (all : r.tells → r.contents mid ≡ emptied (r.contents old)) {word : ℕ} (is : word ≡ name) where
  pub named_run : {new : R} → LeavesOnly r.moment r.left_since mid new (WordOldOrNew 1 word (r.contents mid)) → LeavesOnly r.moment r.left_since old new (PartlyFormatted name (r.contents old))
  named_run {new} second = goes_on (weaker first (λ d left partly. inl partly)) second (λ d left cut.
      let tells = clocked.told new _ d left in
      named_cut name (r.contents old) (r.contents mid) d word is (all tells) (ends clocked first tells) cut)

  pub marked_run : {near new : R} → LeavesOnly r.moment r.left_since mid near (WordOldOrNew 1 word (r.contents mid)) → (r.tells → r.contents near ≡ with_word (r.contents mid) 1 word)
      → LeavesOnly r.moment r.left_since near new (WordOldOrNew 0 mark (r.contents near)) → LeavesOnly r.moment r.left_since old new (PartlyFormatted name (r.contents old))
  marked_run {near} {new} second stored third = goes_on (named_run second) third (λ d left cut.
      let tells = clocked.told new _ d left in
      marked_cut name (r.contents old) (r.contents near) d (named_step name (r.contents old) (r.contents mid) (r.contents near) word is (all tells) (stored tells)) cut)
