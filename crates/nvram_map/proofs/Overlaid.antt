-- What the steps of `keep` do to the overlay.
use Rattle.std.proofs.Common.{◌≡◌, ◌≢◌, ◌⊎◌, inl, inr, ℕ, zero, suc, ◌+◌, ◌*◌, ◌^◌, ◌<◌, ◌≤◌, Bool, true, false, if◌then◌else◌, List, [], ◌∷◌, length, get_or, set, drop, refl, sym, ◌∙◌, ap, subst, arith, length-drop}
use Rattle.std.proofs.lemmas.List.{get_or-set_same, get_or-set_other, get_or-drop, set-get_or, set-set, length-set}
use Rattle.std.proofs.lemmas.Bool.Decides.{nat_tests}
use Rattle.std.proofs.lemmas.Bool.{eqb-true, eqb-false, true≢false}
use Rattle.std.proofs.Math.Dec.{eqb}
use Rattle.rig.specs.Devices.{Devices, Sizes, HasShape, with_buffer, with_sector, with_word, BufferAny, SectorOldOrNew, WordOldOrNew}
use Rattle.nvram_map.specs.Overlay.{is_entry, entry_sector, entry_buffer, laid, entries, overlay, SoundlyLeaves, OverlayOldOrNew, OverlayKept, IsAlone, IsFree, IsFor, NeedsNothing}

set-comm : {X : Type 0} (xs : List X) (i j : ℕ) (x y : X) → i ≢ j → set (set xs i x) j y ≡ set (set xs j y) i x
set-comm [] i j x y ne = refl
set-comm (a ∷ xs) zero zero x y ne = absurd (ne refl)
set-comm (a ∷ xs) zero (suc j) x y ne = refl
set-comm (a ∷ xs) (suc i) zero x y ne = refl
set-comm (a ∷ xs) (suc i) (suc j) x y ne = ap (λ l. a ∷ l) (set-comm xs i j x y (λ e. ne (ap suc e)))

module _ (buffers : List (List ℕ)) where
  abbrev step : ℕ → List (List ℕ) → List (List ℕ)
  step word disk = if is_entry word then set disk (entry_sector word) (get_or buffers (entry_buffer word) []) else disk

  step-false : (word : ℕ) (disk : List (List ℕ)) → is_entry word ≡ false → step word disk ≡ disk
  step-false word disk is = ap (λ b. if b then set disk (entry_sector word) (get_or buffers (entry_buffer word) []) else disk) is

  step-true : (word : ℕ) (disk : List (List ℕ)) → is_entry word ≡ true → step word disk ≡ set disk (entry_sector word) (get_or buffers (entry_buffer word) [])
  step-true word disk is = ap (λ b. if b then set disk (entry_sector word) (get_or buffers (entry_buffer word) []) else disk) is

  step-set : (word : ℕ) (disk : List (List ℕ)) (s : ℕ) (x : List ℕ) → (is_entry word ≡ true → entry_sector word ≢ s) → step word (set disk s x) ≡ set (step word disk) s x
  step-set word disk s x misses = at (is_entry word) refl
    where
      at : (b : Bool) → is_entry word ≡ b → step word (set disk s x) ≡ set (step word disk) s x
      at false is = step-false word (set disk s x) is ∙ ap (λ l. set l s x) (sym (step-false word disk is))
      at true is =
          step-true word (set disk s x) is ∙ set-comm disk s (entry_sector word) x (get_or buffers (entry_buffer word) []) (λ e. misses is (sym e))
          ∙ ap (λ l. set l s x) (sym (step-true word disk is))

  pub laid-none : (es : List ℕ) (disk : List (List ℕ)) → ((i : ℕ) → is_entry (get_or es i 0) ≡ false) → laid es buffers disk ≡ disk
  laid-none [] disk none = refl
  laid-none (w ∷ es) disk none = ap (laid es buffers) (step-false w disk (none 0)) ∙ laid-none es disk (λ i. none (suc i))

  pub laid-set : (es : List ℕ) (disk : List (List ℕ)) (s : ℕ) (x : List ℕ) → ((i : ℕ) → is_entry (get_or es i 0) ≡ true → entry_sector (get_or es i 0) ≢ s) → laid es buffers (set disk s x) ≡ set (laid es buffers disk) s x
  laid-set [] disk s x misses = refl
  laid-set (w ∷ es) disk s x misses = ap (laid es buffers) (step-set w disk s x (misses 0)) ∙ laid-set es (step w disk) s x (λ i. misses (suc i))

  pub laid-entry : (es : List ℕ) (i w : ℕ) (disk : List (List ℕ)) (s : ℕ) (x : List ℕ) → i < length es
      → ((j : ℕ) → j ≢ i → is_entry (get_or es j 0) ≡ true → entry_sector (get_or es j 0) ≢ s)
      → (is_entry (get_or es i 0) ≡ true → entry_sector (get_or es i 0) ≡ s)
      → is_entry w ≡ true → entry_sector w ≡ s → get_or buffers (entry_buffer w) [] ≡ x → laid (set es i w) buffers disk ≡ set (laid es buffers disk) s x
  laid-entry [] i w disk s x lt others this is at_s holds = absurd (omega arith)
  laid-entry (v ∷ es) zero w disk s x lt others this is at_s holds =
      ap (laid es buffers) (step-true w disk is ∙ ap (λ k. set disk k (get_or buffers (entry_buffer w) [])) at_s ∙ ap (set disk s) holds)
      ∙ laid-set es disk s x rest
      ∙ sym (was (is_entry v) refl)
    where
      rest : (j : ℕ) → is_entry (get_or es j 0) ≡ true → entry_sector (get_or es j 0) ≢ s
      rest j = others (suc j) (λ e. omega arith)

      was : (b : Bool) → is_entry v ≡ b → set (laid es buffers (step v disk)) s x ≡ set (laid es buffers disk) s x
      was false off = ap (λ l. set (laid es buffers l) s x) (step-false v disk off)
      was true on =
          ap (λ l. set (laid es buffers l) s x) (step-true v disk on ∙ ap (λ k. set disk k (get_or buffers (entry_buffer v) [])) (this on))
          ∙ ap (λ l. set l s x) (laid-set es disk s (get_or buffers (entry_buffer v) []) rest)
          ∙ set-set (laid es buffers disk) s (get_or buffers (entry_buffer v) []) x
  laid-entry (v ∷ es) (suc i) w disk s x lt others this is at_s holds =
      laid-entry es i w (step v disk) s x (omega arith) (λ j ne. others (suc j) (λ e. ne (omega arith))) this is at_s holds

pub laid-free : (es : List ℕ) (buffers disk : List (List ℕ)) (b : ℕ) (x : List ℕ) → ((i : ℕ) → is_entry (get_or es i 0) ≡ true → entry_buffer (get_or es i 0) ≢ b) → laid es (set buffers b x) disk ≡ laid es buffers disk
laid-free [] buffers disk b x free = refl
laid-free (w ∷ es) buffers disk b x free = ap (laid es (set buffers b x)) (at (is_entry w) refl) ∙ laid-free es buffers (step buffers w disk) b x (λ i. free (suc i))
  where
    at : (t : Bool) → is_entry w ≡ t → step (set buffers b x) w disk ≡ step buffers w disk
    at false off = step-false (set buffers b x) w disk off ∙ sym (step-false buffers w disk off)
    at true on =
        step-true (set buffers b x) w disk on ∙ ap (set disk (entry_sector w)) (get_or-set_other buffers b (entry_buffer w) x [] (free 0 on)) ∙ sym (step-true buffers w disk on)

-- what needs nothing of the board stands for the disk
pub bare : (d : Devices) → NeedsNothing d → overlay d ≡ d.disk
bare d (inl lost) = ap (λ b. if b then laid (entries d) d.buffers d.disk else d.disk) lost
bare d (inr none) = at d.kept
  where
    at : (b : Bool) → (if b then laid (entries d) d.buffers d.disk else d.disk) ≡ d.disk
    at false = refl
    at true = laid-none d.buffers (entries d) d.disk none

pub sound_overlay : (before after : Devices) → SoundlyLeaves before after → overlay after ≡ overlay before
sound_overlay before after (inl same) = ap overlay same
sound_overlay before after (inr lost) =
    ap (λ b. if b then laid (entries after) after.buffers after.disk else after.disk) lost.1.kept ∙ lost.1.disk ∙ sym (bare before lost.0)

-- a free buffer is filled
pub buffer_overlay : (d : Devices) (b : ℕ) (x : List ℕ) → IsFree b d → overlay (with_buffer d b x) ≡ overlay d
buffer_overlay d b x free = at d.kept
  where
    at : (k : Bool) → (if k then laid (entries d) (set d.buffers b x) d.disk else d.disk) ≡ (if k then laid (entries d) d.buffers d.disk else d.disk)
    at false = refl
    at true = laid-free (entries d) d.buffers d.disk b x free

pub drop-set-two : (ws : List ℕ) (i w : ℕ) → drop 2 (set ws (i + 2) w) ≡ set (drop 2 ws) i w
drop-set-two ws i w = subst (λ j. drop 2 (set ws j w) ≡ set (drop 2 ws) i w) plain (at ws)
  where
    plain : suc (suc i) ≡ i + 2
    plain = omega arith

    at : (ws : List ℕ) → drop 2 (set ws (suc (suc i)) w) ≡ set (drop 2 ws) i w
    at [] = refl
    at (a ∷ []) = refl
    at (a ∷ b ∷ ws) = refl

-- and the entry's word names it
pub word_overlay : (d : Devices) (i w s b : ℕ) (x : List ℕ) → d.kept ≡ true → i + 2 < length d.words → IsFor i s d → is_entry w ≡ true → entry_sector w ≡ s → entry_buffer w ≡ b
    → get_or d.buffers b [] ≡ x → overlay (with_word d (i + 2) w) ≡ set (overlay d) s x
word_overlay d i w s b x kept lt for is at_s at_b holds =
    ap (λ k. if k then laid (drop 2 (set d.words (i + 2) w)) d.buffers d.disk else d.disk) kept
    ∙ ap (λ es. laid es d.buffers d.disk) (drop-set-two d.words i w)
    ∙ laid-entry d.buffers (entries d) i w d.disk s x (omega (arith, length-drop 2 d.words)) for.others for.this is at_s (ap (λ k. get_or d.buffers k []) at_b ∙ holds)
    ∙ ap (λ k. set (if k then laid (entries d) d.buffers d.disk else d.disk) s x) (sym kept)

-- the word that `entry_word` makes
pub made_entry : (b s : ℕ) → is_entry (2 ^ 63 + b * 2 ^ 32 + s) ≡ true
made_entry b s = grind (arith, nat_tests)

pub made_sector : (b s : ℕ) → s < 2 ^ 32 → entry_sector (2 ^ 63 + b * 2 ^ 32 + s) ≡ s
made_sector b s lt = omega arith

pub made_buffer : (b s : ℕ) → s < 2 ^ 32 → b < 2 ^ 16 → entry_buffer (2 ^ 63 + b * 2 ^ 32 + s) ≡ b
made_buffer b s lt small = omega arith

-- what holds of the overlay holds after each sound crash
pub soundly : (d : Devices) (old : List (List ℕ)) (s : ℕ) (x : List ℕ) → (overlay d ≡ old) ⊎ (overlay d ≡ set old s x) → OverlayOldOrNew s x old d
soundly d old s x (inl is) after crash = inl (sound_overlay d after crash ∙ is)
soundly d old s x (inr is) after crash = inr (sound_overlay d after crash ∙ is)

pub first_step : (old d : Devices) (b s : ℕ) (x : List ℕ) → IsFree b old → BufferAny b old d → OverlayOldOrNew s x (overlay old) d
first_step old d b s x free any = soundly d (overlay old) s x (inl (ap overlay any.1 ∙ buffer_overlay old b any.0 free))

module _ (sizes : Sizes) (old mid : Devices) (i b s w : ℕ) (x : List ℕ) (free : IsFree b old) (for : IsFor i s old) (kept : old.kept ≡ true) (shape : HasShape sizes old)
    (i_fits : i + 2 < sizes.words) (b_fits : b < sizes.buffers) (s_small : s < 2 ^ 32) (b_small : b < 2 ^ 16) (is_w : w ≡ 2 ^ 63 + b * 2 ^ 32 + s) (filled : mid ≡ with_buffer old b x) where
  pub second_done : (new : Devices) → new ≡ with_word mid (i + 2) w → overlay new ≡ set (overlay old) s x
  second_done new is =
      ap overlay (is ∙ ap (λ (d : Devices). with_word d (i + 2) w) filled)
      ∙ word_overlay (with_buffer old b x) i w s b x kept (omega (arith, i_fits, shape.words)) record { others = for.others; this = for.this }
      (ap is_entry is_w ∙ made_entry b s) (ap entry_sector is_w ∙ made_sector b s s_small) (ap entry_buffer is_w ∙ made_buffer b s s_small b_small)
      (get_or-set_same old.buffers b x [] (omega (arith, b_fits, shape.buffers)))
      ∙ ap (λ l. set l s x) (buffer_overlay old b x free)

  pub second_step : (d : Devices) → WordOldOrNew (i + 2) w mid d → OverlayOldOrNew s x (overlay old) d
  second_step d (inl same) = soundly d (overlay old) s x (inl (ap overlay (same ∙ filled) ∙ buffer_overlay old b x free))
  second_step d (inr new) = soundly d (overlay old) s x (inr (second_done d new))

module _ (buffers : List (List ℕ)) where
  -- an entry's sector is covered, whatever stands on the disk
  pub laid-covered : (es : List ℕ) (i : ℕ) (disk : List (List ℕ)) (y : List ℕ) → i < length es → is_entry (get_or es i 0) ≡ true
      → ((j : ℕ) → j ≢ i → is_entry (get_or es j 0) ≡ true → entry_sector (get_or es j 0) ≢ entry_sector (get_or es i 0))
      → laid es buffers (set disk (entry_sector (get_or es i 0)) y) ≡ laid es buffers disk
  laid-covered [] i disk y lt is others = absurd (omega arith)
  laid-covered (w ∷ es) zero disk y lt is others =
      ap (laid es buffers)
      (step-true buffers w (set disk (entry_sector w) y) is ∙ set-set disk (entry_sector w) y (get_or buffers (entry_buffer w) []) ∙ sym (step-true buffers w disk is))
  laid-covered (w ∷ es) (suc i) disk y lt is others =
      ap (laid es buffers) (step-set buffers w disk (entry_sector (get_or es i 0)) y (others 0 (λ e. omega arith)))
      ∙ laid-covered es i (step buffers w disk) y (omega arith) is (λ j ne. others (suc j) (λ e. ne (omega arith)))

  -- once its buffer is on the disk, the entry may go
  pub laid-freed : (es : List ℕ) (i : ℕ) (disk : List (List ℕ)) → i < length es → is_entry (get_or es i 0) ≡ true
      → ((j : ℕ) → j ≢ i → is_entry (get_or es j 0) ≡ true → entry_sector (get_or es j 0) ≢ entry_sector (get_or es i 0))
      → laid (set es i 0) buffers (set disk (entry_sector (get_or es i 0)) (get_or buffers (entry_buffer (get_or es i 0)) [])) ≡ laid es buffers disk
  laid-freed [] i disk lt is others = absurd (omega arith)
  laid-freed (w ∷ es) zero disk lt is others = ap (laid es buffers) (sym (step-true buffers w disk is))
  laid-freed (w ∷ es) (suc i) disk lt is others =
      ap (laid (set es i 0) buffers) (step-set buffers w disk (entry_sector (get_or es i 0)) (get_or buffers (entry_buffer (get_or es i 0)) []) (others 0 (λ e. omega arith)))
      ∙ laid-freed es i (step buffers w disk) (omega arith) is (λ j ne. others (suc j) (λ e. ne (omega arith)))

pub soundly_kept : (d : Devices) (old : List (List ℕ)) → overlay d ≡ old → OverlayKept old d
soundly_kept d old is after crash = sound_overlay d after crash ∙ is

module _ (sizes : Sizes) (old : Devices) (i w s b : ℕ) (x : List ℕ) (alone : IsAlone i old) (kept : old.kept ≡ true) (shape : HasShape sizes old) (fits : i + 2 < sizes.words)
    (is : w ≡ get_or old.words (i + 2) 0) (set_entry : 2 ^ 63 ≤ w) (at_s : s ≡ entry_sector w) (at_b : b ≡ entry_buffer w) (holds : x ≡ get_or old.buffers b []) where
  at_entry : get_or (entries old) i 0 ≡ w
  at_entry = get_or-drop 2 old.words i 0 ∙ ap (λ k. get_or old.words k 0) flip ∙ sym is
    where
      flip : 2 + i ≡ i + 2
      flip = omega arith

  is_set : is_entry w ≡ true
  is_set = grind (arith, nat_tests)

  here : is_entry (get_or (entries old) i 0) ≡ true
  here = ap is_entry at_entry ∙ is_set

  s_is : s ≡ entry_sector (get_or (entries old) i 0)
  s_is = at_s ∙ ap entry_sector (sym at_entry)

  x_is : x ≡ get_or old.buffers (entry_buffer (get_or (entries old) i 0)) []
  x_is = holds ∙ ap (λ k. get_or old.buffers k []) (at_b ∙ ap entry_buffer (sym at_entry))

  in_list : i < length (entries old)
  in_list = omega (arith, fits, shape.words, length-drop 2 old.words)

  pub disk_written : (d : Devices) → d ≡ with_sector old s x → overlay d ≡ overlay old
  disk_written d new =
      ap overlay new
      ∙ ap (λ k. if k then laid (entries old) old.buffers (set old.disk s x) else set old.disk s x) kept
      ∙ ap (λ k. laid (entries old) old.buffers (set old.disk k x)) s_is
      ∙ laid-covered old.buffers (entries old) i old.disk x in_list here alone
      ∙ ap (λ k. if k then laid (entries old) old.buffers old.disk else old.disk) (sym kept)

  pub entry_freed : (d : Devices) → d ≡ with_word (with_sector old s x) (i + 2) 0 → overlay d ≡ overlay old
  entry_freed d new =
      ap overlay new
      ∙ ap (λ k. if k then laid (drop 2 (set old.words (i + 2) 0)) old.buffers (set old.disk s x) else set old.disk s x) kept
      ∙ ap (λ es. laid es old.buffers (set old.disk s x)) (drop-set-two old.words i 0)
      ∙ ap (λ k. laid (set (entries old) i 0) old.buffers (set old.disk k x)) s_is
      ∙ ap (λ y. laid (set (entries old) i 0) old.buffers (set old.disk (entry_sector (get_or (entries old) i 0)) y)) x_is
      ∙ laid-freed old.buffers (entries old) i old.disk in_list here alone
      ∙ ap (λ k. if k then laid (entries old) old.buffers old.disk else old.disk) (sym kept)

  pub write_step : (mid d : Devices) → mid ≡ old → SectorOldOrNew s x mid d → OverlayKept (overlay old) d
  write_step mid d same (inl stays) = soundly_kept d (overlay old) (ap overlay (stays ∙ same))
  write_step mid d same (inr new) = soundly_kept d (overlay old) (disk_written d (new ∙ ap (λ (m : Devices). with_sector m s x) same))

  pub free_step : (mid d : Devices) → mid ≡ with_sector old s x → WordOldOrNew (i + 2) 0 mid d → OverlayKept (overlay old) d
  free_step mid d written (inl stays) = soundly_kept d (overlay old) (disk_written d (stays ∙ written))
  free_step mid d written (inr new) = soundly_kept d (overlay old) (entry_freed d (new ∙ ap (λ (m : Devices). with_word m (i + 2) 0) written))

module _ (buffers : List (List ℕ)) where
  -- an entry's word is cleared, and its sector holds x on the disk
  pub laid-cleared : (es : List ℕ) (i : ℕ) (disk : List (List ℕ)) (s : ℕ) (x : List ℕ) → i < length es
      → ((j : ℕ) → j ≢ i → is_entry (get_or es j 0) ≡ true → entry_sector (get_or es j 0) ≢ s)
      → (is_entry (get_or es i 0) ≡ true → entry_sector (get_or es i 0) ≡ s)
      → laid (set es i 0) buffers (set disk s x) ≡ set (laid es buffers disk) s x
  laid-cleared [] i disk s x lt others this = absurd (omega arith)
  laid-cleared (v ∷ es) zero disk s x lt others this =
      laid-set buffers es disk s x rest ∙ sym (was (is_entry v) refl)
    where
      rest : (j : ℕ) → is_entry (get_or es j 0) ≡ true → entry_sector (get_or es j 0) ≢ s
      rest j = others (suc j) (λ e. omega arith)

      was : (b : Bool) → is_entry v ≡ b → set (laid es buffers (step buffers v disk)) s x ≡ set (laid es buffers disk) s x
      was false off = ap (λ l. set (laid es buffers l) s x) (step-false buffers v disk off)
      was true on =
          ap (λ l. set (laid es buffers l) s x) (step-true buffers v disk on ∙ ap (λ k. set disk k (get_or buffers (entry_buffer v) [])) (this on))
          ∙ ap (λ l. set l s x) (laid-set buffers es disk s (get_or buffers (entry_buffer v) []) rest)
          ∙ set-set (laid es buffers disk) s (get_or buffers (entry_buffer v) []) x
  laid-cleared (v ∷ es) (suc i) disk s x lt others this =
      ap (laid (set es i 0) buffers) (step-set buffers v disk s x (others 0 (λ e. omega arith)))
      ∙ laid-cleared es i (step buffers v disk) s x (omega arith) (λ j ne. others (suc j) (λ e. ne (omega arith))) this

  -- the sector of an entry is its buffer
  pub laid-at : (es : List ℕ) (i : ℕ) (disk : List (List ℕ)) → i < length es → is_entry (get_or es i 0) ≡ true
      → ((j : ℕ) → j ≢ i → is_entry (get_or es j 0) ≡ true → entry_sector (get_or es j 0) ≢ entry_sector (get_or es i 0))
      → laid es buffers disk ≡ set (laid es buffers disk) (entry_sector (get_or es i 0)) (get_or buffers (entry_buffer (get_or es i 0)) [])
  laid-at [] i disk lt is others = absurd (omega arith)
  laid-at (w ∷ es) zero disk lt is others =
      ap (laid es buffers) (step-true buffers w disk is)
      ∙ laid-set buffers es disk (entry_sector w) (get_or buffers (entry_buffer w) []) (λ j. others (suc j) (λ e. omega arith))
      ∙ sym (set-set (laid es buffers disk) (entry_sector w) (get_or buffers (entry_buffer w) []) (get_or buffers (entry_buffer w) []))
      ∙ ap (λ l. set l (entry_sector w) (get_or buffers (entry_buffer w) [])) (sym (laid-set buffers es disk (entry_sector w) (get_or buffers (entry_buffer w) []) (λ j. others (suc j) (λ e. omega arith))) ∙ ap (laid es buffers) (sym (step-true buffers w disk is)))
  laid-at (w ∷ es) (suc i) disk lt is others = laid-at es i (step buffers w disk) (omega arith) is (λ j ne. others (suc j) (λ e. ne (omega arith)))

  -- a sector that no entry names is the disk's
  pub laid-off : (es : List ℕ) (disk : List (List ℕ)) (s : ℕ) → ((j : ℕ) → is_entry (get_or es j 0) ≡ true → entry_sector (get_or es j 0) ≢ s)
      → laid es buffers disk ≡ set (laid es buffers disk) s (get_or disk s [])
  laid-off es disk s misses = ap (laid es buffers) (sym (set-get_or disk s [])) ∙ laid-set buffers es disk s (get_or disk s []) misses

-- the word of an entry is cleared: its sector is as on the disk
pub clear_overlay : (d : Devices) (i s : ℕ) → d.kept ≡ true → i + 2 < length d.words → IsFor i s d → overlay (with_word d (i + 2) 0) ≡ set (overlay d) s (get_or d.disk s [])
clear_overlay d i s kept lt for =
    ap (λ k. if k then laid (drop 2 (set d.words (i + 2) 0)) d.buffers d.disk else d.disk) kept
    ∙ ap (λ es. laid es d.buffers d.disk) (drop-set-two d.words i 0)
    ∙ ap (laid (set (entries d) i 0) d.buffers) (sym (set-get_or d.disk s []))
    ∙ laid-cleared d.buffers (entries d) i d.disk s (get_or d.disk s []) (omega (arith, length-drop 2 d.words)) for.others for.this
    ∙ ap (λ k. set (if k then laid (entries d) d.buffers d.disk else d.disk) s (get_or d.disk s [])) (sym kept)

-- the overlay at a sector that no entry names
pub overlay_off : (d : Devices) (s : ℕ) → d.kept ≡ true → ((i : ℕ) → is_entry (get_or (entries d) i 0) ≡ true → entry_sector (get_or (entries d) i 0) ≢ s)
    → overlay d ≡ set (overlay d) s (get_or d.disk s [])
overlay_off d s kept misses =
    ap (λ k. if k then laid (entries d) d.buffers d.disk else d.disk) kept
    ∙ laid-off d.buffers (entries d) d.disk s misses
    ∙ ap (λ k. set (if k then laid (entries d) d.buffers d.disk else d.disk) s (get_or d.disk s [])) (sym kept)

-- the overlay at the sector of an entry
pub overlay_on : (d : Devices) (i s b : ℕ) → d.kept ≡ true → i + 2 < length d.words → IsFor i s d → is_entry (get_or (entries d) i 0) ≡ true
    → entry_sector (get_or (entries d) i 0) ≡ s → entry_buffer (get_or (entries d) i 0) ≡ b → overlay d ≡ set (overlay d) s (get_or d.buffers b [])
overlay_on d i s b kept lt for is at_s at_b =
    ap (λ k. if k then laid (entries d) d.buffers d.disk else d.disk) kept
    ∙ laid-at d.buffers (entries d) i d.disk (omega (arith, length-drop 2 d.words)) is (λ j ne on e. for.others j ne on (e ∙ at_s))
    ∙ ap (λ k. set (laid (entries d) d.buffers d.disk) k (get_or d.buffers (entry_buffer (get_or (entries d) i 0)) [])) at_s
    ∙ ap (λ k. set (laid (entries d) d.buffers d.disk) s (get_or d.buffers k [])) at_b
    ∙ ap (λ k. set (if k then laid (entries d) d.buffers d.disk else d.disk) s (get_or d.buffers b [])) (sym kept)

pub length-laid : (es : List ℕ) (buffers disk : List (List ℕ)) → length (laid es buffers disk) ≡ length disk
length-laid [] buffers disk = refl
length-laid (w ∷ es) buffers disk = length-laid es buffers (step buffers w disk) ∙ at (is_entry w) refl
  where
    at : (b : Bool) → is_entry w ≡ b → length (step buffers w disk) ≡ length disk
    at false off = ap length (step-false buffers w disk off)
    at true on = ap length (step-true buffers w disk on) ∙ length-set disk (entry_sector w) (get_or buffers (entry_buffer w) [])

pub length-overlay : (d : Devices) → length (overlay d) ≡ length d.disk
length-overlay d = at d.kept
  where
    at : (k : Bool) → length (if k then laid (entries d) d.buffers d.disk else d.disk) ≡ length d.disk
    at false = refl
    at true = length-laid (entries d) d.buffers d.disk

-- a sector is written that no entry names
pub sector_bare : (d : Devices) (s : ℕ) (x : List ℕ) → ((j : ℕ) → is_entry (get_or (entries d) j 0) ≡ true → entry_sector (get_or (entries d) j 0) ≢ s) → overlay (with_sector d s x) ≡ set (overlay d) s x
sector_bare d s x misses = at d.kept
  where
    at : (k : Bool) → (if k then laid (entries d) d.buffers (set d.disk s x) else set d.disk s x) ≡ set (if k then laid (entries d) d.buffers d.disk else d.disk) s x
    at false = refl
    at true = laid-set d.buffers (entries d) d.disk s x misses

-- or one that an entry may name
pub sector_covered : (d : Devices) (i s : ℕ) (x : List ℕ) → d.kept ≡ true → i + 2 < length d.words → IsFor i s d
    → (overlay (with_sector d s x) ≡ overlay d) ⊎ (overlay (with_sector d s x) ≡ set (overlay d) s x)
sector_covered d i s x kept lt for = case (is_entry (get_or (entries d) i 0)) refl
  where
    case : (b : Bool) → is_entry (get_or (entries d) i 0) ≡ b → (overlay (with_sector d s x) ≡ overlay d) ⊎ (overlay (with_sector d s x) ≡ set (overlay d) s x)
    case true on =
        let e : entry_sector (get_or (entries d) i 0) ≡ s = for.this on in
        inl (ap (λ k. if k then laid (entries d) d.buffers (set d.disk s x) else set d.disk s x) kept
        ∙ ap (λ n. laid (entries d) d.buffers (set d.disk n x)) (sym e)
        ∙ laid-covered d.buffers (entries d) i d.disk x (omega (arith, length-drop 2 d.words)) on (λ j ne is same. for.others j ne is (same ∙ e))
        ∙ ap (λ k. if k then laid (entries d) d.buffers d.disk else d.disk) (sym kept))
    case false off = inr (sector_bare d s x (λ j is. apart j (eqb j i) refl is))
      where
        apart : (j : ℕ) (b : Bool) → eqb j i ≡ b → is_entry (get_or (entries d) j 0) ≡ true → entry_sector (get_or (entries d) j 0) ≢ s
        apart j true same is = absurd (true≢false (sym is ∙ ap (λ n. is_entry (get_or (entries d) n 0)) (eqb-true j i same) ∙ off))
        apart j false differs is = for.others j (eqb-false j i differs) is
