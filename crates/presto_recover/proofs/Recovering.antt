-- At each moment of an opening.
use Rattle.std.proofs.Common.{◌≡◌, ◌⊎◌, inl, inr, ⊎_elim, Bool, false, true, ℕ, [], refl, sym, ◌∙◌, ap, subst, arith, get_or, List}
use Rattle.std.proofs.lemmas.Bool.{true≢false}
use Rattle.stable.specs.Moments.{IsClocked, LeavesOnly}
use Rattle.stable.proofs.Clocked.{weaker, goes_on, ends}
use Rattle.rig.specs.Devices.{Devices, Sizes, with_kept}
use Rattle.rig.specs.declared.rig.Rig.{Ghosts}
use Rattle.nvram_map.specs.Formats.{formatted}
use Rattle.nvram_map.specs.Overlay.{overlay, NoEntry, SoundlyLeaves}
use Rattle.nvram_map.specs.Words.{IsBoardOf}
use Rattle.nvram_map.proofs.Overlaid.{bare, sound_overlay}
use Rattle.presto_cache.specs.Board.{Keeps}
use Rattle.presto_cache.proofs.Puts.{kept_puts}
use Rattle.presto_unit.specs.Opening.{IsNamed, IsOpenable, title_of}
use Rattle.presto_unit.specs.Disk.{FlushesAll}
use Rattle.presto_unit.proofs.Opening.{put_open, sound_open}
use Rattle.presto_recover.specs.Boards.{IsAccepted}
use Rattle.presto_recover.specs.Opened.{IsBegunAnew}
use Rattle.presto_recover.specs.Recovering.{MayBeFormatted, OnlyFormats, Recovers}
use Rattle.presto_recover.specs.Refused.{name_bytes}
use Rattle.presto_recover.proofs.Emptied.{formatted_board, formatted_stays, marked_overlay}

recovers_same : (sizes : Sizes) (old d : Devices) → d ≡ old → Recovers sizes old d
recovers_same sizes old d same = record {
  image = λ after crash. sound_overlay d after crash ∙ ap overlay same;
  opens = λ was. subst (λ (e : Devices). IsOpenable sizes e) (sym same) was;
  disk = λ k. inl (ap (λ (e : Devices). get_or e.disk k []) same);
}

-- a lost board stands for the disk, whatever it holds
recovers_lost : (sizes : Sizes) (old d : Devices) → old.kept ≡ false → d.disk ≡ old.disk → d.kept ≡ old.kept → Recovers sizes old d
recovers_lost sizes old d lost disk kept = record {
  image = λ after crash. sound_overlay d after crash ∙ bare d (inl (kept ∙ lost)) ∙ disk ∙ sym (bare old (inl lost));
  opens = λ was. inr (inl (kept ∙ lost));
  disk = λ k. inl (ap (λ (l : List (List ℕ)). get_or l k []) disk);
}

-- and once it was formatted and marked as kept, it is the volume's
recovers_marked : (sizes : Sizes) (old d : Devices) → old.kept ≡ false → d ≡ with_kept (formatted (title_of old.disk) old) → Recovers sizes old d
recovers_marked sizes old d lost new = record {
  image = λ after crash. sound_overlay d after crash ∙ ap overlay new ∙ marked_overlay (title_of old.disk) old ∙ sym (bare old (inl lost));
  opens = λ was. inr (inr (subst (λ (e : Devices). IsNamed sizes e) (sym new) record {
    board = formatted_board (title_of old.disk) old sizes;
    same = ap name_bytes (marked_overlay (title_of old.disk) old);
  }));
  disk = λ k. inl (ap (λ (e : Devices). get_or e.disk k []) new);
}

pub recovers_formatting : (sizes : Sizes) (accepted : Bool) (old d : Devices) → MayBeFormatted accepted old d → Recovers sizes old d
recovers_formatting sizes accepted old d (inl same) = recovers_same sizes old d same
recovers_formatting sizes accepted old d (inr formats) = ⊎_elim
    (λ part. let stays = formatted_stays (title_of old.disk) old d part in recovers_lost sizes old d formats.1 stays.0 stays.1)
    (λ marked. recovers_marked sizes old d formats.1 marked)
    formats.2

-- formatting leaves the disk
formatting_disk : (accepted : Bool) (old d : Devices) → MayBeFormatted accepted old d → d.disk ≡ old.disk
formatting_disk accepted old d (inl same) = ap (λ (e : Devices). e.disk) same
formatting_disk accepted old d (inr formats) = ⊎_elim (λ part. (formatted_stays (title_of old.disk) old d part).0) (λ marked. ap (λ (e : Devices). e.disk) marked) formats.2

-- a sector that is as before, or as the overlay had it, in two steps
old_or_laid : {sizes : Sizes} (old mid d : Devices) → Recovers sizes old mid → ((k : ℕ) → (get_or d.disk k [] ≡ get_or mid.disk k []) ⊎ (get_or d.disk k [] ≡ get_or (overlay mid) k []))
    → (k : ℕ) → (get_or d.disk k [] ≡ get_or old.disk k []) ⊎ (get_or d.disk k [] ≡ get_or (overlay old) k [])
old_or_laid old mid d so_far more k = ⊎_elim
    (λ same. ⊎_elim (λ was. inl (same ∙ was)) (λ laid. inr (same ∙ laid)) (so_far.disk k))
    (λ laid. inr (laid ∙ ap (λ (l : List (List ℕ)). get_or l k []) (so_far.image mid (inl refl))))
    (more k)

-- a flush goes on
pub recovers_keeps : (sizes : Sizes) (old mid d : Devices) → mid.kept ≡ true → Recovers sizes old mid → Keeps sizes mid d → Recovers sizes old d
recovers_keeps sizes old mid d kept so_far keeps = record {
  image = λ after crash. keeps.image after crash ∙ so_far.image mid (inl refl);
  opens = λ was. put_open sizes mid d 0 [] (kept_puts 0 [] keeps) (λ e. absurd (omega (arith, e))) kept (so_far.opens was);
  disk = old_or_laid old mid d so_far keeps.disk;
}

-- an opening after an opening
pub recovers_more : (sizes : Sizes) (old mid d : Devices) → Recovers sizes old mid → Recovers sizes mid d → Recovers sizes old d
recovers_more sizes old mid d so_far more = record {
  image = λ after crash. more.image after crash ∙ so_far.image mid (inl refl);
  opens = λ was. more.opens (so_far.opens was);
  disk = old_or_laid old mid d so_far more.disk;
}

-- an opening that a sound crash cut is begun again, and finds the same overlay; what could be opened still can
pub begun_again : (sizes : Sizes) (old d found : Devices) → Recovers sizes old d → SoundlyLeaves d found → (overlay found ≡ overlay old) × (IsOpenable sizes old → IsOpenable sizes found)
begun_again sizes old d found cut crash = (cut.image found crash, λ was. sound_open sizes d found crash (cut.opens was))

-- what is accepted could be opened before
pub accepted_opens : (sizes : Sizes) (accepted : Bool) (d : Devices) (lost : Bool) → IsAccepted sizes accepted d lost → IsOpenable sizes d
accepted_opens sizes accepted d lost is = ⊎_elim (λ gone. inr (inl gone.1)) (λ here. ⊎_elim (λ none. inl none) (λ named. inr (inr named)) (is.named here.0)) is.loss

-- a lost board, once it has no entry and is marked as kept
pub begun_anew : (sizes : Sizes) (found now : Devices) → (sizes.buffers ≡ 0 → found.kept ≡ true) → found.kept ≡ false → now.kept ≡ true → NoEntry now → Recovers sizes found now → IsBegunAnew sizes found now
begun_anew sizes found now some lost kept empty recovers = case (recovers.opens (inr (inl lost)))
  where
    disk : now.disk ≡ found.disk
    disk = sym (bare now (inr empty)) ∙ recovers.image now (inl refl) ∙ bare found (inl lost)

    case : IsOpenable sizes now → IsBegunAnew sizes found now
    case (inl none) = absurd (true≢false (sym (some none) ∙ lost))
    case (inr (inl gone)) = absurd (true≢false (sym kept ∙ gone))
    case (inr (inr named)) = record { board_is = subst (λ (n : ℕ). IsBoardOf sizes n now) (ap title_of disk) named.board; empty = empty; kept = kept; disk = disk }

module _ {R : Type 0} (r : Ghosts R) where
  pub formats_recover : (accepted : Bool) {old new : R} → OnlyFormats r accepted old new → LeavesOnly r.moment r.left_since old new (Recovers (r.sizes old) (r.contents old))
  formats_recover accepted {old} formats = weaker formats.crash (λ d left part. recovers_formatting (r.sizes old) accepted (r.contents old) d part)

  -- all is flushed after
  pub flushes_recover : IsClocked r.tells r.contents r.moment r.left_since → ((rig : R) → r.tells → (r.contents rig).kept ≡ r.is_kept rig) → (accepted : Bool) {old mid new : R} → OnlyFormats r accepted old mid
      → r.is_kept mid ≡ true → FlushesAll r mid new → LeavesOnly r.moment r.left_since old new (Recovers (r.sizes old) (r.contents old))
  flushes_recover clocked told accepted {old} {mid} {new} formats kept run = goes_on (formats_recover accepted formats) run (λ d left keeps.
      let tells = clocked.told _ _ d left in
      recovers_keeps (r.sizes old) (r.contents old) (r.contents mid) d (told mid tells ∙ kept) (ends clocked (formats_recover accepted formats) tells)
      (subst (λ (z : Sizes). Keeps z (r.contents mid) d) formats.sizes keeps))

  pub formats_disk : IsClocked r.tells r.contents r.moment r.left_since → (accepted : Bool) {old new : R} → OnlyFormats r accepted old new → r.tells → (r.contents new).disk ≡ (r.contents old).disk
  formats_disk clocked accepted {old} {new} formats tells = formatting_disk accepted (r.contents old) (r.contents new) (ends clocked formats.crash tells)
