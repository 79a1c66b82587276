-- Calls that change nothing but a lost board, one after the other.
use Rattle.std.proofs.Common.{◌≡◌, ◌≤◌, ◌∙◌, inl, inr, ⊎_elim, ℕ, Bool, true, false, List, refl, ap, subst, arith}
use Rattle.stable.specs.Moments.{IsClocked, LeavesOnly}
use Rattle.stable.proofs.Clocked.{weaker, goes_on, idles}
use Rattle.rig.specs.Devices.{Devices, KeptOldOrTrue, with_kept}
use Rattle.rig.specs.Looked.{Looked, StaysOffDisk}
use Rattle.rig.specs.declared.rig.Rig.{Ghosts}
use Rattle.nvram_map.specs.Formats.{formatted, PartlyFormatted}
use Rattle.nvram_map.specs.Words.{name_word}
use Rattle.presto_unit.specs.Opening.{title_of}
use Rattle.presto_recover.specs.Recovering.{MayBeFormatted, OnlyFormats}
use Rattle.presto_recover.specs.Refused.{name_bytes}

module _ {R : Type 0} (r : Ghosts R) where
  pub looked_formats : (accepted : Bool) {old new : R} → Looked r old new → OnlyFormats r accepted old new
  looked_formats accepted looked = record {
    crash = weaker looked.crash (λ d left same. inl same);
    later = looked.later;
    sizes = looked.sizes;
    disk_writes = looked.disk_writes;
    readings = looked.readings;
  }

  -- a look before
  pub looks_formats : (accepted : Bool) {old mid new : R} → Looked r old mid → OnlyFormats r accepted mid new → OnlyFormats r accepted old new
  looks_formats accepted looked formats = record {
    crash = goes_on (looked_formats accepted looked).crash formats.crash (λ d left part. subst (λ (e : Devices). MayBeFormatted accepted e d) looked.contents part);
    later = omega (arith, looked.later, formats.later);
    sizes = formats.sizes ∙ looked.sizes;
    disk_writes = formats.disk_writes ∙ looked.disk_writes;
    readings = formats.readings ∙ looked.readings;
  }

  module _ (clocked : IsClocked r.tells r.contents r.moment r.left_since) where
    -- and one after
    pub formats_looked : (accepted : Bool) {old mid new : R} → OnlyFormats r accepted old mid → Looked r mid new → OnlyFormats r accepted old new
    formats_looked accepted formats looked = record {
      crash = idles clocked formats.crash looked.crash;
      later = omega (arith, formats.later, looked.later);
      sizes = looked.sizes ∙ formats.sizes;
      disk_writes = looked.disk_writes ∙ formats.disk_writes;
      readings = looked.readings ∙ formats.readings;
    }

    module _ (told : (rig : R) → r.tells → (r.contents rig).kept ≡ r.is_kept rig) {old : R} (name : List ℕ) (lost : r.is_kept old ≡ false) (named : r.tells → name ≡ name_bytes (r.contents old).disk) where
      title : r.tells → name_word name ≡ title_of (r.contents old).disk
      title tells = ap name_word (named tells)

      -- a lost board is formatted
      pub formats : {new : R} → LeavesOnly r.moment r.left_since old new (PartlyFormatted (name_word name) (r.contents old)) → StaysOffDisk r old new → OnlyFormats r true old new
      formats run stays = record {
        crash = weaker run (λ d left part.
            let tells = clocked.told _ _ d left in
            inr (refl, told old tells ∙ lost, inl (subst (λ n. PartlyFormatted n (r.contents old) d) (title tells) part)));
        later = stays.later;
        sizes = stays.sizes;
        disk_writes = stays.disk_writes;
        readings = stays.readings;
      }

      -- and then marked as kept
      pub marks : {mid new : R} → OnlyFormats r true old mid → (r.tells → r.contents mid ≡ formatted (name_word name) (r.contents old)) → LeavesOnly r.moment r.left_since mid new (KeptOldOrTrue (r.contents mid))
          → r.faults mid ≤ r.faults new → r.sizes new ≡ r.sizes mid → r.disk_writes new ≡ r.disk_writes mid → r.readings new ≡ r.readings mid → OnlyFormats r true old new
      marks so_far done run later sizes disk_writes readings = record {
        crash = goes_on so_far.crash run (λ d left cut.
            let tells = clocked.told _ _ d left in
            let is = done tells ∙ ap (λ n. formatted n (r.contents old)) (title tells) in
            inr (refl, told old tells ∙ lost, ⊎_elim (λ same. inl (inr (inr (same ∙ is)))) (λ new. inr (new ∙ ap with_kept is)) cut));
        later = omega (arith, so_far.later, later);
        sizes = sizes ∙ so_far.sizes;
        disk_writes = disk_writes ∙ so_far.disk_writes;
        readings = readings ∙ so_far.readings;
      }
