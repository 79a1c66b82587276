-- What is kept of a rig, by what disk and board stand for together.
use Rattle.std.proofs.Common.{arith, ◌≡◌, ⊎_elim, ℕ, ◌^◌, ◌≤◌, Bool, List, [], ◌∷◌, refl, sym, ap, ◌∙◌, subst}
use Rattle.files_model.specs.Files.{Files}
use Rattle.files_model.specs.History.{after}
use Rattle.stable.specs.Moments.{IsClocked}
use Rattle.stable.specs.Store.{Image}
use Rattle.rig.specs.Devices.{Devices, HasShape, IsBoard}
use Rattle.rig.specs.declared.rig.Rig.{Ghosts}
use Rattle.presto_recover.specs.Opened.{IsOpened}
use Rattle.presto_recover.specs.Refused.{IsRefused}
use Rattle.presto_recover.specs.declared.fault.OpenFault.{OpenFault}
use Rattle.presto_recover.specs.declared.parts.Opened.{Opened}
use Rattle.presto_recover.proofs.Recovering.{accepted_opens}
use Rattle.presto_recover.proofs.Shown.{same_overlay, still_opens}
use Rattle.presto_unit.specs.Images.{overlays_since}
use Rattle.presto_unit.specs.Opening.{IsOpenable, opens_since}
use Rattle.presto_unit.specs.Parts.{rig_of}
use Rattle.presto_unit.specs.declared.presto.Presto.{Presto}
use Rattle.v7_map.specs.Frame.{frame}
use Rattle.v7_map.specs.View.{view}
use Rattle.v7_map.specs.Weak.{IsWeak}
use Rattle.volume.specs.Keeps.{SameName}
use Rattle.volume.specs.Opens.{name_in}
use Rattle.nfs_worker.specs.Account.{Hold, history, Grew, HasGrown, IsRecovered, MarksWithin, Lasts}
use Rattle.nfs_worker.proofs.Accounts.{recovered_left, marks_later}
use Rattle.run_lines.specs.Overlays.{overlay_of, overlays_of, unit_store}
use Rattle.run_lines.proofs.Overlays.{opens_now, image_shown}
use Rattle.server_volumes.specs.Kept.{Kept}

module _ {R : Type 0} (r : Ghosts R) (clocked : IsClocked r.tells r.contents r.moment r.left_since) where
  -- a rig whose unit wasn't opened
  pub kept_refused : (accepted : Bool) {rig back : R} (why : OpenFault) → IsRefused r accepted rig back why → Kept r rig back []
  kept_refused accepted {rig} {back} why refused =
      let sizes = refused.only_formats.sizes in
      record {
        grown = λ tells weak.
            let same = same_overlay r clocked sizes refused.crash tells in
            record { legal = tt; view_is = ap (λ (i : Image). view i) same; weak = subst (λ (i : Image). IsWeak (frame i)) (sym same) weak };
        io = (let later = refused.only_formats.later in omega (arith, later));
        marked = refused.crash.later;
        crash = λ image left weak.
            let same : image ≡ overlay_of r rig = left.2.2 ∙ (refused.crash.each left.0 left.1).image left.2.0 left.2.1 in
            subst (λ (i : Image). IsRecovered (view (overlay_of r rig)) [] i) (sym same) (record { weak = weak; stands = refl });
        lasts = λ tells weak. tt;
        named = λ tells. ap (λ (i : Image). name_in i) (same_overlay r clocked sizes refused.crash tells);
        opens = λ opens. still_opens r clocked sizes refused.crash (r.moment rig) (omega arith) (opens_now r clocked rig opens);
      }

  module _ (shape : (rig : R) (t : ℕ) (d : Devices) → r.left_since rig t d → HasShape (r.sizes rig) d) (board : (rig : R) → IsBoard (r.sizes rig) (r.is_kept rig))
      (accepted : Bool) {rig : R} (opened : Opened R r) (is : IsOpened r accepted rig opened) (unit' : Presto R r) (few : (r.sizes (rig_of unit')).sectors ≤ 2 ^ 32) where
    abbrev unit : Presto R r
    unit = opened.presto

    -- a sound crash of the rig shows an image of the unit
    shown_image : opens_since r.sizes r.left_since (rig_of unit') (r.moment rig) → (t : ℕ) → r.moment rig ≤ t → (image : Image) → overlays_of r (rig_of unit') t image → overlays_since r.sizes r.left_since (rig_of unit') t image
    shown_image = image_shown r clocked shape board (rig_of unit') few (r.moment rig)

    lasts_shown : opens_since r.sizes r.left_since (rig_of unit') (r.moment rig) → (from now : ℕ) → r.moment rig ≤ from → (files : Files) (holds : List Hold) → MarksWithin from now holds
        → Lasts (overlays_since r.sizes r.left_since (rig_of unit')) files holds → Lasts (overlays_of r (rig_of unit')) files holds
    lasts_shown opens from now le files [] marks lasts = tt
    lasts_shown opens from now le files (hold ∷ holds) marks lasts =
        let early : r.moment rig ≤ hold.mark = omega (arith, le, marks.0) in (
          (λ image left. lasts.0 image (shown_image opens hold.mark early image left)),
          lasts_shown opens hold.mark now early (after files hold.events) holds marks.1 lasts.1,
        )

    pub kept_opened : (holds : List Hold) → Grew (unit_store r) unit unit' holds → Kept r rig (rig_of unit') holds
    kept_opened holds grew =
        let u = rig_of unit in
        let v = rig_of unit' in
        let begun = is.crash.later in
        let same : r.tells → overlay_of r u ≡ overlay_of r rig = same_overlay r clocked is.sizes is.crash in
        let since : IsOpenable (r.sizes rig) (r.contents rig) → opens_since r.sizes r.left_since v (r.moment rig) =
        λ opens d left. grew.opens (clocked.told v (r.moment rig) d left) (r.moment rig) begun (still_opens r clocked is.sizes is.crash (r.moment rig) (omega arith) (opens_now r clocked rig opens)) d left in
        let told_since : r.tells → opens_since r.sizes r.left_since v (r.moment rig) =
        λ tells. since (accepted_opens (r.sizes rig) accepted (r.contents rig) opened.lost (is.accepted_as tells)) in
        record {
          grown = λ tells weak. subst (λ (i : Image). HasGrown (view i) (overlay_of r v) (history holds)) (same tells) (grew.grown tells (subst (λ (i : Image). IsWeak (frame i)) (sym (same tells)) weak));
          io = (let rose = grew.io in let later = is.starts.flushed.later in omega (arith, rose, later));
          marked = marks_later (r.moment rig) (r.moment u) (r.moment v) holds begun grew.marked;
          crash = λ image left weak.
              let tells = clocked.told v (r.moment rig) left.0 left.1 in
              ⊎_elim
              (λ was.
              let old : image ≡ overlay_of r rig = was.2.shows.2 ∙ (is.crash.each was.0 was.1).image was.2.shows.0 was.2.shows.1 in
              recovered_left (view (overlay_of r rig)) [] holds image (subst (λ (i : Image). IsRecovered (view (overlay_of r rig)) [] i) (sym old) (record { weak = weak; stands = refl })))
              (λ now. subst (λ (i : Image). IsRecovered (view i) holds image) (same tells) (grew.crash.each image now (subst (λ (i : Image). IsWeak (frame i)) (sym (same tells)) weak)))
              (grew.crash.before (r.moment rig) image begun (shown_image (told_since tells) (r.moment rig) (omega arith) image left));
          lasts = λ tells weak. lasts_shown (told_since tells) (r.moment rig) (r.moment v) (omega arith) (view (overlay_of r rig)) holds
              (marks_later (r.moment rig) (r.moment u) (r.moment v) holds begun grew.marked)
              (subst (λ (i : Image). Lasts (overlays_since r.sizes r.left_since v) (view i) holds) (same tells) (grew.lasts tells (subst (λ (i : Image). IsWeak (frame i)) (sym (same tells)) weak)));
          named = λ tells. subst (λ (i : Image). SameName i (overlay_of r v)) (same tells) (grew.named tells);
          opens = since;
        }
