-- What is kept of a rig whose unit was opened, by what is kept of the unit's image.
use Rattle.std.proofs.Common.{arith, ◌≡◌, ◌∙◌, inl, ⊎_elim, ℕ, ◌^◌, ◌≤◌, Bool, List, Result, refl, sym, subst}
use Rattle.stable.specs.Looked.{KeepsImage, Looked}
use Rattle.stable.specs.Moments.{IsClocked, LeavesOnly}
use Rattle.stable.specs.Store.{Image, Same, StaysOpenable}
use Rattle.stable.specs.declared.store.Stable.{Ghosts as StoreGhosts}
use Rattle.stable.proofs.Clocked.{goes_on, ends, weaker}
use Rattle.rig.specs.Devices.{Devices, HasShape, IsBoard}
use Rattle.rig.specs.declared.rig.Rig.{Ghosts}
use Rattle.presto_recover.specs.Opened.{IsOpened}
use Rattle.presto_recover.specs.Refused.{IsRefused}
use Rattle.presto_recover.specs.declared.fault.OpenFault.{OpenFault}
use Rattle.presto_recover.specs.declared.parts.Opened.{Opened}
use Rattle.presto_recover.proofs.Recovering.{accepted_opens}
use Rattle.presto_recover.proofs.Shown.{same_overlay, still_opens}
use Rattle.presto_unit.specs.Opening.{IsOpenable, opens_since}
use Rattle.presto_unit.specs.Parts.{rig_of}
use Rattle.presto_unit.specs.declared.presto.Presto.{Presto}
use Rattle.v7_damage.specs.declared.damage.RepairFault.{RepairFault}
use Rattle.v7_make.specs.Chains.{KeepsVolume}
use Rattle.v7_repair.specs.Runs.{HasRun}
use Rattle.v7_repair.specs.declared.mended.Mended.{Mended}
use Rattle.v7_map.specs.Frame.{Frame, frame}
use Rattle.v7_map.specs.View.{view}
use Rattle.v7_map.specs.Weak.{IsWeak}
use Rattle.run_lines.specs.Overlays.{overlay_of, overlays_of, unit_store}
use Rattle.run_lines.proofs.Overlays.{image_shown, opens_now}
use Rattle.volume_tool.specs.Kept.{Keeps, KeepsStore, SameFiles}

-- ---- of a store

module _ {V : Type 0} (s : StoreGhosts V) where
  pub looked_keeps : {old new : V} → Looked s old new → KeepsStore s Same old new
  looked_keeps looked = record { crash = looked.crash; opens = λ tells. looked.opens; later = looked.later; sectors = looked.sectors }

  module _ (clocked : IsClocked s.tells s.image s.moment s.left_since) (P : Image → Image → Type 0) (same : (i : Image) → P i i) (both : (i j k : Image) → P i j → P j k → P i k) where
    -- one run after another
    pub keeps_both : {old mid new : V} → KeepsStore s P old mid → KeepsStore s P mid new → KeepsStore s P old new
    keeps_both {old} {mid} {new} p q = record {
      crash = goes_on p.crash q.crash (λ i left after. both (s.image old) (s.image mid) i (ends clocked p.crash (clocked.told new (s.moment mid) i left)) after);
      opens = λ tells t le opens. q.opens tells t (let first = p.crash.later in omega (arith, le, first)) (p.opens tells t le opens);
      later = (let first = p.later in let then = q.later in omega (arith, first, then));
      sectors = q.sectors ∙ p.sectors;
    }

    -- a run that changes no sector
    pub image_keeps : {old new : V} → KeepsImage s old new → KeepsStore s P old new
    image_keeps {old} keeps = record {
      crash = weaker keeps.crash (λ i left is. subst (λ (j : Image). P (s.image old) j) (sym is) (same (s.image old)));
      opens = λ tells. keeps.opens;
      later = keeps.later;
      sectors = keeps.sectors;
    }

-- ---- of a rig

module _ {R : Type 0} (r : Ghosts R) (clocked : IsClocked r.tells r.contents r.moment r.left_since) (P : Image → Image → Type 0) (same : (i : Image) → P i i) where
  -- a rig whose unit wasn't opened
  pub keeps_refused : (accepted : Bool) {rig back : R} (why : OpenFault) → IsRefused r accepted rig back why → Keeps r P rig back
  keeps_refused accepted {rig} {back} why refused =
      let sizes = refused.only_formats.sizes in
      let kept : (image : Image) → image ≡ overlay_of r rig → P (overlay_of r rig) image = λ image is. subst (λ (i : Image). P (overlay_of r rig) i) (sym is) (same (overlay_of r rig)) in
      record {
        now = λ tells. kept (overlay_of r back) (same_overlay r clocked sizes refused.crash tells);
        crash = λ image left. kept image (left.2.2 ∙ (refused.crash.each left.0 left.1).image left.2.0 left.2.1);
        opens = λ opens. still_opens r clocked sizes refused.crash (r.moment rig) (omega arith) (opens_now r clocked rig opens);
      }

  module _ (shape : (rig : R) (t : ℕ) (d : Devices) → r.left_since rig t d → HasShape (r.sizes rig) d) (board : (rig : R) → IsBoard (r.sizes rig) (r.is_kept rig)) (accepted : Bool) {rig : R} (opened : Opened R r) (is : IsOpened r accepted rig opened)
      (unit' : Presto R r) (few : (r.sizes (rig_of unit')).sectors ≤ 2 ^ 32) (run : KeepsStore (unit_store r) P opened.presto unit') where
    abbrev first : R
    first = rig_of opened.presto

    abbrev back : R
    back = rig_of unit'

    as_found : r.tells → overlay_of r first ≡ overlay_of r rig
    as_found = same_overlay r clocked is.sizes is.crash

    opens_again : IsOpenable (r.sizes rig) (r.contents rig) → opens_since r.sizes r.left_since back (r.moment rig)
    opens_again opens d left =
        let tells = clocked.told back (r.moment rig) d left in
        run.opens tells (r.moment rig) is.crash.later (still_opens r clocked is.sizes is.crash (r.moment rig) (omega arith) (opens_now r clocked rig opens)) d left

    kept_at : r.tells → (image : Image) → overlays_of r back (r.moment rig) image → P (overlay_of r rig) image
    kept_at tells image left =
        let since = opens_again (accepted_opens (r.sizes rig) accepted (r.contents rig) opened.lost (is.accepted_as tells)) in
        ⊎_elim
        (λ was.
        let old : image ≡ overlay_of r rig = was.2.shows.2 ∙ (is.crash.each was.0 was.1).image was.2.shows.0 was.2.shows.1 in
        subst (λ (i : Image). P (overlay_of r rig) i) (sym old) (same (overlay_of r rig)))
        (λ now. subst (λ (i : Image). P i image) (as_found tells) (run.crash.each image now))
        (run.crash.before (r.moment rig) image is.crash.later (image_shown r clocked shape board back few (r.moment rig) since (r.moment rig) (omega arith) image left))

    -- a rig whose unit was opened, and gone on with
    pub keeps_opened : Keeps r P rig back
    keeps_opened = record {
      now = λ tells. kept_at tells (overlay_of r back) (
        r.contents back,
        clocked.now back (r.moment rig) tells (let begun = is.crash.later in let then = run.crash.later in omega (arith, begun, then)),
        (r.contents back, inl refl, refl),
      );
      crash = λ image left. kept_at (clocked.told back (r.moment rig) left.0 left.1) image left;
      opens = opens_again;
    }

-- ---- files that stay

pub files_same : (i : Image) → SameFiles i i
files_same i = record { view = refl; weak = λ weak. weak }

pub files_both : (i j k : Image) → SameFiles i j → SameFiles j k → SameFiles i k
files_both i j k p q = record { view = q.view ∙ p.view; weak = λ weak. q.weak (p.weak weak) }

-- where things are stays too
pub files_framed : (i j : Image) → frame j ≡ frame i → view j ≡ view i → SameFiles i j
files_framed i j framed viewed = record { view = viewed; weak = λ weak. subst (λ (f : Frame). IsWeak f) (sym framed) weak }

-- a free chain is written
pub chain_keeps : {V : Type 0} (s : StoreGhosts V) (blocks : List Bool) {old new : V} → LeavesOnly s.moment s.left_since old new (KeepsVolume blocks (s.image old)) → (s.tells → StaysOpenable s.opens_since s.moment old new) → s.faults old ≤ s.faults new
    → s.sector_count new ≡ s.sector_count old → KeepsStore s SameFiles old new
chain_keeps s blocks {old} crash opens later sectors = record { crash = weaker crash (λ i left keeps. files_framed (s.image old) i keeps.frame keeps.view); opens = opens; later = later; sectors = sectors }

-- a repair, whatever comes of it
pub repair_keeps : {V : Type 0} (s : StoreGhosts V) {old new : V} (result : Result Mended RepairFault) → HasRun s old new result → KeepsStore s SameFiles old new
repair_keeps s {old} result run = record {
  crash = weaker run.puts.crash (λ i left may. ⊎_elim
      (λ same. subst (λ (j : Image). SameFiles (s.image old) j) (sym same) (files_same (s.image old)))
      (λ keeps. record { view = keeps.files.view; weak = λ _. keeps.files.weak })
      may);
  opens = λ tells. run.puts.opens;
  later = run.puts.later;
  sectors = run.puts.sectors;
}
