-- What a sound crash of the rig of a unit shows.
use Rattle.std.proofs.Common.{inl, ℕ, ◌^◌, ◌≤◌, refl, sym, subst}
use Rattle.stable.specs.Moments.{IsClocked}
use Rattle.stable.specs.Store.{Image}
use Rattle.rig.specs.Devices.{Devices, HasShape, IsBoard}
use Rattle.rig.specs.declared.rig.Rig.{Ghosts}
use Rattle.presto_unit.specs.Images.{overlays_since}
use Rattle.presto_unit.specs.Opening.{IsOpenable, opens_since}
use Rattle.presto_unit.proofs.Opening.{sound_open}
use Rattle.presto_unit.proofs.Whole.{all_shown}
use Rattle.run_lines.specs.Overlays.{overlays_of}

module _ {R : Type 0} (r : Ghosts R) (clocked : IsClocked r.tells r.contents r.moment r.left_since) where
  -- what can be opened can be opened since now
  pub opens_now : (rig : R) → IsOpenable (r.sizes rig) (r.contents rig) → opens_since r.sizes r.left_since rig (r.moment rig)
  opens_now rig opens d left after crash = sound_open (r.sizes rig) d after crash (subst (λ (e : Devices). IsOpenable (r.sizes rig) e) (sym (clocked.only rig d left)) opens)

  -- a sound crash of a rig that can be opened since a moment shows an image of its unit
  pub image_shown : (shape : (rig : R) (t : ℕ) (d : Devices) → r.left_since rig t d → HasShape (r.sizes rig) d) (board : (rig : R) → IsBoard (r.sizes rig) (r.is_kept rig)) (rig : R) → (r.sizes rig).sectors ≤ 2 ^ 32
      → (from : ℕ) → opens_since r.sizes r.left_since rig from → (t : ℕ) → from ≤ t → (image : Image) → overlays_of r rig t image → overlays_since r.sizes r.left_since rig t image
  image_shown shape board rig few from opens t le image left =
      let here = opens left.0 (clocked.wider rig from t left.0 le left.1) left.0 (inl refl) in
      subst (λ (i : Image). overlays_since r.sizes r.left_since rig t i) (sym left.2.2)
      (all_shown r.sizes r.is_kept r.left_since rig t left.0 left.2.0 few (board rig) (shape rig t left.0 left.1) here left.1 left.2.1)
