-- What an opening says of the images of the unit, which a server above takes.
use Rattle.std.proofs.Common.{◌≡◌, inl, ⊎_elim, refl, sym, ◌∙◌, subst}
use Rattle.rig.specs.Devices.{Sizes}
use Rattle.rig.specs.declared.rig.Rig.{Ghosts}
use Rattle.nvram_map.specs.Overlay.{overlay}
use Rattle.stable.specs.Moments.{IsClocked, LeavesOnly}
use Rattle.stable.specs.Store.{Same, StaysOpenable}
use Rattle.stable.proofs.Clocked.{ends}
use Rattle.presto_unit.specs.Images.{overlays_since}
use Rattle.presto_unit.specs.Opening.{IsOpenable, opens_since}
use Rattle.presto_unit.proofs.Opening.{overlays_run, sound_open}
use Rattle.presto_recover.specs.Recovering.{Recovers}

module _ {R : Type 0} (r : Ghosts R) (clocked : IsClocked r.tells r.contents r.moment r.left_since) {found opened : R} (same : r.sizes opened ≡ r.sizes found)
    (run : LeavesOnly r.moment r.left_since found opened (Recovers (r.sizes found) (r.contents found))) where
  -- each sound crash shows the overlay that was found
  pub overlay_shown : LeavesOnly r.moment (overlays_since r.sizes r.left_since) found opened (Same (overlay (r.contents found)))
  overlay_shown = overlays_run r clocked same (Same (overlay (r.contents found))) run (λ d i cut by. by.2 ∙ cut.image by.0 by.1)

  -- what could be opened since a moment still can
  pub still_opens : StaysOpenable (opens_since r.sizes r.left_since) r.moment found opened
  still_opens t le opens d left after crash =
      subst (λ (z : Sizes). IsOpenable z after) (sym same) (⊎_elim
      (λ was. opens d was after crash)
      (λ now. let tells = clocked.told _ _ d now in
      sound_open (r.sizes found) d after crash ((run.each d now).opens (opens (r.contents found) (clocked.now found t tells le) (r.contents found) (inl refl))))
      (run.before t d le left))

  -- and the unit stands for it
  pub same_overlay : r.tells → overlay (r.contents opened) ≡ overlay (r.contents found)
  same_overlay tells = (ends clocked run tells).image (r.contents opened) (inl refl)
