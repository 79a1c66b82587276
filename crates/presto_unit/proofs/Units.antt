-- What a run on its rig says of a unit as a store.
use Rattle.std.proofs.Common.{◌≡◌, ◌≤◌, true, inl, refl, ap, arith}
use Rattle.stable.specs.Moments.{IsClocked, LeavesOnly}
use Rattle.stable.specs.Store.{Same, StaysOpenable}
use Rattle.stable.proofs.Clocked.{started, ends}
use Rattle.rig.specs.Devices.{Unchanged}
use Rattle.rig.specs.Looked.{Stays}
use Rattle.rig.specs.declared.rig.Rig.{Ghosts}
use Rattle.nvram_map.specs.Overlay.{overlay}
use Rattle.presto_unit.specs.Disk.{FlushesAll}
use Rattle.presto_unit.specs.Images.{overlays_since}
use Rattle.presto_unit.specs.Opening.{opens_since}
use Rattle.presto_unit.specs.Shown.{BatteryAsked}
use Rattle.presto_unit.proofs.Opening.{kept_shown, same_shown, opens_kept, opens_looked}

-- What tending keeps of a unit, told of its rig.
pub record KeepsOverlay {R : Type 0} (r : Ghosts R) (old new : R) : Type 0 where
  pub image : r.tells → overlay (r.contents new) ≡ overlay (r.contents old)
  pub crash : LeavesOnly r.moment (overlays_since r.sizes r.left_since) old new (Same (overlay (r.contents old)))
  pub opens : StaysOpenable (opens_since r.sizes r.left_since) r.moment old new
  pub later : r.faults old ≤ r.faults new

module _ {R : Type 0} (r : Ghosts R) (clocked : IsClocked r.tells r.contents r.moment r.left_since) where
  pub nothing_run : (rig : R) → KeepsOverlay r rig rig
  nothing_run rig = record {
    image = λ tells. refl;
    crash = same_shown r clocked refl (started clocked rig (Unchanged (r.contents rig)) (λ tells. refl));
    opens = λ t le opens. opens;
    later = omega arith;
  }

  pub asked_run : {old new : R} → BatteryAsked r old new → KeepsOverlay r old new
  asked_run asked = record {
    image = λ tells. ap overlay asked.contents;
    crash = same_shown r clocked asked.sizes asked.crash;
    opens = opens_looked r clocked asked.sizes asked.crash;
    later = omega (arith, asked.faults);
  }

  pub flushes_run : {old new : R} → (r.tells → (r.contents old).kept ≡ true) → Stays r old new → FlushesAll r old new → KeepsOverlay r old new
  flushes_run {old} {new} kept stays run = record {
    image = λ tells. (ends clocked run tells).image (r.contents new) (inl refl);
    crash = kept_shown r clocked stays.sizes run;
    opens = opens_kept r clocked stays.sizes kept run;
    later = stays.later;
  }
