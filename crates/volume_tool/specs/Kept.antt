-- What is kept of a volume, by what disk and board of its rig stand for together (docs/DEVICES.md, "The unit"). `r` is what the rig's type tells, as `R.Rig` in a clause.
use Rattle.std.specs.Prelude.{◌≡◌, ◌≤◌}
use Rattle.stable.specs.Moments.{LeavesOnly}
use Rattle.stable.specs.Store.{Image, StaysOpenable}
use Rattle.stable.specs.declared.store.Stable.{Ghosts as StoreGhosts}
use Rattle.rig.specs.declared.rig.Rig.{Ghosts}
use Rattle.presto_unit.specs.Opening.{IsOpenable, opens_since}
use Rattle.v7_map.specs.Frame.{frame}
use Rattle.v7_map.specs.View.{view}
use Rattle.v7_map.specs.Weak.{IsWeak}
use Rattle.run_lines.specs.Overlays.{overlay_of, overlays_of}

-- the files are the same, and a volume that can be mended still can
pub record SameFiles (old new : Image) : Type 0 where
  pub view : view new ≡ view old
  pub weak : IsWeak (frame old) → IsWeak (frame new)

-- This holds of what was found on a rig and of what came back, and so it does of what a sound crash at any moment leaves; what could be opened can be opened again.
pub record Keeps {R : Type 0} (r : Ghosts R) (P : Image → Image → Type 0) (rig back : R) : Type 0 where
  pub now : r.tells → P (overlay_of r rig) (overlay_of r back)
  pub crash : (image : Image) → overlays_of r back (r.moment rig) image → P (overlay_of r rig) image
  pub opens : IsOpenable (r.sizes rig) (r.contents rig) → opens_since r.sizes r.left_since back (r.moment rig)

-- The same of a store: at each moment this holds of the image before and what a crash leaves.
pub record KeepsStore {V : Type 0} (s : StoreGhosts V) (P : Image → Image → Type 0) (old new : V) : Type 0 where
  pub crash : LeavesOnly s.moment s.left_since old new (P (s.image old))
  pub opens : s.tells → StaysOpenable s.opens_since s.moment old new
  pub later : s.faults old ≤ s.faults new
  pub sectors : s.sector_count new ≡ s.sector_count old
