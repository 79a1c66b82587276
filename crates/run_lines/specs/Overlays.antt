-- What disk and board of a rig stand for together (docs/DEVICES.md, "The unit"). `r` is what the rig's type tells, as `R.Rig` in a clause.
use Rattle.std.specs.Prelude.{ℕ}
use Rattle.stable.specs.Store.{Image}
use Rattle.stable.specs.declared.store.Stable.{Ghosts as StoreGhosts}
use Rattle.rig.specs.Devices.{Devices}
use Rattle.rig.specs.declared.rig.Rig.{Ghosts}
use Rattle.nvram_map.specs.Overlay.{overlay, ShowsOverlay}
use Rattle.presto_unit.specs.Images.{overlays_since}
use Rattle.presto_unit.specs.Opening.{opens_since}
use Rattle.presto_unit.specs.Parts.{rig_of, cache_of, state_of, tally_of}
use Rattle.presto_unit.specs.Shown.{shown}
use Rattle.presto_unit.specs.declared.presto.Presto.{Presto}

-- what disk and board of a rig stand for
abbrev pub overlay_of : {R : Type 0} → Ghosts R → R → Image
overlay_of r rig = overlay (r.contents rig)

-- what the disk and board stand for that a sound crash since that moment leaves
abbrev pub overlays_of : {R : Type 0} → Ghosts R → R → ℕ → Image → Type 0
overlays_of r rig t image = (d : Devices) × r.left_since rig t d × ShowsOverlay d image

-- a unit as a store
abbrev pub unit_store : {R : Type 0} (r : Ghosts R) → StoreGhosts (Presto R r)
unit_store r = record {
  tells = r.tells;
  image = λ u. overlay (r.contents (rig_of u));
  moment = λ u. r.moment (rig_of u);
  left_since = λ u. overlays_since r.sizes r.left_since (rig_of u);
  opens_since = λ u. opens_since r.sizes r.left_since (rig_of u);
  sector_count = λ u. (r.sizes (rig_of u)).sectors;
  faults = λ u. r.faults (rig_of u);
  snapshot_of = λ u. shown (state_of u) (cache_of u) (tally_of u);
}
