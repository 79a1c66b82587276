-- What a run says of the rig of a volume, of what disk and board stand for together (docs/DEVICES.md, "The unit").
use Rattle.std.specs.Prelude.{◌≡◌, ◌≢◌, ◌≤◌, ◌+◌, ℕ, Bool, true, false, List, [], ◌∷◌, length}
use Rattle.files_model.specs.History.{failures}
use Rattle.stable.specs.Counts.{Rose, RoseBy}
use Rattle.stable.specs.Store.{Image}
use Rattle.stable.specs.declared.state.State.TheVariants.{Down}
use Rattle.rig.specs.declared.rig.Rig.{Ghosts}
use Rattle.nvram_map.specs.Overlay.{NoEntry}
use Rattle.presto_recover.specs.Boards.{IsAccepted, IsLoss, found_in}
use Rattle.presto_recover.specs.Refused.{IsReason}
use Rattle.presto_recover.specs.declared.fault.OpenFault.{OpenFault as UnitFault}
use Rattle.presto_unit.specs.Opening.{IsOpenable, opens_since}
use Rattle.v7_map.specs.Frame.{frame}
use Rattle.v7_map.specs.View.{view}
use Rattle.v7_map.specs.Weak.{IsWeak}
use Rattle.v7_damage.specs.Undamaged.{IsFaultOf}
use Rattle.v7_damage.specs.declared.damage.RepairFault.{RepairFault}
use Rattle.v7_damage.specs.declared.damage.RepairFault.TheVariants as repair
use Rattle.volume.specs.Keeps.{SameName}
use Rattle.volume.specs.Opens.{name_in}
use Rattle.run_lines.specs.Overlays.{overlay_of, overlays_of}
use Rattle.nfs_worker.specs.Account.{Hold, history, HasGrown, IsRecovered, MarksWithin, Lasts}
use Rattle.nfs_worker.specs.Tending.{IsError}
use Rattle.server_volumes.specs.Starts.{Start, state_after}
use Rattle.server_volumes.specs.Stopped.{IsStoppedCleanly}
use Rattle.server_volumes.specs.declared.opening.OpenOptions.{OpenOptions}
use Rattle.server_volumes.specs.declared.stopping.Stopped.{Stopped}

-- A rig was given back after these holds, where the volume found on it could be mended. What is said of it is what disk and board stand for together.
pub record Kept {R : Type 0} (r : Ghosts R) (rig back : R) (holds : List Hold) : Type 0 where
  -- the history is legal, and the rig has the view after it
  pub grown : r.tells → IsWeak (frame (overlay_of r rig)) → HasGrown (view (overlay_of r rig)) (overlay_of r back) (history holds)
  -- no more events failed than the count of faults rose by
  pub io : RoseBy (failures (history holds)) (r.faults rig) (r.faults back)
  pub marked : MarksWithin (r.moment rig) (r.moment back) holds
  -- a sound crash at any moment leaves the files after the first of these holds, the next one torn or not
  pub crash : (image : Image) → overlays_of r back (r.moment rig) image → IsWeak (frame (overlay_of r rig)) → IsRecovered (view (overlay_of r rig)) holds image
  -- and one since a hold's mark has that hold
  pub lasts : r.tells → IsWeak (frame (overlay_of r rig)) → Lasts (overlays_of r back) (view (overlay_of r rig)) holds
  -- the volume's name stays
  pub named : r.tells → SameName (overlay_of r rig) (overlay_of r back)
  -- what could be opened can be opened again after a sound crash at any moment
  pub opens : IsOpenable (r.sizes rig) (r.contents rig) → opens_since r.sizes r.left_since back (r.moment rig)

-- A volume was opened on a rig, started and stopped.
pub record IsFound {R : Type 0} (r : Ghosts R) (options : OpenOptions) (rig back : R) (start : Start) (stopped : Stopped) : Type 0 where
  pub accepted : r.tells → IsAccepted (r.sizes rig) options.accept_loss (r.contents rig) start.lost
  pub loss : IsLoss start.lost (r.is_kept rig) options.accept_loss
  -- there is a volume of that name that can be mended
  pub weak : r.tells → IsWeak (frame (overlay_of r rig))
  pub named : r.tells → start.name ≡ name_in (overlay_of r rig)
  -- each entry of the board was recovered, or was left; where none was left the state was DOWN, and else an error
  pub left : ℕ
  pub counted : r.tells → start.recovered + left ≡ length (found_in (r.contents rig))
  pub opened_down : left ≡ 0 → start.opened ≡ Down
  pub opened_error : 1 ≤ left → IsError start.opened
  -- and then Up leads to UP by a good battery, unless the volume is to stay DOWN
  pub started : start.state ≡ state_after options.down start.opened start.battery
  -- after Down nothing is dirty and no word of an entry is set, or a device failed
  pub down : stopped.dirty ≡ 0 → stopped.state ≡ Down
  pub bare : r.tells → stopped.state ≡ Down → NoEntry (r.contents back)
  pub dirty : 1 ≤ stopped.dirty → IsError stopped.state × Rose (r.faults rig) (r.faults back)
  -- the volume is as a clean stop leaves it, unless it was hurt or its chain isn't written, for which a device failed
  pub hurt : Bool
  pub was_hurt : hurt ≡ true → Rose (r.faults rig) (r.faults back)
  pub unwritten : stopped.unwritten ≡ true → Rose (r.faults rig) (r.faults back)
  pub clean : r.tells → hurt ≡ false → stopped.unwritten ≡ false → IsStoppedCleanly (overlay_of r back)

-- Disk and board of a rig weren't opened: they stand for what they did.
pub record IsNotOpened {R : Type 0} (r : Ghosts R) (options : OpenOptions) (rig back : R) (fault : UnitFault) : Type 0 where
  pub reason : IsReason r options.accept_loss rig back fault
  pub same : r.tells → overlay_of r back ≡ overlay_of r rig

-- There is no volume that can be served on a rig whose board was accepted.
pub record HasNone {R : Type 0} (r : Ghosts R) (options : OpenOptions) (rig back : R) (fault : RepairFault) : Type 0 where
  pub lost : Bool
  pub accepted : r.tells → IsAccepted (r.sizes rig) options.accept_loss (r.contents rig) lost
  -- the damage is that of the first test that fails
  pub damage : r.tells → IsFaultOf (overlay_of r rig) fault
  -- nothing has changed, or a device failed
  pub same : r.tells → fault ≢ repair.Failed → overlay_of r back ≡ overlay_of r rig
  pub failed : fault ≡ repair.Failed → Rose (r.faults rig) (r.faults back)
