-- What is found on a rig whose volume is recovered. `r` is what the rig's type tells, as `R.Rig` in a clause.
use Rattle.std.specs.Prelude.{◌≡◌, ◌+◌, ℕ, Bool, length}
use Rattle.stable.specs.Counts.{Rose}
use Rattle.stable.specs.Store.{Image}
use Rattle.stable.specs.declared.state.State.TheVariants.{Down}
use Rattle.stable.specs.declared.store.Stable.{Ghosts as StoreGhosts}
use Rattle.rig.specs.declared.rig.Rig.{Ghosts}
use Rattle.nvram_map.specs.Overlay.{NoEntry}
use Rattle.presto_recover.specs.Boards.{found_in}
use Rattle.presto_recover.specs.Refused.{IsReason}
use Rattle.v7_damage.specs.Undamaged.{IsFaultOf}
use Rattle.v7_damage.specs.declared.damage.RepairFault.TheVariants as volume
use Rattle.v7_make.specs.Chains.{IsChained}
use Rattle.v7_repair.specs.Leaves.{IsRepaired}
use Rattle.v7_repair.specs.declared.mended.Mended.{Mended}
use Rattle.run_lines.specs.Overlays.{overlay_of}
use Rattle.volume_tool.specs.Checked.{Accepts, HasFault}
use Rattle.volume_tool.specs.Course.{Course, NoUnit, NoVolume, NotStopped, Recovered}

-- A volume was repaired, by so many puts, and then stopped cleanly: its free chain has exactly the blocks that are free of the repaired image, and its view is that of both.
pub record IsStoppedClean (old new : Image) (repaired : ℕ) : Type 0 where
  pub mid : Image
  pub mended : Mended
  pub is_repaired : IsRepaired old mid mended
  pub count : repaired ≡ mended.repaired.changed
  pub second : ℕ
  pub chained : IsChained mid new mended.sets.blocks mended.sets.inodes second

-- The board's entries were recovered, so many of them by the opening; then the volume was repaired and stopped, and no word of an entry is set.
pub record IsRecovered {R : Type 0} (r : Ghosts R) (accepted : Bool) (rig back : R) (recovered repaired : ℕ) : Type 0 where
  pub accepts : Accepts r accepted rig
  pub left : ℕ
  pub counted : r.tells → recovered + left ≡ length (found_in (r.contents rig))
  pub volume : r.tells → IsStoppedClean (overlay_of r rig) (overlay_of r back) repaired
  pub bare : r.tells → NoEntry (r.contents back)

-- what the course says of a rig whose volume was to be recovered
abbrev pub RecoversAs : {R : Type 0} → Ghosts R → Bool → R → R → Course → Type 0
RecoversAs r accepted rig back (NoUnit fault) = IsReason r accepted rig back fault
RecoversAs r accepted rig back (NoVolume fault) = HasFault r accepted rig back fault
RecoversAs r accepted rig back NotStopped = Accepts r accepted rig × Rose (r.faults rig) (r.faults back)
RecoversAs r accepted rig back (Recovered recovered repaired) = IsRecovered r accepted rig back recovered repaired
RecoversAs r accepted rig back _ = ⊥

-- and of a store, of whose board so many entries were recovered
abbrev pub RecoversStore : {V : Type 0} → StoreGhosts V → ℕ → V → V → Course → Type 0
RecoversStore s entries store store' (NoVolume fault) = (s.tells → IsFaultOf (s.image store) fault) × (fault ≡ volume.Failed → Rose (s.faults store) (s.faults store'))
RecoversStore s entries store store' NotStopped = Rose (s.faults store) (s.faults store')
RecoversStore s entries store store' (Recovered recovered repaired) =
    (recovered ≡ entries) × (s.tells → IsStoppedClean (s.image store) (s.image store') repaired) × ((s.snapshot_of store').state ≡ Down)
RecoversStore s entries store store' _ = ⊥

-- and of one that was repaired and is to be stopped at that second
abbrev pub StopsStore : {V : Type 0} → StoreGhosts V → Mended → ℕ → ℕ → V → V → Course → Type 0
StopsStore s mended entries second store store' NotStopped = Rose (s.faults store) (s.faults store')
StopsStore s mended entries second store store' (Recovered recovered repaired) =
    (recovered ≡ entries) × (repaired ≡ mended.repaired.changed) × (s.tells → IsChained (s.image store) (s.image store') mended.sets.blocks mended.sets.inodes second) × ((s.snapshot_of store').state ≡ Down)
StopsStore s mended entries second store store' _ = ⊥
