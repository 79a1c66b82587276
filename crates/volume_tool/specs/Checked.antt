-- What is found on a rig whose volume is inspected. `r` is what the rig's type tells, as `R.Rig` in a clause.
use Rattle.std.specs.Prelude.{◌≡◌, Bool, false}
use Rattle.stable.specs.Counts.{Rose}
use Rattle.stable.specs.declared.store.Stable.{Ghosts as StoreGhosts}
use Rattle.rig.specs.declared.rig.Rig.{Ghosts}
use Rattle.presto_recover.specs.Boards.{IsAccepted, IsLoss}
use Rattle.presto_recover.specs.Refused.{IsReason}
use Rattle.v7_damage.specs.Undamaged.{IsFaultOf}
use Rattle.v7_damage.specs.declared.damage.RepairFault.{RepairFault}
use Rattle.v7_damage.specs.declared.damage.RepairFault.TheVariants as volume
use Rattle.v7_inspect.specs.SeenNumbers.{IsSeen}
use Rattle.run_lines.specs.Overlays.{overlay_of}
use Rattle.volume_tool.specs.Course.{Course, NoUnit, NoVolume, Checked}

-- There is no board, or it is the volume's, or it was lost and the loss is accepted.
pub record Accepts {R : Type 0} (r : Ghosts R) (accepted : Bool) (rig : R) : Type 0 where
  pub lost : Bool
  pub accepted_as : r.tells → IsAccepted (r.sizes rig) accepted (r.contents rig) lost
  pub loss : IsLoss lost (r.is_kept rig) accepted

-- The board was accepted, and the volume can't be inspected or mended.
pub record HasFault {R : Type 0} (r : Ghosts R) (accepted : Bool) (rig back : R) (fault : RepairFault) : Type 0 where
  pub accepts : Accepts r accepted rig
  pub damage : r.tells → IsFaultOf (overlay_of r rig) fault
  pub failed : fault ≡ volume.Failed → Rose (r.faults rig) (r.faults back)

-- what the course says of a rig whose volume was to be inspected
abbrev pub ChecksAs : {R : Type 0} → Ghosts R → R → R → Course → Type 0
ChecksAs r rig back (NoUnit fault) = IsReason r false rig back fault
ChecksAs r rig back (NoVolume fault) = HasFault r false rig back fault
ChecksAs r rig back (Checked seen) = Accepts r false rig × (r.tells → IsSeen (overlay_of r rig) seen)
ChecksAs r rig back _ = ⊥

-- and of a store
abbrev pub ChecksStore : {V : Type 0} → StoreGhosts V → V → V → Course → Type 0
ChecksStore s store store' (NoVolume fault) = (s.tells → IsFaultOf (s.image store) fault) × (fault ≡ volume.Failed → Rose (s.faults store) (s.faults store'))
ChecksStore s store store' (Checked seen) = s.tells → IsSeen (s.image store) seen
ChecksStore s store store' _ = ⊥
