-- A repair and the stop after it.
use Rattle.std.proofs.Common.{arith, ◌≡◌, ◌≤◌, ℕ, Err, refl, subst}
use Rattle.stable.specs.Counts.{Rose}
use Rattle.stable.specs.Store.{Image}
use Rattle.stable.specs.declared.store.Stable.{Ghosts as StoreGhosts}
use Rattle.v7_damage.specs.Undamaged.{IsFaultOf}
use Rattle.v7_damage.specs.declared.damage.RepairFault.{RepairFault}
use Rattle.v7_damage.specs.declared.damage.RepairFault.TheVariants as fault
use Rattle.v7_layout.specs.Numbers.{field}
use Rattle.v7_map.specs.Frame.{frame}
use Rattle.v7_map.specs.Image.{isize_of}
use Rattle.v7_make.specs.Chains.{AreIdle}
use Rattle.v7_repair.specs.Leaves.{IsRepaired, Leaves}
use Rattle.v7_repair.specs.Runs.{HasRun}
use Rattle.v7_repair.specs.declared.mended.Mended.{Mended}
use Rattle.volume_tool.specs.Course.{Course, Usage, Unfit, NoRig, NotMade, Made, NoUnit, NoVolume, Checked, NotStopped, Recovered}
use Rattle.volume_tool.specs.Recovered.{RecoversStore, StopsStore}

-- where the data blocks begin
data_begin : (image : Image) → (frame image).isize ≡ isize_of image
unfolding frame field
data_begin image = refl

-- the blocks that are free after a repair stand at no place
pub idle : {old new : Image} {mended : Mended} → IsRepaired old new mended → AreIdle new mended.sets.blocks
idle {old} {new} is = record { weak = is.repairs.strong.weak; past = λ b free. let low = (is.sets.free b free).low in subst (λ (n : ℕ). n ≤ b) (data_begin new) low; unheld = λ b free. (is.sets.free b free).nowhere }

module _ {V : Type 0} (s : StoreGhosts V) where
  -- why a volume wasn't repaired
  pub fault_of : {old new : V} (why : RepairFault) → (s.tells → Leaves (s.image old) (s.image new) (Err why)) → HasRun s old new (Err why) → (s.tells → IsFaultOf (s.image old) why) × (why ≡ fault.Failed → Rose (s.faults old) (s.faults new))
  fault_of (fault.Damaged sector which) leaves run = (λ tells. (leaves tells).0, λ is. absurd (cc is))
  fault_of fault.Failed leaves run = (λ tells. tt, λ is. run.says)
  fault_of fault.NoMemory leaves run = (λ tells. tt, λ is. absurd (cc is))

  -- a volume that was repaired and then stopped, or not
  pub stopped_as : {old mid : V} (new : V) (mended : Mended) (entries second : ℕ) (course : Course) → (s.tells → IsRepaired (s.image old) (s.image mid) mended) → s.faults old ≤ s.faults mid → StopsStore s mended entries second mid new course → RecoversStore s entries old new course
  stopped_as new mended entries second NotStopped repaired later found = omega (arith, later, found)
  stopped_as {old} {mid} new mended entries second (Recovered recovered changed) repaired later found =
      (found.0, λ tells. record { mid = s.image mid; mended = mended; is_repaired = repaired tells; count = found.1; second = second; chained = found.2 tells }, found.3)
  stopped_as new mended entries second Usage repaired later found = absurd found
  stopped_as new mended entries second (Unfit fault) repaired later found = absurd found
  stopped_as new mended entries second (NoRig word fault) repaired later found = absurd found
  stopped_as new mended entries second (NotMade fault) repaired later found = absurd found
  stopped_as new mended entries second (Made sectors inodes free) repaired later found = absurd found
  stopped_as new mended entries second (NoUnit fault) repaired later found = absurd found
  stopped_as new mended entries second (NoVolume fault) repaired later found = absurd found
  stopped_as new mended entries second (Checked seen) repaired later found = absurd found
