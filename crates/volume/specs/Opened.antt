-- What became of an opening.
use Rattle.std.specs.Prelude.{◌≡◌, ◌≤◌, ℕ, Result, Ok, Err, IfErr}
use Rattle.stable.specs.Counts.{Rose}
use Rattle.stable.specs.Store.{Image}
use Rattle.v7_damage.specs.declared.damage.RepairFault.{RepairFault}
use Rattle.v7_damage.specs.declared.damage.RepairFault.TheVariants as fault
use Rattle.v7_repair.specs.declared.mended.Repaired.{Repaired}
use Rattle.volume.specs.declared.mounted.Volume.{Volume}
use Rattle.volume.specs.Mounted.{store_of, name_of, root_of}
use Rattle.volume.specs.Opens.{IsOpened, Refuses}

-- the store after it, done or refused
abbrev pub left_by : {S : Type 0} → Result (Volume S × Repaired) (RepairFault × S) → S
left_by (Ok opened) = store_of opened.0
left_by (Err refused) = refused.1

-- what it did to the image
abbrev pub Opens : {S : Type 0} → Image → Image → ℕ → Result (Volume S × Repaired) (RepairFault × S) → Type 0
Opens old new now (Ok opened) = IsOpened old new now (record { repaired = opened.1; sets = opened.0.sets }) (name_of opened.0) (root_of opened.0)
Opens old new now (Err refused) = Refuses old refused.0 new

-- the count of faults doesn't fall, and a refusal for a failed device has a cause
pub record IsCaused {T S : Type 0} (before now : ℕ) (result : Result T (RepairFault × S)) : Type 0 where
  pub later : before ≤ now
  pub failed : IfErr result (λ refused. refused.0 ≡ fault.Failed → Rose before now)
