-- The puts of a repair. `s` is what the store's type tells.
use Rattle.std.specs.Prelude.{◌≡◌, ◌≤◌, ℕ, Result, Ok, Err}
use Rattle.stable.specs.Counts.{Rose}
use Rattle.stable.specs.Looked.{Looked}
use Rattle.stable.specs.declared.store.Stable.{Ghosts}
use Rattle.v7_damage.specs.declared.damage.RepairFault.{RepairFault}
use Rattle.v7_damage.specs.declared.damage.RepairFault.TheVariants.{Damaged, Failed, NoMemory}
use Rattle.v7_mend.specs.Runs.{HasPut}
use Rattle.v7_repair.specs.Leaves.{MayMend}
use Rattle.v7_repair.specs.declared.mended.Mended.{Mended}

-- how many puts it takes at most: nine for each sector of the longest list of inodes
abbrev pub repair_puts : ℕ
repair_puts = 73719

-- what each answer says of a run of so many puts
abbrev pub Says : {S : Type 0} → Ghosts S → ℕ → S → S → Result Mended RepairFault → Type 0
Says s count old new (Ok mended) = mended.repaired.changed ≡ count
Says s count old new (Err (Damaged sector which)) = Looked s old new
Says s count old new (Err Failed) = Rose (s.faults old) (s.faults new)
Says s count old new (Err NoMemory) = Looked s old new

-- At most so many puts were made, and at each moment the image is one of a repair. After Ok it tells how many; damage and want of memory come before the first; a failure has a cause.
pub record HasRun {S : Type 0} (s : Ghosts S) (old new : S) (result : Result Mended RepairFault) : Type 0 where
  pub count : ℕ
  pub few : count ≤ repair_puts
  pub puts : HasPut s (MayMend (s.image old)) count old new
  pub says : Says s count old new result
