-- What a repair leaves.
use Rattle.std.specs.Prelude.{◌≡◌, ◌≢◌, ◌⊎◌, ℕ, Result, Ok, Err}
use Rattle.stable.specs.Store.{Image}
use Rattle.v7_map.specs.Image.{sector_at}
use Rattle.v7_map.specs.Frame.{frame}
use Rattle.v7_map.specs.Weak.{IsWeak}
use Rattle.v7_damage.specs.Undamaged.{IsFaultOf}
use Rattle.v7_damage.specs.declared.damage.RepairFault.{RepairFault}
use Rattle.v7_damage.specs.declared.damage.RepairFault.TheVariants.{Damaged, Failed, NoMemory}
use Rattle.v7_inspect.specs.SeenNumbers.{IsSeen}
use Rattle.v7_mend.specs.Changes.{Differ, MayChange}
use Rattle.v7_mend.specs.Keeps.{KeepsVolume}
use Rattle.v7_mend.specs.Repairs.{Repairs}
use Rattle.v7_sets.specs.Sets.{AreSetsOf}
use Rattle.v7_repair.specs.declared.mended.Mended.{Mended}

-- a moment of a repair: nothing has changed yet, or the volume can be mended and has the same files and the same super-block
abbrev pub MayMend : Image → Image → Type 0
MayMend old image = (image ≡ old) ⊎ KeepsVolume old image

-- A whole repair. A sector that it changes is one that each repair changes.
pub record IsRepaired (old new : Image) (mended : Mended) : Type 0 where
  pub weak : IsWeak (frame old)
  pub repairs : Repairs old new
  pub super : sector_at new 1 ≡ sector_at old 1
  pub changed : Differ (MayChange old) old new mended.repaired.changed
  pub needed : (other : Image) → Repairs old other → (s : ℕ) → sector_at new s ≢ sector_at old s → sector_at other s ≢ sector_at old s
  pub seen : IsSeen new mended.repaired.seen
  pub sets : AreSetsOf new mended.sets.blocks mended.sets.inodes

-- what each fault leaves; damage is that of the first test that fails
abbrev pub LeavesFault : Image → Image → RepairFault → Type 0
LeavesFault old new (Damaged sector which) = IsFaultOf old (Damaged sector which) × (new ≡ old)
LeavesFault old new Failed = MayMend old new
LeavesFault old new NoMemory = new ≡ old

-- what each answer leaves
abbrev pub Leaves : Image → Image → Result Mended RepairFault → Type 0
Leaves old new (Ok mended) = IsRepaired old new mended
Leaves old new (Err fault) = LeavesFault old new fault
