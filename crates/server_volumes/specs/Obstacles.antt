-- Why a volume isn't opened, with the status and the line of each cause (docs/CALLS.md, "Lines and statuses").
use Rattle.std.specs.Prelude.{◌≡◌, ℕ, List, [], ◌∷◌}
use Rattle.rig.specs.declared.host.HostFault.{HostFault}
use Rattle.rig.specs.declared.rig.Rig.{Ghosts}
use Rattle.presto_recover.specs.declared.fault.OpenFault.{OpenFault as UnitFault}
use Rattle.v7_damage.specs.declared.damage.RepairFault.{RepairFault}
use Rattle.run_lines.specs.Lines.{no_volume_line}
use Rattle.run_lines.specs.Refusals.{host_status, host_line, unit_status, unit_line, volume_status, volume_line}
use Rattle.nfs_worker.specs.Account.{Hold}
use Rattle.server_volumes.specs.Kept.{Kept, IsNotOpened, HasNone}
use Rattle.server_volumes.specs.declared.opening.OpenOptions.{OpenOptions}

-- Why a volume isn't opened: the host gave no rig for this word; disk and board weren't opened; there is no volume that can be mended.
pub data Obstacle : Type 0 where
  NoRig : List ℕ → HostFault → Obstacle
  NoUnit : UnitFault → Obstacle
  NoVolume : RepairFault → Obstacle

abbrev pub obstacle_status : Obstacle → ℕ
obstacle_status (NoRig word fault) = host_status fault
obstacle_status (NoUnit fault) = unit_status fault
obstacle_status (NoVolume fault) = volume_status fault

-- of the volume of this number
abbrev pub obstacle_line : ℕ → Obstacle → List ℕ
obstacle_line n (NoRig word fault) = host_line (no_volume_line word) fault
obstacle_line n (NoUnit fault) = unit_line n fault
obstacle_line n (NoVolume fault) = volume_line n fault

-- the word of the volume that the host gave no rig for
abbrev pub IsOfWord : List ℕ → Obstacle → Type 0
IsOfWord named (NoRig word fault) = word ≡ named
IsOfWord named (NoUnit fault) = Unit {0}
IsOfWord named (NoVolume fault) = Unit {0}

-- what is so of the rig that the host gave, if it gave one, and of the one that comes back for it
abbrev pub Hinders : {R : Type 0} → Ghosts R → OpenOptions → Obstacle → List R → List R → Type 0
Hinders r options (NoRig word fault) [] [] = Unit {0}
Hinders r options (NoUnit fault) (rig ∷ []) (back ∷ []) = IsNotOpened r options rig back fault × Kept r rig back []
Hinders r options (NoVolume fault) (rig ∷ []) (back ∷ []) = HasNone r options rig back fault × Kept r rig back []
Hinders r options _ _ _ = ⊥
