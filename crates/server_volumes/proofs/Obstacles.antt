-- Why a volume isn't opened on a rig.
use Rattle.std.proofs.Common.{arith, ◌≢◌, ℕ, List, [], ◌∷◌}
use Rattle.rig.specs.declared.rig.Rig.{Ghosts}
use Rattle.run_lines.proofs.Statuses.{unit_not, volume_not}
use Rattle.server_volumes.specs.Obstacles.{Obstacle, NoRig, NoUnit, NoVolume, Hinders, IsOfWord, obstacle_status}
use Rattle.server_volumes.specs.declared.opening.OpenOptions.{OpenOptions}

-- the host gave its rig, so no failure of it is the cause
pub hindered_not : {R : Type 0} (r : Ghosts R) (options : OpenOptions) (obstacle : Obstacle) (rig back : R) → Hinders r options obstacle (rig ∷ []) (back ∷ []) → ((word : List ℕ) → IsOfWord word obstacle) × (obstacle_status obstacle ≢ 66)
hindered_not r options (NoRig word fault) rig back is = absurd is
hindered_not r options (NoUnit fault) rig back is = (λ word. tt, unit_not fault 66 (omega arith))
hindered_not r options (NoVolume fault) rig back is = (λ word. tt, volume_not fault 66 (omega arith))
