-- Where a device has failed, by why a volume isn't opened.
use Rattle.std.proofs.Common.{arith, ◌≡◌, inl, ℕ, List, [], ◌∷◌}
use Rattle.stable.specs.Counts.{Rose}
use Rattle.rig.specs.declared.rig.Rig.{Ghosts}
use Rattle.nvram_map.specs.declared.fault.BoardFault.TheVariants as board
use Rattle.presto_recover.specs.Refused.{IsReason}
use Rattle.presto_recover.specs.declared.fault.OpenFault.{OpenFault as UnitFault}
use Rattle.presto_recover.specs.declared.fault.OpenFault.TheVariants as unit
use Rattle.run_lines.specs.Refusals.{unit_status}
use Rattle.run_lines.proofs.Statuses.{host_not, volume_failed}
use Rattle.server_volumes.specs.Obstacles.{Obstacle, NoRig, NoUnit, NoVolume, Hinders, obstacle_status}
use Rattle.server_volumes.specs.declared.opening.OpenOptions.{OpenOptions}
use Rattle.nfs_server.specs.Outcome.{AnyRose}
use Rattle.nfs_server.specs.Run.{numbered}

module _ {R : Type 0} (r : Ghosts R) (options : OpenOptions) where
  unit_failed : (rig back : R) (fault : UnitFault) → IsReason r options.accept_loss rig back fault → unit_status fault ≡ 74 → Rose (r.faults rig) (r.faults back)
  unit_failed rig back (unit.Board board.Lost) why is = absurd (omega (arith, is))
  unit_failed rig back (unit.Board (board.NotFormatted word)) why is = absurd (omega (arith, is))
  unit_failed rig back (unit.Board (board.WrongVolume name title)) why is = absurd (omega (arith, is))
  unit_failed rig back (unit.Board (board.BadEntry index word)) why is = absurd (omega (arith, is))
  unit_failed rig back (unit.Board board.Failed) why is = absurd why.1
  unit_failed rig back (unit.Board board.NoMemory) why is = absurd why.1
  unit_failed rig back (unit.NoSuper sectors) why is = absurd (omega (arith, is))
  unit_failed rig back unit.Failed why is = why.1
  unit_failed rig back unit.NoMemory why is = absurd (omega (arith, is))

  -- the status says that a device failed only where the count of its rig rose
  pub hindered_rose : (n : ℕ) (why : Obstacle) (rigs backs : List R) → Hinders r options why rigs backs → obstacle_status why ≡ 74 → AnyRose r.faults rigs (numbered n backs)
  hindered_rose n (NoRig word fault) rigs backs hinders is = absurd (host_not fault 74 (λ e. omega (arith, e)) (λ e. omega (arith, e)) is)
  hindered_rose n (NoUnit fault) (rig ∷ []) (back ∷ []) hinders is = inl (unit_failed rig back fault hinders.0.reason is)
  hindered_rose n (NoVolume fault) (rig ∷ []) (back ∷ []) hinders is = inl (hinders.0.failed (volume_failed fault is))
  hindered_rose n (NoUnit fault) [] backs hinders is = absurd hinders
  hindered_rose n (NoUnit fault) (rig ∷ []) [] hinders is = absurd hinders
  hindered_rose n (NoUnit fault) (rig ∷ []) (back ∷ more ∷ backs) hinders is = absurd hinders
  hindered_rose n (NoUnit fault) (rig ∷ other ∷ rigs) backs hinders is = absurd hinders
  hindered_rose n (NoVolume fault) [] backs hinders is = absurd hinders
  hindered_rose n (NoVolume fault) (rig ∷ []) [] hinders is = absurd hinders
  hindered_rose n (NoVolume fault) (rig ∷ []) (back ∷ more ∷ backs) hinders is = absurd hinders
  hindered_rose n (NoVolume fault) (rig ∷ other ∷ rigs) backs hinders is = absurd hinders
