-- What the statuses of refusals say.
use Rattle.std.proofs.Common.{arith, ◌≡◌, ◌≢◌, ℕ, ◌≤◌, refl, sym}
use Rattle.rig.specs.declared.host.HostFault.{HostFault}
use Rattle.rig.specs.declared.host.HostFault.TheVariants as host_fault
use Rattle.nvram_map.specs.declared.fault.BoardFault.{BoardFault}
use Rattle.nvram_map.specs.declared.fault.BoardFault.TheVariants as board
use Rattle.presto_recover.specs.declared.fault.OpenFault.{OpenFault as UnitFault}
use Rattle.presto_recover.specs.declared.fault.OpenFault.TheVariants as unit
use Rattle.v7_damage.specs.declared.damage.RepairFault.{RepairFault}
use Rattle.v7_damage.specs.declared.damage.RepairFault.TheVariants as volume
use Rattle.run_lines.specs.Refusals.{host_status, board_status, unit_status, volume_status}

pub host_failed : (fault : HostFault) → host_status fault ≡ 66 → fault ≡ host_fault.Failed
host_failed host_fault.Failed is = refl
host_failed host_fault.NoMemory is = absurd (omega (arith, is))

pub host_not : (fault : HostFault) (n : ℕ) → n ≢ 66 → n ≢ 75 → host_status fault ≢ n
host_not host_fault.Failed n p q is = p (sym is)
host_not host_fault.NoMemory n p q is = q (sym is)

pub volume_failed : (fault : RepairFault) → volume_status fault ≡ 74 → fault ≡ volume.Failed
volume_failed volume.Failed is = refl
volume_failed (volume.Damaged sector which) is = absurd (omega (arith, is))
volume_failed volume.NoMemory is = absurd (omega (arith, is))

pub volume_not : (fault : RepairFault) (n : ℕ) → n ≤ 67 → volume_status fault ≢ n
volume_not (volume.Damaged sector which) n le is = omega (arith, le, is)
volume_not volume.Failed n le is = omega (arith, le, is)
volume_not volume.NoMemory n le is = omega (arith, le, is)

board_not : (fault : BoardFault) (n : ℕ) → n ≤ 66 → board_status fault ≢ n
board_not board.Lost n le is = omega (arith, le, is)
board_not (board.NotFormatted word) n le is = omega (arith, le, is)
board_not (board.WrongVolume name title) n le is = omega (arith, le, is)
board_not (board.BadEntry index word) n le is = omega (arith, le, is)
board_not board.Failed n le is = omega (arith, le, is)
board_not board.NoMemory n le is = omega (arith, le, is)

pub unit_not : (fault : UnitFault) (n : ℕ) → n ≤ 66 → unit_status fault ≢ n
unit_not (unit.Board why) n le is = board_not why n le is
unit_not (unit.NoSuper sectors) n le is = omega (arith, le, is)
unit_not unit.Failed n le is = omega (arith, le, is)
unit_not unit.NoMemory n le is = omega (arith, le, is)
