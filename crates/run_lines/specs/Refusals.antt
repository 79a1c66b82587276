-- What is refused with which status and line (docs/CALLS.md, "Lines and statuses").
use Rattle.std.specs.Prelude.{◌≡◌, ℕ, List}
use Rattle.rig.specs.declared.host.HostFault.{HostFault}
use Rattle.rig.specs.declared.host.HostFault.TheVariants as host_fault
use Rattle.nvram_map.specs.declared.fault.BoardFault.{BoardFault}
use Rattle.nvram_map.specs.declared.fault.BoardFault.TheVariants as board
use Rattle.presto_recover.specs.declared.fault.OpenFault.{OpenFault as UnitFault}
use Rattle.presto_recover.specs.declared.fault.OpenFault.TheVariants as unit
use Rattle.v7_damage.specs.declared.damage.Damage.TheVariants.{Sizes}
use Rattle.v7_damage.specs.declared.damage.RepairFault.{RepairFault}
use Rattle.v7_damage.specs.declared.damage.RepairFault.TheVariants as volume
use Rattle.run_lines.specs.Lines.{no_memory_line, device_line, damage_line, lost_line, unformatted_line, strange_line, entry_line}
use Rattle.run_lines.specs.declared.refusing.Refusal.{Refusal}

-- what the host's refusal gives; `missing` is the line for what it failed to give
abbrev pub host_status : HostFault → ℕ
host_status host_fault.Failed = 66
host_status host_fault.NoMemory = 75

abbrev pub host_line : List ℕ → HostFault → List ℕ
host_line missing host_fault.Failed = missing
host_line missing host_fault.NoMemory = no_memory_line

-- what the refusal of the board of a volume of this number gives
abbrev pub board_status : BoardFault → ℕ
board_status board.Lost = 69
board_status (board.NotFormatted word) = 70
board_status (board.WrongVolume name volume) = 67
board_status (board.BadEntry index word) = 68
board_status board.Failed = 74
board_status board.NoMemory = 75

abbrev pub board_line : ℕ → BoardFault → List ℕ
board_line n board.Lost = lost_line n
board_line n (board.NotFormatted word) = unformatted_line n
board_line n (board.WrongVolume name volume) = strange_line name volume
board_line n (board.BadEntry index word) = entry_line n index
board_line n board.Failed = device_line n
board_line n board.NoMemory = no_memory_line

-- what the refusal of a unit gives; a super-block that is missing is damaged in its sizes
abbrev pub unit_status : UnitFault → ℕ
unit_status (unit.Board why) = board_status why
unit_status (unit.NoSuper sectors) = 68
unit_status unit.Failed = 74
unit_status unit.NoMemory = 75

abbrev pub unit_line : ℕ → UnitFault → List ℕ
unit_line n (unit.Board why) = board_line n why
unit_line n (unit.NoSuper sectors) = damage_line n 1 Sizes
unit_line n unit.Failed = device_line n
unit_line n unit.NoMemory = no_memory_line

-- what the refusal of a volume gives
abbrev pub volume_status : RepairFault → ℕ
volume_status (volume.Damaged sector which) = 68
volume_status volume.Failed = 74
volume_status volume.NoMemory = 75

abbrev pub volume_line : ℕ → RepairFault → List ℕ
volume_line n (volume.Damaged sector which) = damage_line n sector which
volume_line n volume.Failed = device_line n
volume_line n volume.NoMemory = no_memory_line

-- a status and a line
pub record Refuses (status : ℕ) (line : List ℕ) (refusal : Refusal) : Type 0 where
  pub status_is : refusal.status ≡ status
  pub line_is : refusal.line.bytes ≡ line
