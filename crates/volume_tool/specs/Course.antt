-- How far a run of the tool comes, and its status and line.
use Rattle.std.specs.Prelude.{ℕ, Bool, true, false, List}
use Rattle.rig.specs.declared.host.HostFault.{HostFault}
use Rattle.presto_recover.specs.declared.fault.OpenFault.{OpenFault as UnitFault}
use Rattle.v7_damage.specs.declared.damage.RepairFault.{RepairFault}
use Rattle.v7_inspect.specs.declared.seen.Seen.{Seen}
use Rattle.v7_make.specs.declared.fault.MakeFault.{MakeFault}
use Rattle.v7_make.specs.declared.fault.MakeFault.TheVariants as make
use Rattle.run_lines.specs.Lines.{device_line, no_memory_line, no_volume_line}
use Rattle.run_lines.specs.Refusals.{host_status, host_line, unit_status, unit_line, volume_status, volume_line}
use Rattle.volume_tool.specs.Lines.{usage_line, large_line, small_line, made_line, seen_line, recovered_line}

-- How far a run came: the words aren't of the grammar; the sizes are refused; the host gave no rig; no volume was made on it, or one of so many sectors and
-- inodes with so many blocks free; disk and board weren't opened; the volume can't be inspected or mended; it was inspected; a device failed while it was
-- stopped; it was recovered.
pub data Course : Type 0 where
  Usage : Course
  Unfit : MakeFault → Course
  NoRig : List ℕ → HostFault → Course
  NotMade : MakeFault → Course
  Made : ℕ → ℕ → ℕ → Course
  NoUnit : UnitFault → Course
  NoVolume : RepairFault → Course
  Checked : Seen → Course
  NotStopped : Course
  Recovered : ℕ → ℕ → Course

-- what the refusal of a volume that was to be made gives
abbrev pub make_status : MakeFault → ℕ
make_status (make.TooSmall need have) = 65
make_status make.TooLarge = 65
make_status make.Failed = 74
make_status make.NoMemory = 75

abbrev pub make_line : MakeFault → List ℕ
make_line (make.TooSmall need have) = small_line need have
make_line make.TooLarge = large_line
make_line make.Failed = device_line 0
make_line make.NoMemory = no_memory_line

-- the status; in place of 0 it is 74 where the line can't be said
abbrev pub status_of : Course → ℕ
status_of Usage = 64
status_of (Unfit fault) = make_status fault
status_of (NoRig word fault) = host_status fault
status_of (NotMade fault) = make_status fault
status_of (Made sectors inodes free) = 0
status_of (NoUnit fault) = unit_status fault
status_of (NoVolume fault) = volume_status fault
status_of (Checked seen) = 0
status_of NotStopped = 74
status_of (Recovered recovered repaired) = 0

abbrev pub line_of : Course → List ℕ
line_of Usage = usage_line
line_of (Unfit fault) = make_line fault
line_of (NoRig word fault) = host_line (no_volume_line word) fault
line_of (NotMade fault) = make_line fault
line_of (Made sectors inodes free) = made_line sectors inodes free
line_of (NoUnit fault) = unit_line 0 fault
line_of (NoVolume fault) = volume_line 0 fault
line_of (Checked seen) = seen_line seen
line_of NotStopped = device_line 0
line_of (Recovered recovered repaired) = recovered_line recovered repaired

-- the host gave a rig
abbrev pub has_rig : Course → Bool
has_rig Usage = false
has_rig (Unfit fault) = false
has_rig (NoRig word fault) = false
has_rig (NotMade fault) = true
has_rig (Made sectors inodes free) = true
has_rig (NoUnit fault) = true
has_rig (NoVolume fault) = true
has_rig (Checked seen) = true
has_rig NotStopped = true
has_rig (Recovered recovered repaired) = true
