-- How far a run comes, and what it says and answers (docs/CALLS.md, "Lines and statuses").
use Rattle.std.specs.Prelude.{ℕ, ◌+◌, ◌-◌, if◌then◌else◌, List, [], ◌∷◌, ◌++◌, length, Option, Some, None, codes}
use Rattle.rig.specs.declared.host.HostFault.{HostFault}
use Rattle.nfs_worker.specs.Turns.{Did, datagrams}
use Rattle.nfs_worker.specs.declared.turning.Ended.{Ended}
use Rattle.nfs_worker.specs.declared.turning.Ended.TheVariants as ended
use Rattle.run_lines.specs.Lines.{device_line, no_memory_line}
use Rattle.run_lines.specs.Refusals.{host_status, host_line}
use Rattle.server_volumes.specs.Lines.{starts_lines, stopped_line}
use Rattle.server_volumes.specs.Obstacles.{Obstacle, obstacle_line, obstacle_status}
use Rattle.server_volumes.specs.Starts.{Start}
use Rattle.server_volumes.specs.Stopped.{fails}
use Rattle.server_volumes.specs.declared.stopping.Stopped.{Stopped}
use Rattle.nfs_server.specs.Lines.{usage_line, numbers_line, no_port_line}

-- How the run over the volumes that were opened ended: the next one wasn't opened; the host gave no post at this port, or there was no memory for a worker; a
-- worker ran.
pub data Ending : Type 0 where
  Unopened : Obstacle → Ending
  NoPost : ℕ → HostFault → Ending
  Ran : Ended → Did → Ending

-- How far a run came: there was no memory for its words; they aren't of the grammar; volumes were opened and started so, in the order of the words, the run
-- over them ended so, and so they were stopped.
pub data Course : Type 0 where
  Unread : Course
  Usage : Course
  Served : List Start → Ending → List Stopped → Course

-- ---- statuses

-- the first of the volumes that a device failed in stopping, where the first of all has this number
abbrev pub first_failed : ℕ → List Stopped → Option ℕ
first_failed n [] = None
first_failed n (stopped ∷ more) = if fails stopped then Some n else first_failed (n + 1) more

-- what the end of the worker gives
abbrev pub end_status : Ended → ℕ
end_status ended.Spent = 72
end_status ended.Closed = 0
end_status ended.Halted = 0

-- and after a device failed in stopping a volume
abbrev pub closing_status : Ended → Option ℕ → ℕ
closing_status way (Some number) = 74
closing_status way None = end_status way

abbrev pub ending_status : Ending → List Stopped → ℕ
ending_status (Unopened why) all = obstacle_status why
ending_status (NoPost port fault) all = host_status fault
ending_status (Ran way did) all = closing_status way (first_failed 0 all)

abbrev pub status_of : Course → ℕ
status_of Unread = 75
status_of Usage = 64
status_of (Served starts ending all) = ending_status ending all

-- ---- lines

-- what the end of the worker says
abbrev pub end_lines : Ended → List (List ℕ)
end_lines ended.Spent = codes "turns spent" ∷ []
end_lines ended.Closed = []
end_lines ended.Halted = []

-- and what is said after a device failed in stopping a volume
abbrev pub last_lines : Ended → Option ℕ → List (List ℕ)
last_lines way (Some number) = device_line number ∷ []
last_lines way None = end_lines way

-- how the volumes were stopped, the first of which has this number
abbrev pub stopped_lines : ℕ → List Stopped → List (List ℕ)
stopped_lines n [] = []
stopped_lines n (stopped ∷ more) = stopped_line n stopped.state stopped.dirty ∷ stopped_lines (n + 1) more

abbrev pub closing_lines : List Stopped → Ended → ℕ → ℕ → List (List ℕ)
closing_lines all way received answered = stopped_lines 0 all ++ numbers_line received answered (received - answered) ∷ last_lines way (first_failed 0 all)

-- of a run over so many volumes
abbrev pub ending_lines : ℕ → Ending → List Stopped → List (List ℕ)
ending_lines n (Unopened why) all = obstacle_line n why ∷ []
ending_lines n (NoPost port fault) all = host_line (no_port_line port) fault ∷ []
ending_lines n (Ran way did) all = closing_lines all way (datagrams did.heard) (length did.replies)

abbrev pub lines_of : Course → List (List ℕ)
lines_of Unread = no_memory_line ∷ []
lines_of Usage = usage_line ∷ []
lines_of (Served starts ending all) = starts_lines 0 starts ++ ending_lines (length starts) ending all

-- ---- what came of it

-- what the workers did, if one ran
abbrev pub dids_in : Ending → List Did
dids_in (Ran way did) = did ∷ []
dids_in (NoPost port fault) = []
dids_in (Unopened why) = []

abbrev pub dids_of : Course → List Did
dids_of (Served starts ending all) = dids_in ending
dids_of Unread = []
dids_of Usage = []

-- why a volume wasn't opened, if one wasn't
abbrev pub obstacle_in : Ending → Option Obstacle
obstacle_in (Unopened why) = Some why
obstacle_in (NoPost port fault) = None
obstacle_in (Ran way did) = None

-- how many volumes were started
abbrev pub started_in : Course → ℕ
started_in (Served starts ending all) = length starts
started_in Unread = 0
started_in Usage = 0
