-- What the turns of a worker say.
use Rattle.std.specs.Prelude.{◌≡◌, ◌≢◌, ℕ, Bool, ◌+◌, ◌-◌, ◌≤◌, List, [], ◌∷◌, ◌++◌, length, Some}
use Rattle.std.specs.List.{flat_map, filter_map, AllByRecursion}
use Rattle.files_model.specs.declared.address.Address.{Address}
use Rattle.files_model.specs.History.{time_of}
use Rattle.stable.specs.Counts.{Rose, RoseBy, one_more}
use Rattle.stable.specs.declared.store.Stable.{Ghosts}
use Rattle.rig.specs.Clocks.{changes_after}
use Rattle.rig.specs.Links.{Heard}
use Rattle.rig.specs.declared.clock.Clock.{Ghosts as ClockGhosts}
use Rattle.rig.specs.declared.link.Event.{Event}
use Rattle.rig.specs.declared.link.Event.TheVariants as event
use Rattle.rig.specs.declared.link.Link.{Ghosts as LinkGhosts}
use Rattle.rig.specs.Links.Heard.{Datagram, Idle, Closed, Failed}
use Rattle.rig.specs.Offers.{LeavesOut}
use Rattle.datagrams.specs.declared.datagram.Datagram.{Datagram as Meaning}
use Rattle.datagrams.specs.declared.datagram.Datagram.TheVariants.{NoMeaning, Outside, Asks, Mount, Command, Status, Halt}
use Rattle.datagrams.specs.Meaning.{meaning}
use Rattle.stable.specs.Looked.{KeepsImage}
use Rattle.volume.specs.Mounted.{store_of, SameButStore}
use Rattle.volume.specs.Rests.{Rests}
use Rattle.volume.specs.declared.mounted.Volume.{Volume}
use Rattle.nfs_worker.specs.Desk.{Change, change_of, Tells}
use Rattle.nfs_worker.specs.Resting.{StaysAtRest}
use Rattle.nfs_worker.specs.Volumes.{Pairwise, EachVolume, OneAlone}
use Rattle.nfs_worker.specs.Tending.{IsTended, IsUntended}
use Rattle.nfs_worker.specs.declared.desk.Desk.{Desk}
use Rattle.nfs_worker.specs.Account.{Hold, Grew, history}
use Rattle.nfs_worker.specs.Worker.{Own, owned, events_on, request_in, requests_of, worker_of, Works}
use Rattle.nfs_worker.specs.declared.pass.Numbers.{Numbers}
use Rattle.nfs_worker.specs.declared.pass.ServerPass.{ServerPass}
use Rattle.nfs_worker.specs.declared.releasing.Released.{Released}
use Rattle.nfs_worker.specs.declared.releasing.Released.TheVariants as released
use Rattle.nfs_worker.specs.declared.turning.DropCause.TheVariants as cause
use Rattle.nfs_worker.specs.declared.turning.Turn.{Turn}
use Rattle.nfs_worker.specs.declared.turning.Turn.TheVariants as turn
use Rattle.nfs_worker.specs.declared.turning.Ended.{Ended}
use Rattle.nfs_worker.specs.declared.turning.Ended.TheVariants as ended

-- ---- one turn

-- the volume that a datagram of this meaning is for, and the first where it is for none
abbrev pub place_of : Meaning → ℕ
place_of (Asks xid volume cred call) = volume
place_of (Command xid volume asked) = volume
place_of (Status xid volume) = volume
place_of NoMeaning = 0
place_of (Outside answer) = 0
place_of (Mount rpc) = 0
place_of (Halt xid) = 0

-- where so many volumes are open
abbrev pub place_in : ℕ → Heard → ℕ
place_in volumes (Datagram from bytes) = place_of (meaning bytes volumes)
place_in volumes Idle = 0
place_in volumes Closed = 0
place_in volumes Failed = 0

-- a datagram that means nothing
abbrev pub MeansNothing : ℕ → Heard → Type 0
MeansNothing volumes (Datagram from bytes) = meaning bytes volumes ≡ NoMeaning
MeansNothing volumes Idle = ⊥
MeansNothing volumes Closed = ⊥
MeansNothing volumes Failed = ⊥

abbrev pub IsDatagram : Heard → Type 0
IsDatagram (Datagram from bytes) = Unit {0}
IsDatagram Idle = ⊥
IsDatagram Closed = ⊥
IsDatagram Failed = ⊥

-- what tells the server to end
abbrev pub IsHalt : Meaning → Type 0
IsHalt (Halt xid) = Unit {0}
IsHalt NoMeaning = ⊥
IsHalt (Outside answer) = ⊥
IsHalt (Asks xid volume cred call) = ⊥
IsHalt (Mount rpc) = ⊥
IsHalt (Command xid volume asked) = ⊥
IsHalt (Status xid volume) = ⊥

-- what is answered, and doesn't end the server
abbrev pub IsAnswered : Meaning → Type 0
IsAnswered NoMeaning = ⊥
IsAnswered (Halt xid) = ⊥
IsAnswered (Outside answer) = Unit {0}
IsAnswered (Asks xid volume cred call) = Unit {0}
IsAnswered (Mount rpc) = Unit {0}
IsAnswered (Command xid volume asked) = Unit {0}
IsAnswered (Status xid volume) = Unit {0}

-- a datagram that tells the server to end, by user 0
abbrev pub MeansHalt : ℕ → Heard → Type 0
MeansHalt volumes (Datagram from bytes) = IsHalt (meaning bytes volumes)
MeansHalt volumes Idle = ⊥
MeansHalt volumes Closed = ⊥
MeansHalt volumes Failed = ⊥

-- a datagram that means a call on an open volume, or is answered outside any history
abbrev pub MeansSomething : ℕ → Heard → Type 0
MeansSomething volumes (Datagram from bytes) = IsAnswered (meaning bytes volumes)
MeansSomething volumes Idle = ⊥
MeansSomething volumes Closed = ⊥
MeansSomething volumes Failed = ⊥

-- The datagram has a meaning; if it means a call, that call is the turn's one event.
pub record Reacts (volumes : ℕ) (heard : Heard) (own : List Own) : Type 0 where
  pub means : MeansSomething volumes heard
  pub whole : flat_map requests_of own ≡ filter_map (request_in volumes) (heard ∷ [])

-- What each answer of a turn says. No two of the events and meanings that stand here hold at once, so each answer comes exactly there.
abbrev pub Says : ℕ → Turn → Heard → List Own → List (Address × List ℕ) → ℕ → ℕ → Type 0
Says volumes turn.Idle heard own replies before now = heard ≡ Idle
Says volumes turn.Closed heard own replies before now = heard ≡ Closed
Says volumes (turn.Dropped cause.ReceiveFailed) heard own replies before now = (heard ≡ Failed) × Rose before now
Says volumes (turn.Dropped cause.NoMeaning) heard own replies before now = MeansNothing volumes heard
-- want of memory comes before anything else
Says volumes (turn.Dropped cause.NoMemory) heard own replies before now = IsDatagram heard × (own ≡ [])
Says volumes (turn.Dropped cause.SendFailed) heard own replies before now = Reacts volumes heard own × Rose before now × (replies ≡ [])
Says volumes (turn.Answered n) heard own replies before now = Reacts volumes heard own × (length replies ≡ n) × (1 ≤ n)
-- the reply may be unsent
Says volumes turn.Halted heard own replies before now = MeansHalt volumes heard × (own ≡ [])
-- no call is left to another worker
Says volumes turn.Left heard own replies before now = ⊥

-- What a datagram of this meaning did to a volume's store besides the puts of a call, and what was sent of it, if anything. A command and a status show the snapshot afterwards.
abbrev pub DoesBy : Desk → Address → Meaning → List (Address × List ℕ) → Change → Desk → Type 0
DoesBy desk from NoMeaning replies change then = (then ≡ desk) × IsUntended change.old change.new
DoesBy desk from (Asks xid volume cred call) replies change then = (then ≡ desk) × IsUntended change.old change.new
DoesBy desk from means replies change then = (reply : List ℕ) × Tells desk means change reply then × LeavesOut replies ((from, reply) ∷ [])

abbrev pub Does : ℕ → Desk → Heard → List (Address × List ℕ) → Change → Desk → Type 0
Does volumes desk (Datagram from bytes) replies change then = DoesBy desk from (meaning bytes volumes) replies change then
Does volumes desk Idle replies change then = ⊥
Does volumes desk Closed replies change then = ⊥
Does volumes desk Failed replies change then = ⊥

-- what each answer of a turn says of that; where nothing was answered nothing was done
abbrev pub Obeys : Turn → ℕ → Desk → Heard → List (Address × List ℕ) → Change → Desk → Type 0
Obeys (turn.Answered n) volumes desk heard replies change then = Does volumes desk heard replies change then
Obeys (turn.Dropped cause.SendFailed) volumes desk heard replies change then = Does volumes desk heard replies change then
Obeys turn.Halted volumes desk heard replies change then = Does volumes desk heard replies change then
Obeys _ volumes desk heard replies change then = (then ≡ desk) × IsUntended change.old change.new

-- how many of these are datagrams
abbrev pub datagrams : List Heard → ℕ
datagrams [] = 0
datagrams (Datagram from bytes ∷ heard) = datagrams heard + 1
datagrams (Idle ∷ heard) = datagrams heard
datagrams (Closed ∷ heard) = datagrams heard
datagrams (Failed ∷ heard) = datagrams heard

-- Each datagram taken is received, each reply that the link took is answered, and the others are dropped.
pub record Counts (old new : Numbers) (heard : List Heard) (replies : List (Address × List ℕ)) : Type 0 where
  pub received : new.received ≡ old.received + datagrams heard
  pub answered : new.answered ≡ old.answered + length replies

-- what the release of a turn's one reply makes of the turn
abbrev pub turn_of : Released → Turn
turn_of released.Sent = turn.Answered 1
turn_of released.SendFailed = turn.Dropped cause.SendFailed

-- how many replies the link took
abbrev pub answers_in : Turn → ℕ
answers_in (turn.Answered n) = 1
answers_in _ = 0

-- the turn of an event without a datagram
abbrev pub EventTurn : Event → Turn → Type 0
EventTurn (event.Datagram from) result = Unit {0}
EventTurn event.Idle result = result ≡ turn.Idle
EventTurn event.Closed result = result ≡ turn.Closed
EventTurn event.Failed result = result ≡ turn.Dropped cause.ReceiveFailed

-- The account of a turn from its event on, of the volume that it is for: what was heard, what the volume and the link did, what the answer says, and what the pass counted. Its events have the pass's second.
pub record Turned {S L : Type 0} (s : Ghosts S) (l : LinkGhosts L) (volumes volume : ℕ) (old new : Volume S) (desk then : Desk) (link link' : L) (pass pass' : ServerPass) (result : Turn) : Type 0 where
  pub heard : Heard
  pub holds : List Hold
  pub replies : List (Address × List ℕ)
  pub at : volume ≡ place_in volumes heard
  pub grows : Grew s (store_of old) (store_of new) holds
  pub rest : StaysAtRest s old new
  pub works : Works volumes pass.number desk then (worker_of l link) (worker_of l link') (heard ∷ []) (owned volume (history holds)) replies
  pub says : Says volumes result heard (owned volume (history holds)) replies (l.faults link) (l.faults link')
  pub obeys : Obeys result volumes desk heard replies (change_of s (store_of old) (store_of new)) then
  pub counts : Counts pass.numbers pass'.numbers (heard ∷ []) replies
  pub timed : AllByRecursion (λ event. time_of event ≡ pass'.second) (history holds)
  pub number : pass'.number ≡ pass.number

-- An event was taken, and answered on one of the volumes. The others are as they were.
pub record TookEvent {S L : Type 0} (s : Ghosts S) (l : LinkGhosts L) (olds news : List (Volume S)) (desk then : Desk) (link link' : L) (pass pass' : ServerPass) (result : Turn) : Type 0 where
  pub volume : ℕ
  pub alone : OneAlone (λ (old new : Volume S). Turned s l (length olds) volume old new desk then link link' pass pass' result) volume olds news

-- A volume was tended before an event was taken: its battery was polled or not.
pub record Tends {S : Type 0} (s : Ghosts S) (polled : Bool) (old new : Volume S) : Type 0 where
  pub rest : Rests s new
  pub kept : SameButStore old new
  pub keeps : KeepsImage s (store_of old) (store_of new)
  pub tended : IsTended polled (s.snapshot_of (store_of old)) (s.snapshot_of (store_of new))

-- A turn: each volume was tended, the battery polled or not, and then an event was taken.
pub record TookTurn {S L : Type 0} (s : Ghosts S) (l : LinkGhosts L) (polled : Bool) (olds news : List (Volume S)) (desk then : Desk) (link link' : L) (pass pass' : ServerPass) (result : Turn) : Type 0 where
  pub mids : List (Volume S)
  pub tended : Pairwise (Tends s polled) olds mids
  pub took : TookEvent s l mids news desk then link link' pass pass' result

-- The clock was asked once, and its answer is this second.
pub record IsAsked {C : Type 0} (c : ClockGhosts C) (clock clock' : C) (second : ℕ) : Type 0 where
  pub last : c.last clock' ≡ Some second
  pub answers : c.answers clock' ≡ one_more (c.answers clock)
  pub changes : c.changes clock' ≡ changes_after (c.last clock) second (c.changes clock)

-- ---- a run of turns

-- no event closed the link
abbrev pub IsOpen : List Heard → Type 0
IsOpen heard = AllByRecursion (λ one. one ≢ Closed) heard

-- as many events as there are turns, and none closed the link
pub record IsSpent (turns : ℕ) (heard : List Heard) : Type 0 where
  pub all : length heard ≡ turns
  pub still_open : IsOpen heard

-- the last event closed the link, and none before
pub record IsClosed (turns : ℕ) (heard : List Heard) : Type 0 where
  pub before : List Heard
  pub last : heard ≡ before ++ Closed ∷ []
  pub open_before : IsOpen before
  pub within : length heard ≤ turns

-- the last event is a datagram that tells the server to end, and none before closed the link
pub record IsHalted (volumes turns : ℕ) (heard : List Heard) : Type 0 where
  pub before : List Heard
  pub halt : Heard
  pub last : heard ≡ before ++ halt ∷ []
  pub means : MeansHalt volumes halt
  pub open_before : IsOpen before
  pub within : length heard ≤ turns

-- what an end says of what was heard
abbrev pub EndsBy : ℕ → Ended → ℕ → List Heard → Type 0
EndsBy volumes ended.Closed turns heard = IsClosed turns heard
EndsBy volumes ended.Spent turns heard = IsSpent turns heard
EndsBy volumes ended.Halted turns heard = IsHalted volumes turns heard

-- How a volume went on in turns of a worker, whose own events these are: by holds of its events among them. Its battery was polled so often at least.
pub record Went {S : Type 0} (s : Ghosts S) (times : ℕ) (own : List Own) (volume : ℕ) (old new : Volume S) (holds : List Hold) : Type 0 where
  pub grows : Grew s (store_of old) (store_of new) holds
  pub shared : events_on volume own ≡ history holds
  pub polled : RoseBy times (s.snapshot_of (store_of old)).polls (s.snapshot_of (store_of new)).polls
  pub rest : StaysAtRest s old new

-- Turns were taken, one after the other, to an end. Each battery was polled as often as the clock's second changed, but for its first change, which may be one from the second before.
pub record Worked {S L C : Type 0} (s : Ghosts S) (l : LinkGhosts L) (c : ClockGhosts C) (olds news : List (Volume S)) (desk then : Desk) (link link' : L) (clock clock' : C) (pass pass' : ServerPass) (ended : Ended) (turns : ℕ) : Type 0 where
  pub heard : List Heard
  pub own : List Own
  pub holds : List (List Hold)
  pub replies : List (Address × List ℕ)
  pub went : EachVolume (Went s (c.changes clock' - c.changes clock - 1) own) 0 olds news holds
  pub works : Works (length olds) pass.number desk then (worker_of l link) (worker_of l link') heard own replies
  pub ends : EndsBy (length olds) ended turns heard
  pub counts : Counts pass.numbers pass'.numbers heard replies
  pub number : pass'.number ≡ pass.number

-- So many turns were taken, and none closed the link. From the first on the pass has the clock's last answer.
pub record TurnsTaken {S L C : Type 0} (s : Ghosts S) (l : LinkGhosts L) (c : ClockGhosts C) (olds news : List (Volume S)) (desk then : Desk) (link link' : L) (clock clock' : C) (pass pass' : ServerPass) (turns : ℕ) : Type 0 where
  pub worked : Worked s l c olds news desk then link link' clock clock' pass pass' ended.Spent turns
  pub unasked : turns ≡ 0 → c.changes clock' ≡ c.changes clock
  pub last : 1 ≤ turns → c.last clock' ≡ Some pass'.second

-- what one worker did: what it heard, the events of its holds, what its link took, and the desk before and after
pub record Did : Type 0 where
  pub desk : Desk
  pub then : Desk
  pub heard : List Heard
  pub own : List Own
  pub replies : List (Address × List ℕ)
