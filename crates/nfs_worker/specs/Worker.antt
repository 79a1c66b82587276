-- The account of a worker: what it took from its link, the events of its holds, and what the link took from it.
use Rattle.std.specs.Prelude.{◌≡◌, ℕ, Bool, false, List, [], ◌∷◌, map, Option, Some, None, cond, nat_eq}
use Rattle.std.specs.List.{flat_map, filter_map, AllByRecursion}
use Rattle.files_model.specs.declared.address.Address.{Address}
use Rattle.files_model.specs.History.{Event, Item, items_of, answers_of}
use Rattle.files_model.specs.History.Event.{Done, Failed as Failing, Cut}
use Rattle.rig.specs.Links.{Heard, Takes}
use Rattle.rig.specs.declared.link.Link.{Ghosts}
use Rattle.rig.specs.Links.Heard.{Datagram, Idle, Closed, Failed}
use Rattle.datagrams.specs.declared.datagram.Datagram.{Datagram as Meaning}
use Rattle.datagrams.specs.declared.datagram.Datagram.TheVariants.{NoMeaning, Outside, Asks, Mount, Command, Status, Halt}
use Rattle.datagrams.specs.Meaning.{meaning}
use Rattle.nfs2_wire.specs.Replies.{bytes_of}
use Rattle.nfs_worker.specs.Desk.{Answered}
use Rattle.nfs_worker.specs.declared.desk.Desk.{Desk}
use Rattle.rig.specs.Offers.{LeavesOut, Offers}

-- what is seen of a worker's link
pub record Worker : Type 0 where
  pub left : Option (List Heard)
  pub sent : Option (List (Address × List ℕ))
  pub faults : ℕ

abbrev pub worker_of : {L : Type 0} → Ghosts L → L → Worker
worker_of l link = record { left = l.left link; sent = l.sent link; faults = l.faults link }

-- an event of one of the worker's holds, and the volume's number
pub record Own : Type 0 where
  pub volume : ℕ
  pub event : Event

-- events of holds of one volume
abbrev pub owned : ℕ → List Event → List Own
owned volume events = map (λ (event : Event). record { volume = volume; event = event }) events

-- whose hold it was; what a crash cut is no worker's
abbrev pub worker_at : Event → Option ℕ
worker_at (Done worker item now reply) = Some worker
worker_at (Failing worker items now left) = Some worker
worker_at (Cut calls now left) = None

abbrev pub is_by : ℕ → Event → Bool
is_by number (Done worker item now reply) = nat_eq worker number
is_by number (Failing worker items now left) = nat_eq worker number
is_by number (Cut calls now left) = false

-- the events of a worker in a history, in their order
abbrev pub events_by : ℕ → List Event → List Event
events_by number events = flat_map (λ (event : Event). cond (is_by number event) (event ∷ []) []) events

-- the events of a volume among a worker's own, in their order
abbrev pub events_on : ℕ → List Own → List Event
events_on volume own = flat_map (λ (one : Own). cond (nat_eq one.volume volume) (one.event ∷ []) []) own

-- ---- what datagrams ask

-- a call on a volume, as it came
abbrev pub Request : Type 0
Request = ℕ × Item

abbrev pub request_of : Address → Meaning → Option Request
request_of from (Asks xid volume cred call) = Some (volume, record { xid = xid; from = from; call = call; cred = cred })
request_of from NoMeaning = None
request_of from (Outside answer) = None
request_of from (Mount rpc) = None
request_of from (Command xid volume asked) = None
request_of from (Status xid volume) = None
request_of from (Halt xid) = None

-- the call that was heard, where so many volumes are open
abbrev pub request_in : ℕ → Heard → Option Request
request_in volumes (Datagram from bytes) = request_of from (meaning bytes volumes)
request_in volumes Idle = None
request_in volumes Closed = None
request_in volumes Failed = None

-- the calls of an own event
abbrev pub requests_of : Own → List Request
requests_of own = map (λ (item : Item). (own.volume, item)) (items_of own.event)

-- the reply datagrams of an own event, each to who asked
abbrev pub replies_of : Own → List (Address × List ℕ)
replies_of own = map (λ answer. (answer.0.from, bytes_of answer.0.xid answer.1 own.volume)) (answers_of own.event)

-- ---- lists

-- the third list has the items of both others, each in its order
pub data Mixes {A : Type 0} : List A → List A → List A → Type 0 where
  neither : Mixes [] [] []
  first : (x : A) (xs ys zs : List A) → Mixes xs ys zs → Mixes (x ∷ xs) ys (x ∷ zs)
  second : (y : A) (xs ys zs : List A) → Mixes xs ys zs → Mixes xs (y ∷ ys) (y ∷ zs)

-- ---- the account

-- a link has given these events
abbrev pub Hears : Option (List Heard) → List Heard → Option (List Heard) → Type 0
Hears left [] now = now ≡ left
Hears left (heard ∷ more) now = (mid : Option (List Heard)) × Takes left heard mid × Hears mid more now

-- what was offered to a link and what it took
abbrev pub Sends : Worker → Worker → List (Address × List ℕ) → List (Address × List ℕ) → Type 0
Sends old new offered replies = Offers old.sent new.sent old.faults new.faults offered replies

-- A worker has heard this, its own events are these, and its link took these replies. Its answers outside any history are those of one desk, which is the second one then.
pub record Works (volumes number : ℕ) (desk then : Desk) (old new : Worker) (heard : List Heard) (own : List Own) (replies : List (Address × List ℕ)) : Type 0 where
  pub taken : Hears old.left heard new.left
  -- each own call is that of a datagram heard, in order, and each at most once
  pub asked : LeavesOut (flat_map requests_of own) (filter_map (request_in volumes) heard)
  -- the answers outside any history are to datagrams heard, in order, and each at most once
  pub outside : List (Address × List ℕ)
  pub answered : Answered volumes desk heard outside then
  -- what was offered are those and the replies of own events
  pub offered : List (Address × List ℕ)
  pub mixed : Mixes (flat_map replies_of own) outside offered
  pub sends : Sends old new offered replies
  pub mine : AllByRecursion (λ (own : Own). worker_at own.event ≡ Some number) own
