-- What a datagram came to, before anything is sent.
use Rattle.std.specs.Prelude.{◌≡◌, ℕ, Bool, true, false, List, [], ◌∷◌, Some}
use Rattle.std.specs.List.{AllByRecursion}
use Rattle.files_model.specs.declared.address.Address.{Address}
use Rattle.files_model.specs.History.{Event, Item, items_of, time_of}
use Rattle.stable.specs.declared.store.Stable.{Ghosts}
use Rattle.rig.specs.declared.link.Link.{Ghosts as LinkGhosts}
use Rattle.datagrams.specs.declared.datagram.Datagram.{Datagram as Meaning}
use Rattle.datagrams.specs.declared.datagram.Datagram.TheVariants.{NoMeaning, Asks}
use Rattle.nfs_worker.specs.Desk.{Change, change_of, Tells}
use Rattle.nfs_worker.specs.Tending.{IsUntended}
use Rattle.nfs_worker.specs.declared.desk.Desk.{Desk}
use Rattle.nfs_worker.specs.Account.{Hold, Grew, history}
use Rattle.nfs_worker.specs.Served.{Releases}
use Rattle.nfs_worker.specs.Resting.{StaysAtRest}
use Rattle.nfs_worker.specs.Turns.{turn_of, place_of, IsHalt, IsAnswered}
use Rattle.volume.specs.Mounted.{store_of}
use Rattle.volume.specs.declared.mounted.Volume.{Volume}
use Rattle.nfs_worker.specs.Worker.{worker_at, replies_of, request_of}
use Rattle.nfs_worker.specs.declared.answering.Reaction.{Reaction}
use Rattle.nfs_worker.specs.declared.answering.Reaction.TheVariants as reaction
use Rattle.nfs_worker.specs.declared.releasing.Ready.{Ready}
use Rattle.nfs_worker.specs.declared.releasing.Released.{Released}
use Rattle.nfs_worker.specs.declared.turning.DropCause.TheVariants as cause
use Rattle.nfs_worker.specs.declared.turning.Turn.{Turn}
use Rattle.nfs_worker.specs.declared.turning.Turn.TheVariants as turn

-- The events are one, of the call that a datagram of this meaning asks of this volume; what is ready is its reply.
pub record IsOwn (volume : ℕ) (from : Address) (means : Meaning) (events : List Event) (ready : Ready) : Type 0 where
  pub event : Event
  pub only : events ≡ event ∷ []
  pub item : Item
  pub asked : request_of from means ≡ Some (volume, item)
  pub item_is : items_of event ≡ item ∷ []
  pub reply_is : replies_of (record { volume = volume; event = event }) ≡ (ready.to, ready.bytes) ∷ []

-- what each answer says of the datagram, the events, the store and the desk; where there is no memory nothing was done
abbrev pub Comes : ℕ → Address → Meaning → Desk → Desk → Change → List Event → Reaction → Type 0
Comes volume from means desk then change events (reaction.Ready ready) = IsOwn volume from means events ready × ((then ≡ desk) × IsUntended change.old change.new)
Comes volume from means desk then change events (reaction.Outside reply) = (events ≡ []) × (IsAnswered means × Tells desk means change reply then)
Comes volume from means desk then change events (reaction.Mounted reply) = (events ≡ []) × (IsAnswered means × Tells desk means change reply then)
Comes volume from means desk then change events (reaction.Halt reply) = (events ≡ []) × (IsHalt means × Tells desk means change reply then)
Comes volume from means desk then change events (reaction.Dropped cause.NoMeaning) = ((events ≡ []) × (means ≡ NoMeaning)) × ((then ≡ desk) × IsUntended change.old change.new)
Comes volume from means desk then change events (reaction.Dropped cause.NoMemory) = (events ≡ []) × ((then ≡ desk) × IsUntended change.old change.new)
Comes volume from means desk then change events (reaction.Dropped cause.SendFailed) = ⊥
Comes volume from means desk then change events (reaction.Dropped cause.ReceiveFailed) = ⊥

-- A datagram of this meaning was answered, in at most one hold of this volume, by this worker and at this time.
pub record Answers {S : Type 0} (s : Ghosts S) (volume : ℕ) (old new : Volume S) (desk then : Desk) (number now : ℕ) (from : Address) (means : Meaning) (result : Reaction) : Type 0 where
  pub holds : List Hold
  pub at : volume ≡ place_of means
  pub grows : Grew s (store_of old) (store_of new) holds
  pub rest : StaysAtRest s old new
  pub comes : Comes volume from means desk then (change_of s (store_of old) (store_of new)) (history holds) result
  pub mine : AllByRecursion (λ event. worker_at event ≡ Some number) (history holds)
  pub timed : AllByRecursion (λ event. time_of event ≡ now) (history holds)

-- it is sent, and then the server ends
abbrev pub is_halting : Reaction → Bool
is_halting (reaction.Halt reply) = true
is_halting (reaction.Ready ready) = false
is_halting (reaction.Outside reply) = false
is_halting (reaction.Mounted reply) = false
is_halting (reaction.Dropped why) = false

-- what was sent of it to that address, and what that made of the turn
abbrev pub Replied : {L : Type 0} → LinkGhosts L → Address → Reaction → L → L → Turn → Type 0
Replied l from (reaction.Ready ready) old new done = (released : Released) × Releases l released old new (ready.to, ready.bytes) × (done ≡ turn_of released)
Replied l from (reaction.Outside reply) old new done = (released : Released) × Releases l released old new (from, reply) × (done ≡ turn_of released)
Replied l from (reaction.Mounted reply) old new done = (released : Released) × Releases l released old new (from, reply) × (done ≡ turn_of released)
Replied l from (reaction.Halt reply) old new done = (released : Released) × Releases l released old new (from, reply) × (done ≡ turn_of released)
Replied l from (reaction.Dropped why) old new done = (new ≡ old) × (done ≡ turn.Dropped why)

-- the turn, where it ends the server or not
abbrev pub halted_by : Bool → Turn → Turn
halted_by true done = turn.Halted
halted_by false done = done
