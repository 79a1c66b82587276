-- What one hold of a volume made ready, and what became of it.
use Rattle.std.specs.Prelude.{◌≡◌, ℕ, ◌≤◌, List, [], ◌∷◌, Option, Some, None}
use Rattle.files_model.specs.declared.address.Address.{Address}
use Rattle.files_model.specs.Files.{Files}
use Rattle.files_model.specs.History.{Event, Item, items_of, time_of}
use Rattle.files_model.specs.History.Event.{Done, Failed}
use Rattle.stable.specs.Counts.{Rose}
use Rattle.stable.specs.declared.store.Stable.{Ghosts}
use Rattle.rig.specs.Links.{gains}
use Rattle.rig.specs.declared.link.Link.{Ghosts as LinkGhosts}
use Rattle.v7_map.specs.View.{view}
use Rattle.volume.specs.declared.outcome.Outcome.{Outcome}
use Rattle.volume.specs.declared.outcome.Outcome.TheVariants as outcome
use Rattle.nfs_worker.specs.Account.{Grew}
use Rattle.nfs_worker.specs.Worker.{worker_at, replies_of}
use Rattle.nfs_worker.specs.declared.releasing.Ready.{Ready}
use Rattle.nfs_worker.specs.declared.releasing.Released.{Released}
use Rattle.nfs_worker.specs.declared.releasing.Released.TheVariants as released
use Rattle.nfs_worker.specs.declared.serving.Served.{Served}
use Rattle.nfs_worker.specs.declared.serving.Served.TheVariants as served

-- the link took the reply, or it failed and took nothing; no event was taken from it
pub record Releases {L : Type 0} (l : LinkGhosts L) (done : Released) (old new : L) (reply : Address × List ℕ) : Type 0 where
  pub left : l.left new ≡ l.left old
  pub later : l.faults old ≤ l.faults new
  pub sent : done ≡ released.Sent → l.sent new ≡ gains (l.sent old) reply
  pub unsent : done ≡ released.SendFailed → l.sent new ≡ l.sent old
  pub failed : done ≡ released.SendFailed → Rose (l.faults old) (l.faults new)

-- the event of a worker's call that came to this, and left these files; there is none where there was no memory
abbrev pub event_of : ℕ → ℕ → Item → Files → Outcome → Option Event
event_of number now item left (outcome.Reply reply) = Some (Done number item now reply)
event_of number now item left outcome.Io = Some (Failed number (item ∷ []) now left)
event_of number now item left outcome.NoMemory = None

-- One hold of this volume appended this event, which is of this call, at this time, by this worker; what is ready is its reply.
pub record IsServed {S : Type 0} (s : Ghosts S) (volume : ℕ) (old new : S) (number now : ℕ) (item : Item) (event : Event) (ready : Ready) : Type 0 where
  pub grows : Grew s old new (record { events = event ∷ []; mark = s.moment new } ∷ [])
  pub item_is : items_of event ≡ item ∷ []
  pub worker_is : worker_at event ≡ Some number
  pub time_is : time_of event ≡ now
  pub reply_is : replies_of (record { volume = volume; event = event }) ≡ (ready.to, ready.bytes) ∷ []

-- what became of a call: its reply is ready, or there was no memory and there was no hold
abbrev pub Serves : {S : Type 0} → Ghosts S → ℕ → S → S → ℕ → ℕ → Item → Served → Type 0
Serves s volume old new number now item (served.Ready ready) =
    (came : Outcome) × (event : Event) × (event_of number now item (view (s.image new)) came ≡ Some event) × IsServed s volume old new number now item event ready
Serves s volume old new number now item served.NoMemory = Grew s old new []
