-- How workers share the histories of volumes.
use Rattle.std.specs.Prelude.{◌≡◌, ◌<◌, ℕ, ◌+◌, List, [], ◌∷◌, length, Some}
use Rattle.std.specs.List.{AllByRecursion}
use Rattle.files_model.specs.History.{Event}
use Rattle.nfs_worker.specs.Account.{Hold, history}
use Rattle.nfs_worker.specs.Turns.{Did}
use Rattle.nfs_worker.specs.Worker.{worker_at, events_by, events_on}

-- Each worker's own events of a volume are its events in the volume's history, in their order. The first worker has this number.
abbrev pub OwnLists : ℕ → List Event → ℕ → List Did → Type 0
OwnLists volume events n [] = Unit {0}
OwnLists volume events n (did ∷ dids) = (events_on volume did.own ≡ events_by n events) × OwnLists volume events (n + 1) dids

-- an event is one of so many workers'
pub record IsOfOne (workers : ℕ) (event : Event) : Type 0 where
  pub number : ℕ
  pub worker : worker_at event ≡ Some number
  pub within : number < workers

-- Each event of a volume's history is one worker's, once, and in that worker's order.
pub record IsShared (volume : ℕ) (events : List Event) (dids : List Did) : Type 0 where
  pub lists : OwnLists volume events 0 dids
  pub whole : AllByRecursion (IsOfOne (length dids)) events

-- of the volumes from this number on
abbrev pub SharedFrom : ℕ → List (List Hold) → List Did → Type 0
SharedFrom n [] dids = Unit {0}
SharedFrom n (holds ∷ more) dids = IsShared n (history holds) dids × SharedFrom (n + 1) more dids

-- the histories of all volumes are the workers'
abbrev pub OfWorkers : List (List Hold) → List Did → Type 0
OfWorkers volumes dids = SharedFrom 0 volumes dids
