-- How volumes are stopped, one after the other, and what is so of each from its opening on.
use Rattle.std.specs.Prelude.{◌≡◌, ℕ, ◌+◌, ◌-◌, true, false, List, [], ◌∷◌, ◌++◌, length}
use Rattle.std.specs.Option.{option_map}
use Rattle.stable.specs.Counts.{Rose, RoseBy}
use Rattle.stable.specs.declared.store.Stable.{Ghosts as StoreGhosts}
use Rattle.rig.specs.Hosts.{SameLoans, SameLines}
use Rattle.rig.specs.declared.host.Host.{Ghosts as HostGhosts}
use Rattle.rig.specs.declared.rig.Rig.{Ghosts}
use Rattle.rig.specs.declared.say.Say.{Ghosts as SayGhosts}
use Rattle.presto_unit.specs.declared.presto.Presto.{Presto}
use Rattle.volume.specs.Mounted.{store_of, is_hurt}
use Rattle.volume.specs.declared.mounted.Volume.{Volume}
use Rattle.run_lines.specs.Overlays.{unit_store}
use Rattle.nfs_worker.specs.Account.{Hold, Grew}
use Rattle.server_volumes.specs.Kept.{Kept, IsFound}
use Rattle.server_volumes.specs.Opens.{IsOpenOver}
use Rattle.server_volumes.specs.Starts.{Start}
use Rattle.server_volumes.specs.Stopped.{StopsAs}
use Rattle.server_volumes.specs.declared.opening.OpenOptions.{OpenOptions}
use Rattle.server_volumes.specs.declared.stopping.Stopped.{Stopped}

-- ---- one volume

-- A volume on a store was stopped: so the store has gone on by what it did since it was opened.
pub record EndsOn {V : Type 0} (s : StoreGhosts V) (volume : Volume V) (back : V) (stopped : Stopped) : Type 0 where
  pub grows : Grew s (store_of volume) back []
  pub since : (old mid : V) (holds : List Hold) → Grew s old mid [] → Grew s mid (store_of volume) holds → Grew s old back holds
  pub unused : (old : V) → Grew s old (store_of volume) [] → Grew s old back []
  pub stops : StopsAs s (is_hurt volume) (store_of volume) back stopped
  pub polls : (s.snapshot_of back).polls ≡ (s.snapshot_of (store_of volume)).polls

-- How an open volume went on: by these holds. It was hurt only where a device failed, and its battery was polled so often at least.
pub record IsUsed {R : Type 0} (r : Ghosts R) (times : ℕ) (old new : Volume (Presto R r)) (holds : List Hold) : Type 0 where
  pub grows : Grew (unit_store r) (store_of old) (store_of new) holds
  pub hurt : is_hurt new ≡ true → is_hurt old ≡ false → Rose ((unit_store r).faults (store_of old)) ((unit_store r).faults (store_of new))
  pub polled : RoseBy times ((unit_store r).snapshot_of (store_of old)).polls ((unit_store r).snapshot_of (store_of new)).polls

-- A rig was given back, on which a volume was opened, started, used by these holds and stopped. Its battery was read so often at least.
pub record IsServed {R : Type 0} (r : Ghosts R) (options : OpenOptions) (times : ℕ) (rig back : R) (start : Start) (stopped : Stopped) (holds : List Hold) : Type 0 where
  pub kept : Kept r rig back holds
  pub found : IsFound r options rig back start stopped
  pub polled : RoseBy times 0 (r.readings back).count

-- An open volume was stopped, and its rig came back: so it was served as it was used since its opening, which may be by no hold.
pub record Ends {R : Type 0} (r : Ghosts R) (volume : Volume (Presto R r)) (back : R) (stopped : Stopped) : Type 0 where
  pub used : (options : OpenOptions) (times : ℕ) (rig : R) (first : Volume (Presto R r)) (start : Start) (holds : List Hold)
      → IsOpenOver r options rig first start → IsUsed r times first volume holds → IsServed r options times rig back start stopped holds
  pub unused : (options : OpenOptions) (rig : R) (start : Start) → IsOpenOver r options rig volume start → IsServed r options 0 rig back start stopped []

-- ---- several

-- each rig came back under its number, of which this is the first, and so its volume was stopped
abbrev pub EachEnds : {R : Type 0} (r : Ghosts R) → ℕ → List (Volume (Presto R r)) → List (ℕ × R) → List Stopped → Type 0
EachEnds r n [] [] [] = Unit {0}
EachEnds r n (volume ∷ volumes) (back ∷ backs) (stopped ∷ more) = (back.0 ≡ n) × Ends r volume back.1 stopped × EachEnds r (n + 1) volumes backs more
EachEnds r n _ _ _ = ⊥

-- Volumes were stopped, one after the other, and their rigs given back. Nothing was said.
pub record EndsAll {S R L C P : Type 0} (h : HostGhosts S R L C P) (say : SayGhosts S) (r : Ghosts R) (old new : S) (volumes : List (Volume (Presto R r))) (stopped : List Stopped) : Type 0 where
  pub backs : List (ℕ × R)
  pub left : h.rigs_left new ≡ h.rigs_left old
  pub returned : h.rigs_back new ≡ option_map (λ before. before ++ backs) (h.rigs_back old)
  pub out : h.rigs_out new ≡ h.rigs_out old - length volumes
  pub posts : SameLoans h.posts_left h.posts_back h.posts_out old new
  pub lines : SameLines say.lines say.say_faults old new
  pub faults : h.host_faults new ≡ h.host_faults old
  pub each : EachEnds r 0 volumes backs stopped

-- each rig came back under its number, of which this is the first, and its volume was served so
abbrev pub EachServed : {R : Type 0} → Ghosts R → OpenOptions → ℕ → ℕ → List R → List (ℕ × R) → List Start → List Stopped → List (List Hold) → Type 0
EachServed r options times n [] [] [] [] [] = Unit {0}
EachServed r options times n (rig ∷ rigs) (back ∷ backs) (start ∷ starts) (stopped ∷ more) (holds ∷ all) =
    (back.0 ≡ n) × IsServed r options times rig back.1 start stopped holds × EachServed r options times (n + 1) rigs backs starts more all
EachServed r options times n _ _ _ _ _ = ⊥

-- no hold of each of them
abbrev pub no_holds : {A : Type 0} → List A → List (List Hold)
no_holds [] = []
no_holds (x ∷ xs) = [] ∷ no_holds xs
