-- What a run of the server does, over all rigs and posts that the host gave (docs/CALLS.md, "Lines and statuses").
use Rattle.std.specs.Prelude.{◌≡◌, ◌⊎◌, ℕ, ◌+◌, false, List, [], ◌∷◌, length, map, slice_get, Option, Some, None}
use Rattle.stable.specs.Counts.{Rose, RoseBy}
use Rattle.rig.specs.declared.clock.Clock.{Ghosts as ClockGhosts}
use Rattle.rig.specs.declared.host.Host.{Ghosts}
use Rattle.rig.specs.declared.host.Post.{Post}
use Rattle.rig.specs.declared.link.Link.{Ghosts as LinkGhosts}
use Rattle.rig.specs.declared.rig.Rig.{Ghosts as RigGhosts}
use Rattle.rig.specs.declared.say.Say.{Ghosts as SayGhosts}
use Rattle.files_model.specs.declared.attributes.FileId.{FileId}
use Rattle.volume.specs.Opens.{root_in}
use Rattle.run_lines.specs.Naming.{Named}
use Rattle.run_lines.specs.Overlays.{overlay_of}
use Rattle.run_lines.specs.Told.{Said, Loan}
use Rattle.nfs_worker.specs.Account.{Hold}
use Rattle.nfs_worker.specs.Sharing.{OfWorkers}
use Rattle.nfs_worker.specs.Turns.{EndsBy}
use Rattle.server_volumes.specs.Kept.{Kept, IsFound}
use Rattle.server_volumes.specs.Obstacles.{Obstacle, Hinders, IsOfWord}
use Rattle.server_volumes.specs.Starts.{Start}
use Rattle.server_volumes.specs.declared.opening.OpenOptions.{OpenOptions}
use Rattle.server_volumes.specs.declared.stopping.Stopped.{Stopped}
use Rattle.server_words.specs.Words.{Words}
use Rattle.nfs_server.specs.Course.{Course, Ending, Unread, Usage, Served, Unopened, NoPost, Ran, dids_of, lines_of, obstacle_in, started_in, status_of}
use Rattle.nfs_server.specs.Run.{EachPair, HasRoots, Workers, changes_in}

-- Each rig came back under its number, and this holds of it and its holds.
abbrev pub Volumes : {R : Type 0} → (R → R → List Hold → Type 0) → ℕ → List R → List (ℕ × R) → List (List Hold) → Type 0
Volumes kept n [] [] [] = Unit {0}
Volumes kept n (rig ∷ rigs) (back ∷ backs) (holds ∷ more) = (back.0 ≡ n) × kept rig back.1 holds × Volumes kept (n + 1) rigs backs more
Volumes kept n _ _ _ = ⊥

-- ---- what the words have to do with it

-- how the words want the volumes opened
abbrev pub opening_of : Option Words → OpenOptions
opening_of None = record { down = false; accept_loss = false }
opening_of (Some asked) = record { down = asked.options.down; accept_loss = asked.options.accept_loss }

-- this is why the volume of this number isn't open
abbrev pub IsNext : List Named → ℕ → Obstacle → Type 0
IsNext volumes n why = (named : Named) × (slice_get volumes n ≡ Some named) × IsOfWord named.word why

-- an end over so many volumes, as the words want it: over all of them, or up to one that wasn't opened
abbrev pub EndsAsAsked : Words → ℕ → Ending → Type 0
EndsAsAsked asked n (Unopened why) = IsNext asked.volumes n why
EndsAsAsked asked n (NoPost port fault) = (n ≡ length asked.volumes) × (port ≡ asked.options.port)
EndsAsAsked asked n (Ran way did) = (n ≡ length asked.volumes) × EndsBy n way asked.options.turns did.heard

-- the course by the words
abbrev pub Understood : Option Words → Course → Type 0
Understood asked Unread = Unit {0}
Understood asked Usage = asked ≡ None
Understood asked (Served starts ending all) = (given : Words) × (asked ≡ Some given) × EndsAsAsked given (length starts) ending

-- ---- what is said of the rigs

-- why a volume wasn't opened, if one wasn't, of its rig, if the host gave one
abbrev pub FoundLast : {R : Type 0} → RigGhosts R → OpenOptions → Option Obstacle → List R → List (ℕ × R) → Type 0
FoundLast r options None [] [] = Unit {0}
FoundLast r options (Some why) rigs backs = Hinders r options why rigs (map (λ back. back.1) backs)
FoundLast r options _ _ _ = ⊥

-- each volume was found, started and stopped so; after them comes the rig of one that wasn't opened, if the host gave it
abbrev pub FoundEach : {R : Type 0} → RigGhosts R → OpenOptions → Option Obstacle → List Start → List Stopped → List R → List (ℕ × R) → Type 0
FoundEach r options why (start ∷ starts) (stopped ∷ all) (rig ∷ rigs) (back ∷ backs) = IsFound r options rig back.1 start stopped × FoundEach r options why starts all rigs backs
FoundEach r options why [] [] rigs backs = FoundLast r options why rigs backs
FoundEach r options _ _ _ _ _ = ⊥

abbrev pub FoundAs : {R : Type 0} → RigGhosts R → OpenOptions → Course → List R → List (ℕ × R) → Type 0
FoundAs r options (Served starts ending all) rigs backs = FoundEach r options (obstacle_in ending) starts all rigs backs
FoundAs r options Unread rigs backs = rigs ≡ []
FoundAs r options Usage rigs backs = rigs ≡ []

-- MNT gave the roots of the volumes found
abbrev pub RootsOf : Course → List FileId → Type 0
RootsOf (Served starts ending all) roots = HasRoots ending roots
RootsOf Unread roots = Unit {0}
RootsOf Usage roots = Unit {0}

-- some rig's count rose
abbrev pub AnyRose : {R : Type 0} → (R → ℕ) → List R → List (ℕ × R) → Type 0
AnyRose faults (rig ∷ rigs) (back ∷ backs) = Rose (faults rig) (faults back.1) ⊎ AnyRose faults rigs backs
AnyRose faults [] backs = ⊥
AnyRose faults (rig ∷ rigs) [] = ⊥

-- What a run did that was asked for so.
pub record Outcome {S R L C P : Type 0} (h : Ghosts S R L C P) (say : SayGhosts S) (r : RigGhosts R) (l : LinkGhosts L) (c : ClockGhosts C) (asked : Option Words) (old new : S) (result : ℕ) : Type 0 where
  pub course : Course
  pub rigs : List R
  pub rig_backs : List (ℕ × R)
  pub volumes : List (List Hold)
  pub posts : List (Post L C P)
  pub post_backs : List (ℕ × Post L C P)
  -- every rig and post that the host gave came back
  pub rig_loan : Loan h.rigs_left h.rigs_back old new rigs rig_backs
  pub post_loan : Loan h.posts_left h.posts_back old new posts post_backs
  -- each volume's history and what is kept of it, and each worker's part of the histories
  pub kept : Volumes (Kept r) 0 rigs rig_backs volumes
  pub workers : Workers l (started_in course) 0 posts post_backs (dids_of course)
  pub shared : OfWorkers volumes (dids_of course)
  -- each battery was read as often as each clock's second changed, but for its first change
  pub polled : EachPair (λ rig rig'. EachPair (λ post post'. RoseBy (changes_in c post post') 0 (r.readings rig').count) posts post_backs) rigs rig_backs
  -- the status, the lines and their causes
  pub understood : Understood asked course
  pub found : FoundAs r (opening_of asked) course rigs rig_backs
  pub roots : r.tells → RootsOf course (map (λ rig. root_in (overlay_of r rig)) rigs)
  pub status : result ≡ status_of course
  pub said : Said say old new (lines_of course)
  pub device : result ≡ 74 → AnyRose r.faults rigs rig_backs
  pub host : result ≡ 66 → Rose (h.host_faults old) (h.host_faults new)
