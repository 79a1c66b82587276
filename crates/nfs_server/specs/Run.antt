-- What a run does over volumes that were opened (docs/CALLS.md, "A run").
use Rattle.std.specs.Prelude.{◌≡◌, ℕ, ◌+◌, ◌-◌, ◌≤◌, List, [], ◌∷◌, ◌++◌, length, map, Option, None}
use Rattle.std.specs.Option.{option_map}
use Rattle.stable.specs.Counts.{Rose}
use Rattle.stable.specs.declared.store.Stable.{Ghosts as StoreGhosts}
use Rattle.rig.specs.Hosts.{SameLoans, SameLines}
use Rattle.rig.specs.Links.{gains}
use Rattle.rig.specs.declared.clock.Clock.{Ghosts as ClockGhosts}
use Rattle.rig.specs.declared.host.Host.{Ghosts}
use Rattle.rig.specs.declared.host.HostFault.{HostFault}
use Rattle.rig.specs.declared.host.Post.{Post}
use Rattle.rig.specs.declared.link.Link.{Ghosts as LinkGhosts}
use Rattle.rig.specs.declared.rig.Rig.{Ghosts as RigGhosts}
use Rattle.rig.specs.declared.say.Say.{Ghosts as SayGhosts}
use Rattle.files_model.specs.declared.attributes.FileId.{FileId}
use Rattle.mount1.specs.Rows.{Kept as Mounted}
use Rattle.presto_unit.specs.declared.presto.Presto.{Presto}
use Rattle.volume.specs.Mounted.{root_of}
use Rattle.volume.specs.declared.mounted.Volume.{Volume}
use Rattle.run_lines.specs.Refusals.{host_line, host_status}
use Rattle.run_lines.specs.Told.{Said, Loan}
use Rattle.run_lines.specs.declared.refusing.Refusal.{Refusal}
use Rattle.nfs_worker.specs.Account.{Hold}
use Rattle.nfs_worker.specs.Sharing.{OfWorkers}
use Rattle.nfs_worker.specs.Turns.{Did, EndsBy, Went, datagrams}
use Rattle.nfs_worker.specs.Volumes.{EachVolume}
use Rattle.nfs_worker.specs.Worker.{worker_of, Works}
use Rattle.nfs_worker.specs.declared.desk.Desk.{Desk}
use Rattle.nfs_worker.specs.declared.pass.Numbers.{Numbers}
use Rattle.nfs_worker.specs.declared.turning.Ended.{Ended}
use Rattle.server_volumes.specs.Ends.{EachServed, no_holds}
use Rattle.server_volumes.specs.Opens.{EachOpen}
use Rattle.server_volumes.specs.Starts.{Start}
use Rattle.server_volumes.specs.declared.opening.OpenOptions.{OpenOptions}
use Rattle.server_volumes.specs.declared.stopping.Stopped.{Stopped}
use Rattle.nfs_server.specs.Course.{Ending, Unopened, NoPost, Ran, closing_lines, closing_status, dids_in, ending_lines, ending_status, first_failed}
use Rattle.nfs_server.specs.Lines.{no_port_line}

-- ---- pairs of what was lent and what came back

-- this holds of each thing that was lent and the one that came back for it
abbrev pub EachPair : {A : Type 0} → (A → A → Type 0) → List A → List (ℕ × A) → Type 0
EachPair P [] [] = Unit {0}
EachPair P (x ∷ xs) (back ∷ backs) = P x back.1 × EachPair P xs backs
EachPair P _ _ = ⊥

-- each thing with its number, of which this is the first
abbrev pub numbered : {A : Type 0} → ℕ → List A → List (ℕ × A)
numbered n [] = []
numbered n (x ∷ xs) = (n, x) ∷ numbered (n + 1) xs

-- the list of mounts at the beginning, where so many volumes are open
abbrev pub no_mounts : ℕ → Mounted
no_mounts volumes = record { volumes = volumes; rows = [] }

-- Each post came back under its number, and its worker did this. No machine had mounted anything before.
abbrev pub Workers : {L C P : Type 0} → LinkGhosts L → ℕ → ℕ → List (Post L C P) → List (ℕ × Post L C P) → List Did → Type 0
Workers l volumes n [] [] [] = Unit {0}
Workers l volumes n (post ∷ posts) (back ∷ backs) (did ∷ dids) =
    (back.0 ≡ n) × ((did.desk.mounts ≡ no_mounts volumes) × Works volumes n did.desk did.then (worker_of l post.link) (worker_of l back.1.link) did.heard did.own did.replies) × Workers l volumes (n + 1) posts backs dids
Workers l volumes n _ _ _ = ⊥

-- how often a clock's second changed between two posts, but for the first change
abbrev pub changes_in : {L C P : Type 0} → ClockGhosts C → Post L C P → Post L C P → ℕ
changes_in c post post' = c.changes post'.clock - c.changes post.clock - 1

-- ---- the worker

-- The worker ran over its post, and the post came back. Nothing was said.
pub record RanPost {S R L C P V : Type 0} (h : Ghosts S R L C P) (say : SayGhosts S) (l : LinkGhosts L) (c : ClockGhosts C) (s : StoreGhosts V) (old new : S) (volumes news : List (Volume V)) (desk : Desk) (post : Post L C P) (turns : ℕ) (way : Ended) (numbers : Numbers) : Type 0 where
  pub did : Did
  pub back : Post L C P
  pub holds : List (List Hold)
  pub rigs : SameLoans h.rigs_left h.rigs_back h.rigs_out old new
  pub left : h.posts_left new ≡ h.posts_left old
  pub returned : h.posts_back new ≡ gains (h.posts_back old) (0, back)
  pub faults : h.host_faults new ≡ h.host_faults old
  pub lines : SameLines say.lines say.say_faults old new
  pub began : did.desk ≡ desk
  pub works : Works (length volumes) 0 did.desk did.then (worker_of l post.link) (worker_of l back.link) did.heard did.own did.replies
  pub went : EachVolume (Went s (changes_in c post back) did.own) 0 volumes news holds
  pub ends : EndsBy (length volumes) way turns did.heard
  pub received : numbers.received ≡ datagrams did.heard
  pub answered : numbers.answered ≡ length did.replies

-- ---- a run over open volumes

-- each volume was served, as it was opened and started, and its battery read so often at least
abbrev pub ServesEach : {R : Type 0} (r : RigGhosts R) → ℕ → List (Volume (Presto R r)) → List (ℕ × R) → List Stopped → List (List Hold) → Type 0
ServesEach {R} r times volumes backs all holds = (options : OpenOptions) (rigs : List R) (starts : List Start) → EachOpen r options rigs volumes starts → EachServed r options times 0 rigs backs starts all holds

-- The volumes were stopped, which were opened before one that wasn't; its rig, if the host gave one, came back too; and the line was said that says why.
pub record StopsRest {S R L C P : Type 0} (h : Ghosts S R L C P) (say : SayGhosts S) (r : RigGhosts R) (old new : S) (volumes : List (Volume (Presto R r))) (rest : List R) (refusal : Refusal) (result : ℕ) : Type 0 where
  pub stops : List Stopped
  pub backs : List (ℕ × R)
  pub left : h.rigs_left new ≡ h.rigs_left old
  pub returned : h.rigs_back new ≡ option_map (λ before. before ++ (backs ++ numbered (length volumes) rest)) (h.rigs_back old)
  pub posts : SameLoans h.posts_left h.posts_back h.posts_out old new
  pub faults : h.host_faults new ≡ h.host_faults old
  pub served : ServesEach r 0 volumes backs stops (no_holds volumes)
  pub status : result ≡ refusal.status
  pub said : Said say old new (refusal.line.bytes ∷ [])

-- The rig of a volume that wasn't opened was given back under its number, if there is one. Nothing else was asked of the host.
pub record GivesBack {S R L C P : Type 0} (h : Ghosts S R L C P) (say : SayGhosts S) (number : ℕ) (rest : List R) (old new : S) : Type 0 where
  pub left : h.rigs_left new ≡ h.rigs_left old
  pub returned : h.rigs_back new ≡ option_map (λ before. before ++ numbered number rest) (h.rigs_back old)
  pub posts : SameLoans h.posts_left h.posts_back h.posts_out old new
  pub lines : SameLines say.lines say.say_faults old new
  pub faults : h.host_faults new ≡ h.host_faults old

-- The host gave no post at this port, or there was no memory: the volumes were stopped.
pub record RefusesPost {S R L C P : Type 0} (h : Ghosts S R L C P) (say : SayGhosts S) (r : RigGhosts R) (port : ℕ) (fault : HostFault) (old new : S) (volumes : List (Volume (Presto R r))) (result : ℕ) : Type 0 where
  pub stops : List Stopped
  pub backs : List (ℕ × R)
  pub left : h.rigs_left new ≡ h.rigs_left old
  pub returned : h.rigs_back new ≡ option_map (λ before. before ++ backs) (h.rigs_back old)
  pub posts : SameLoans h.posts_left h.posts_back h.posts_out old new
  pub faults : h.host_faults new ≡ h.host_faults old
  pub served : ServesEach r 0 volumes backs stops (no_holds volumes)
  pub status : result ≡ host_status fault
  pub said : Said say old new (host_line (no_port_line port) fault ∷ [])

-- The worker ran over its post, the volumes were stopped, and the closing lines were said.
pub record ServesPost {S R L C P : Type 0} (h : Ghosts S R L C P) (say : SayGhosts S) (r : RigGhosts R) (l : LinkGhosts L) (c : ClockGhosts C) (turns : ℕ) (old new : S) (volumes : List (Volume (Presto R r))) (desk : Desk) (post : Post L C P) (result : ℕ) : Type 0 where
  pub did : Did
  pub back : Post L C P
  pub way : Ended
  pub stops : List Stopped
  pub holds : List (List Hold)
  pub backs : List (ℕ × R)
  pub left : h.rigs_left new ≡ h.rigs_left old
  pub returned : h.rigs_back new ≡ option_map (λ before. before ++ backs) (h.rigs_back old)
  pub posts_left : h.posts_left new ≡ h.posts_left old
  pub posts_back : h.posts_back new ≡ gains (h.posts_back old) (0, back)
  pub faults : h.host_faults new ≡ h.host_faults old
  pub began : did.desk ≡ desk
  pub works : Works (length volumes) 0 did.desk did.then (worker_of l post.link) (worker_of l back.link) did.heard did.own did.replies
  pub served : ServesEach r (changes_in c post back) volumes backs stops holds
  pub shared : OfWorkers holds (did ∷ [])
  pub ends : EndsBy (length volumes) way turns did.heard
  pub status : result ≡ closing_status way (first_failed 0 stops)
  pub said : Said say old new (closing_lines stops way (datagrams did.heard) (length did.replies))

-- what the end says of the events that the worker took
abbrev pub EndsAs : ℕ → ℕ → ℕ → Ending → Type 0
EndsAs volumes port turns (Ran way did) = EndsBy volumes way turns did.heard
EndsAs volumes port turns (NoPost at fault) = at ≡ port
EndsAs volumes port turns (Unopened why) = ⊥

-- MNT gave these roots, if a worker ran
abbrev pub HasRoots : Ending → List FileId → Type 0
HasRoots (Ran way did) roots = did.desk.roots ≡ roots
HasRoots (NoPost port fault) roots = Unit {0}
HasRoots (Unopened why) roots = Unit {0}

-- A worker ran over open volumes, or the host gave no post; then they were stopped, and the closing lines said.
pub record RunsOver {S R L C P : Type 0} (h : Ghosts S R L C P) (say : SayGhosts S) (r : RigGhosts R) (l : LinkGhosts L) (c : ClockGhosts C) (port turns : ℕ) (old new : S) (volumes : List (Volume (Presto R r))) (result : ℕ) : Type 0 where
  pub ending : Ending
  pub stops : List Stopped
  pub holds : List (List Hold)
  pub times : ℕ
  pub backs : List (ℕ × R)
  pub posts : List (Post L C P)
  pub post_backs : List (ℕ × Post L C P)
  pub left : h.rigs_left new ≡ h.rigs_left old
  pub returned : h.rigs_back new ≡ option_map (λ before. before ++ backs) (h.rigs_back old)
  pub post_loan : Loan h.posts_left h.posts_back old new posts post_backs
  pub served : ServesEach r times volumes backs stops holds
  pub polled : EachPair (λ post post'. changes_in c post post' ≤ times) posts post_backs
  pub workers : Workers l (length volumes) 0 posts post_backs (dids_in ending)
  pub shared : OfWorkers holds (dids_in ending)
  pub ends : EndsAs (length volumes) port turns ending
  pub roots : HasRoots ending (map root_of volumes)
  pub status : result ≡ ending_status ending stops
  pub said : Said say old new (ending_lines (length volumes) ending stops)
  pub host : result ≡ 66 → Rose (h.host_faults old) (h.host_faults new)
  pub later : h.host_faults old ≤ h.host_faults new
