-- How volumes are opened and started, one after the other.
use Rattle.std.specs.Prelude.{◌≡◌, ◌≢◌, ◌≤◌, ℕ, ◌+◌, Bool, false, List, [], ◌∷◌, ◌++◌, length, slice_get, Some}
use Rattle.std.specs.Option.{option_map}
use Rattle.stable.specs.Counts.{Rose, RoseBy}
use Rattle.stable.specs.declared.state.State.TheVariants.{Up}
use Rattle.stable.specs.declared.store.Stable.{Ghosts as StoreGhosts}
use Rattle.rig.specs.Hosts.{SameLoans}
use Rattle.rig.specs.declared.host.Host.{Ghosts as HostGhosts}
use Rattle.rig.specs.declared.rig.Rig.{Ghosts}
use Rattle.rig.specs.declared.say.Say.{Ghosts as SayGhosts}
use Rattle.presto_recover.specs.Opened.{IsOpened}
use Rattle.presto_recover.specs.declared.parts.Opened.{Opened}
use Rattle.presto_unit.specs.declared.presto.Presto.{Presto}
use Rattle.v7_map.specs.Frame.{frame}
use Rattle.v7_map.specs.Weak.{IsWeak}
use Rattle.v7_damage.specs.Undamaged.{IsFaultOf}
use Rattle.v7_damage.specs.declared.damage.RepairFault.{RepairFault}
use Rattle.v7_damage.specs.declared.damage.RepairFault.TheVariants as repair
use Rattle.volume.specs.Mounted.{store_of, name_of, root_of, is_hurt}
use Rattle.volume.specs.Opens.{name_in, root_in}
use Rattle.volume.specs.Rests.{Rests}
use Rattle.volume.specs.declared.mounted.Volume.{Volume}
use Rattle.run_lines.specs.Overlays.{overlay_of, unit_store}
use Rattle.run_lines.specs.Refusals.{Refuses}
use Rattle.run_lines.specs.Told.{Said, Told}
use Rattle.run_lines.specs.declared.refusing.Refusal.{Refusal}
use Rattle.nfs_worker.specs.Account.{Grew}
use Rattle.server_volumes.specs.Lines.{start_lines, starts_lines}
use Rattle.server_volumes.specs.Obstacles.{Obstacle, Hinders, IsOfWord, obstacle_line, obstacle_status}
use Rattle.server_volumes.specs.Starts.{Start, state_after}
use Rattle.server_volumes.specs.declared.opening.OpenOptions.{OpenOptions}
use Rattle.server_volumes.specs.declared.starting.Recovery.{Recovery}

-- ---- on a store

-- A volume, which was open on its store, was started, and this was said of it.
pub record Begins {S R L C P V : Type 0} (h : HostGhosts S R L C P) (say : SayGhosts S) (s : StoreGhosts V) (down : Bool) (recovery : Recovery) (number : ℕ) (before after : S) (old new : Volume V) : Type 0 where
  pub start : Start
  pub told : Told h say before after (start_lines number start)
  pub rest : Rests s new
  pub sound : is_hurt new ≡ is_hurt old
  pub root : root_of new ≡ root_of old
  pub grows : Grew s (store_of old) (store_of new) []
  pub named : start.name ≡ name_of old
  pub recovered : start.recovered ≡ recovery.recovered
  pub lost : start.lost ≡ recovery.lost
  pub opened : start.opened ≡ (s.snapshot_of (store_of old)).state
  pub started : start.state ≡ state_after down start.opened start.battery
  pub polls : (s.snapshot_of (store_of new)).polls ≡ (s.snapshot_of (store_of old)).polls

-- A volume, which could be mended, was opened on a store and started so. A store that isn't UP stays in its state till then.
pub record IsOpenOn {V : Type 0} (s : StoreGhosts V) (down : Bool) (recovery : Recovery) (store : V) (volume : Volume V) (start : Start) : Type 0 where
  pub rest : Rests s volume
  pub sound : is_hurt volume ≡ false
  pub grows : Grew s store (store_of volume) []
  pub weak : s.tells → IsWeak (frame (s.image store))
  pub named : s.tells → start.name ≡ name_in (s.image store)
  pub rooted : s.tells → root_of volume ≡ root_in (s.image store)
  pub recovered : start.recovered ≡ recovery.recovered
  pub lost : start.lost ≡ recovery.lost
  pub opened : (s.snapshot_of store).state ≢ Up → start.opened ≡ (s.snapshot_of store).state
  pub started : start.state ≡ state_after down start.opened start.battery
  pub polls : (s.snapshot_of (store_of volume)).polls ≡ (s.snapshot_of store).polls

-- and this was said of it
pub record OpensOn {S R L C P V : Type 0} (h : HostGhosts S R L C P) (say : SayGhosts S) (s : StoreGhosts V) (down : Bool) (recovery : Recovery) (number : ℕ) (old new : S) (store : V) (volume : Volume V) : Type 0 where
  pub start : Start
  pub told : Told h say old new (start_lines number start)
  pub on : IsOpenOn s down recovery store volume start

-- There is no volume that can be served on a store: the damage is that of the first test that fails; nothing has changed, or a device failed.
pub record IsRefusedAs {V : Type 0} (s : StoreGhosts V) (store store' : V) (fault : RepairFault) : Type 0 where
  pub damage : s.tells → IsFaultOf (s.image store) fault
  pub same : s.tells → fault ≢ repair.Failed → s.image store' ≡ s.image store
  pub failed : fault ≡ repair.Failed → Rose (s.faults store) (s.faults store')
  pub grows : Grew s store store' []

-- ---- on a rig

-- what the opening of disk and board came to
abbrev pub recovery_of : {R : Type 0} {r : Ghosts R} → Opened R r → Recovery
recovery_of opened = record { recovered = opened.recovered; lost = opened.lost }

-- Disk and board of a rig were opened, and a volume on them was opened and started so.
pub record IsOpenOver {R : Type 0} (r : Ghosts R) (options : OpenOptions) (rig : R) (volume : Volume (Presto R r)) (start : Start) : Type 0 where
  pub opened : Opened R r
  pub is : IsOpened r options.accept_loss rig opened
  pub on : IsOpenOn (unit_store r) options.down (recovery_of opened) opened.presto volume start
  pub rooted : r.tells → root_of volume ≡ root_in (overlay_of r rig)

-- and this was said of it
pub record OpensOver {S H R L C P : Type 0} (h : HostGhosts S H L C P) (say : SayGhosts S) (r : Ghosts R) (options : OpenOptions) (number : ℕ) (old new : S) (rig : R) (volume : Volume (Presto R r)) : Type 0 where
  pub start : Start
  pub told : Told h say old new (start_lines number start)
  pub over : IsOpenOver r options rig volume start

-- No volume was opened on a rig; the refusal says why, and nothing was said yet.
pub record HindersOver {S H R L C P : Type 0} (h : HostGhosts S H L C P) (say : SayGhosts S) (r : Ghosts R) (options : OpenOptions) (number : ℕ) (old new : S) (rig back : R) (refusal : Refusal) : Type 0 where
  pub obstacle : Obstacle
  pub refuses : Refuses (obstacle_status obstacle) (obstacle_line number obstacle) refusal
  pub hinders : Hinders r options obstacle (rig ∷ []) (back ∷ [])
  pub told : Told h say old new []

-- each volume was opened over its rig and started so
abbrev pub EachOpen : {R : Type 0} (r : Ghosts R) → OpenOptions → List R → List (Volume (Presto R r)) → List Start → Type 0
EachOpen r options [] [] [] = Unit {0}
EachOpen r options (rig ∷ rigs) (volume ∷ volumes) (start ∷ starts) = IsOpenOver r options rig volume start × EachOpen r options rigs volumes starts
EachOpen r options _ _ _ = ⊥

-- ---- of a host

-- A host gave these rigs since, and they are out; it took nothing back, and gave no post.
pub record HasGiven {S R L C P : Type 0} (h : HostGhosts S R L C P) (old new : S) (rigs : List R) : Type 0 where
  pub lent : h.rigs_left old ≡ option_map (λ rest. rigs ++ rest) (h.rigs_left new)
  pub back : h.rigs_back new ≡ h.rigs_back old
  pub out : RoseBy (length rigs) (h.rigs_out old) (h.rigs_out new)
  pub posts : SameLoans h.posts_left h.posts_back h.posts_out old new
  pub later : h.host_faults old ≤ h.host_faults new

-- Volumes were opened over rigs of a host, one after the other, started so, and this was said.
pub record OpensAll {S R L C P : Type 0} (h : HostGhosts S R L C P) (say : SayGhosts S) (r : Ghosts R) (options : OpenOptions) (old new : S) (volumes : List (Volume (Presto R r))) : Type 0 where
  pub rigs : List R
  pub starts : List Start
  pub given : HasGiven h old new rigs
  pub each : EachOpen r options rigs volumes starts
  pub said : Said say old new (starts_lines 0 starts)

-- A volume was opened over a rig that the host gave.
pub record OpensOne {S R L C P : Type 0} (h : HostGhosts S R L C P) (say : SayGhosts S) (r : Ghosts R) (options : OpenOptions) (number : ℕ) (old new : S) (volume : Volume (Presto R r)) : Type 0 where
  pub rig : R
  pub start : Start
  pub given : HasGiven h old new (rig ∷ [])
  pub over : IsOpenOver r options rig volume start
  pub said : Said say old new (start_lines number start)

-- No volume of this number and word was opened, and the refusal says why; nothing was said yet. `back` is the rig that the host gave, if it gave one.
pub record OpensNone {S R L C P : Type 0} (h : HostGhosts S R L C P) (say : SayGhosts S) (r : Ghosts R) (options : OpenOptions) (number : ℕ) (word : List ℕ) (old new : S) (back : List R) (refusal : Refusal) : Type 0 where
  pub obstacle : Obstacle
  pub refuses : Refuses (obstacle_status obstacle) (obstacle_line number obstacle) refusal
  pub of_word : IsOfWord word obstacle
  pub rigs : List R
  pub given : HasGiven h old new rigs
  pub hinders : Hinders r options obstacle rigs back
  pub host : obstacle_status obstacle ≡ 66 → Rose (h.host_faults old) (h.host_faults new)
  pub said : Said say old new []

-- Volumes were opened one after the other, and the one of the next word wasn't.
pub record OpensSome {S R L C P : Type 0} (h : HostGhosts S R L C P) (say : SayGhosts S) (r : Ghosts R) (options : OpenOptions) (words : List (List ℕ)) (old new : S) (volumes : List (Volume (Presto R r))) (back : List R) (refusal : Refusal) : Type 0 where
  pub mid : S
  pub opens : OpensAll h say r options old mid volumes
  pub word : List ℕ
  pub next : slice_get words (length volumes) ≡ Some word
  pub none : OpensNone h say r options (length volumes) word mid new back refusal
