-- What a unit shows of itself, and how tending changes it.
use Rattle.std.specs.Prelude.{◌≡◌, ◌≢◌, ◌⊎◌, ◌<◌, ℕ, None, Some, length}
use Rattle.stable.specs.Counts.{one_more}
use Rattle.stable.specs.Moments.{LeavesOnly}
use Rattle.stable.specs.declared.battery.Battery.TheVariants.{Low}
use Rattle.stable.specs.declared.command.FlushAnswer.{FlushAnswer}
use Rattle.stable.specs.declared.command.FlushAnswer.TheVariants.{Flushed, Nothing, Stuck}
use Rattle.stable.specs.declared.snapshot.Snapshot.{Snapshot}
use Rattle.stable.specs.declared.state.State.{State}
use Rattle.stable.specs.declared.state.State.TheVariants.{Up, Down}
use Rattle.rig.specs.Devices.{IsRead, Unchanged}
use Rattle.rig.specs.declared.rig.Rig.{Ghosts}
use Rattle.presto_cache.specs.Cache.{entries_of}
use Rattle.presto_cache.specs.Entries.{oldest_in}
use Rattle.presto_cache.specs.declared.cache.Cache.{Cache}
use Rattle.presto_unit.specs.Flushing.{IsSent, IsStuck}
use Rattle.presto_unit.specs.declared.tally.Tally.{Tally}

-- how many entries are set or in doubt
abbrev pub dirty_in : Cache → ℕ
dirty_in cache = length (entries_of cache)

-- its snapshot
abbrev pub shown : State → Cache → Tally → Snapshot
shown state cache tally = record { state = state; dirty = dirty_in cache; battery = tally.battery; puts = tally.puts; polls = tally.polls; ups = tally.ups; tries = tally.tries }

-- Nothing was counted yet.
pub record AreNone (tally : Tally) : Type 0 where
  pub battery : tally.battery ≡ Low
  pub puts : tally.puts ≡ 0
  pub polls : tally.polls ≡ 0
  pub ups : tally.ups ≡ 0
  pub tries : tally.tries ≡ 0

-- The battery was read, or not: nothing else of the rig has changed.
pub record BatteryAsked {R : Type 0} (r : Ghosts R) (old new : R) : Type 0 where
  pub contents : r.contents new ≡ r.contents old
  pub crash : LeavesOnly r.moment r.left_since old new (Unchanged (r.contents old))
  pub faults : r.faults new ≡ r.faults old
  pub sizes : r.sizes new ≡ r.sizes old
  pub is_kept : r.is_kept new ≡ r.is_kept old
  pub disk_writes : r.disk_writes new ≡ r.disk_writes old

-- Up in DOWN reads the battery and counts that; nothing else is counted.
pub record CountsUp {R : Type 0} (r : Ghosts R) (from : State) (old new : R) (was is : Tally) : Type 0 where
  pub read : from ≡ Down → IsRead (r.readings old) is.battery (r.readings new)
  pub ups : from ≡ Down → is.ups ≡ one_more was.ups
  pub unread : from ≢ Down → (r.readings new ≡ r.readings old) × (is.battery ≡ was.battery) × (is.ups ≡ was.ups)
  pub puts : is.puts ≡ was.puts
  pub polls : is.polls ≡ was.polls
  pub tries : is.tries ≡ was.tries

-- Up leads to UP from UP, or from DOWN where there is a board; and to DOWN from DOWN alone.
pub record LeadsUp (from to : State) (buffers : ℕ) : Type 0 where
  pub up : to ≡ Up → (from ≡ Up) ⊎ ((from ≡ Down) × (0 < buffers))
  pub down : to ≡ Down → from ≡ Down

-- what each answer of a flush of one says of the entries
abbrev pub FlushAnswers : FlushAnswer → Cache → Cache → Type 0
FlushAnswers Flushed old new = (index : ℕ) × (oldest_in (entries_of old) ≡ Some index) × IsSent index old new
FlushAnswers Nothing old new = (oldest_in (entries_of old) ≡ None) × (new ≡ old)
FlushAnswers Stuck old new = (index : ℕ) × (oldest_in (entries_of old) ≡ Some index) × IsStuck index old new
