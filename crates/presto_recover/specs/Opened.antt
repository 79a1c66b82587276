-- A unit was opened.
use Rattle.std.specs.Prelude.{◌≡◌, ◌≤◌, ◌+◌, ℕ, Bool, true, [], Option, None, Some}
use Rattle.stable.specs.Moments.{LeavesOnly}
use Rattle.stable.specs.declared.state.Cause.{Cause}
use Rattle.stable.specs.declared.state.State.{State}
use Rattle.stable.specs.declared.state.State.TheVariants.{Down, Error}
use Rattle.rig.specs.Devices.{Devices, Sizes}
use Rattle.rig.specs.declared.rig.Rig.{Ghosts}
use Rattle.nvram_map.specs.Overlay.{NoEntry}
use Rattle.nvram_map.specs.Words.{IsBoardOf}
use Rattle.presto_cache.specs.Cache.{entries_of}
use Rattle.presto_cache.specs.declared.cache.Cache.{Cache}
use Rattle.presto_unit.specs.Flushing.{AreFlushed}
use Rattle.presto_unit.specs.Opening.{title_of}
use Rattle.presto_unit.specs.Parts.{rig_of, cache_of, state_of, changes_of, tally_of}
use Rattle.presto_unit.specs.Shown.{dirty_in, AreNone}
use Rattle.presto_recover.specs.Boards.{IsAccepted, IsLoss, HasFound}
use Rattle.presto_recover.specs.Recovering.{Recovers}
use Rattle.presto_recover.specs.declared.parts.Opened.{Opened}

-- the state after a flush of all: DOWN, or an error by the first failure
abbrev pub starts_after : Option Cause → State
starts_after None = Down
starts_after (Some why) = Error why

-- Each entry of that cache was tried once, in order: those that failed are left, and the others are recovered. `before` is the count of faults before.
pub record StartsBy {R : Type 0} {r : Ghosts R} (before : ℕ) (cache : Cache) (opened : Opened R r) : Type 0 where
  pub first : Option Cause
  pub flushed : AreFlushed first before (r.faults (rig_of opened.presto)) (entries_of cache) (entries_of (cache_of opened.presto))
  pub recovered : opened.recovered + dirty_in (cache_of opened.presto) ≡ dirty_in cache
  pub state : state_of opened.presto ≡ starts_after first
  pub tally : AreNone (tally_of opened.presto)
  pub changes : changes_of opened.presto ≡ []

-- A lost board was formatted for the volume and marked as kept: it has no entry, and the disk is as it was found.
pub record IsBegunAnew (sizes : Sizes) (found now : Devices) : Type 0 where
  pub board_is : IsBoardOf sizes (title_of found.disk) now
  pub empty : NoEntry now
  pub kept : now.kept ≡ true
  pub disk : now.disk ≡ found.disk

-- A unit was opened on the rig that was found: its board was accepted, and each entry found was tried once.
pub record IsOpened {R : Type 0} (r : Ghosts R) (accepted : Bool) (found : R) (opened : Opened R r) : Type 0 where
  pub sectors : 2 ≤ (r.sizes found).sectors
  pub accepted_as : r.tells → IsAccepted (r.sizes found) accepted (r.contents found) opened.lost
  pub loss : IsLoss opened.lost (r.is_kept found) accepted
  pub begun_anew : r.tells → opened.lost ≡ true → IsBegunAnew (r.sizes found) (r.contents found) (r.contents (rig_of opened.presto))
  pub read : Cache
  pub has_found : HasFound r found read
  pub starts : StartsBy (r.faults found) read opened
  pub crash : LeavesOnly r.moment r.left_since found (rig_of opened.presto) (Recovers (r.sizes found) (r.contents found))
  pub sizes : r.sizes (rig_of opened.presto) ≡ r.sizes found
  pub readings : r.readings (rig_of opened.presto) ≡ r.readings found
