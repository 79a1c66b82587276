-- How a volume was started.
use Rattle.std.specs.Prelude.{◌≡◌, ℕ, Bool, true, false, List}
use Rattle.stable.specs.declared.battery.Battery.{Battery}
use Rattle.stable.specs.declared.battery.Battery.TheVariants.{Good, Low}
use Rattle.stable.specs.declared.snapshot.Snapshot.{Snapshot}
use Rattle.stable.specs.declared.state.State.{State}
use Rattle.stable.specs.declared.state.State.TheVariants.{Up, Down, Error}

-- How a volume was started: its name; how many entries of its board were recovered; whether the board's loss was accepted; its state after that and the
-- opening of the volume, what the battery was read as then, and its state after Up.
pub record Start : Type 0 where
  pub name : List ℕ
  pub recovered : ℕ
  pub lost : Bool
  pub opened : State
  pub battery : Battery
  pub state : State

-- the state after Up, where it isn't to stay DOWN; the battery is the one that was read
abbrev pub state_after : Bool → State → Battery → State
state_after true opened battery = opened
state_after false Up battery = Up
state_after false Down Good = Up
state_after false Down Low = Down
state_after false (Error why) battery = Error why

-- A volume was started: it was commanded Up, or nothing was done.
pub record IsStarted (down : Bool) (old new : Snapshot) : Type 0 where
  pub state : new.state ≡ state_after down old.state new.battery
  pub dirty : new.dirty ≡ old.dirty
  pub polls : new.polls ≡ old.polls
  pub puts : new.puts ≡ old.puts
