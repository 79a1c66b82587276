-- The states of a tended store, and what moves it from one to another (docs/DEVICES.md, "States").
use Rattle.std.specs.Prelude.{◌≡◌, ◌≢◌, ◌⊎◌, ◌+◌, ◌%◌, ◌^◌, ◌≤◌, ℕ, zero, suc}
use Rattle.stable.specs.Counts.{Rose, RoseBy, one_more}
use Rattle.stable.specs.declared.battery.Battery.{Battery}
use Rattle.stable.specs.declared.battery.Battery.TheVariants.{Good, Low}
use Rattle.stable.specs.declared.state.Cause.{Cause}
use Rattle.stable.specs.declared.state.Cause.TheVariants as cause
use Rattle.stable.specs.declared.state.State.{State}
use Rattle.stable.specs.declared.state.State.TheVariants.{Up, Down, Error}
use Rattle.stable.specs.declared.command.Command.{Command}
use Rattle.stable.specs.declared.command.Command.TheVariants as command
use Rattle.stable.specs.declared.command.Answer.{Answer}
use Rattle.stable.specs.declared.command.Answer.TheVariants as answer
use Rattle.stable.specs.declared.command.FlushAnswer.{FlushAnswer}
use Rattle.stable.specs.declared.command.FlushAnswer.TheVariants as flush
use Rattle.stable.specs.declared.snapshot.Snapshot.{Snapshot}

-- an error that a failed device gives
abbrev pub IsDeviceError : State → Type 0
IsDeviceError Up = ⊥
IsDeviceError Down = ⊥
IsDeviceError (Error cause.Disk) = Unit {0}
IsDeviceError (Error cause.Board) = Unit {0}
IsDeviceError (Error cause.Battery) = ⊥

-- while a device is asked the state stays; or it was UP and a device failed
abbrev pub StaysOrFails : State → State → ℕ → ℕ → Type 0
StaysOrFails old new before now = (new ≡ old) ⊎ ((old ≡ Up) × (IsDeviceError new × Rose before now))

-- what a reading of the battery makes of a state, with so many sectors dirty
abbrev pub after_poll : State → ℕ → Battery → State
after_poll Up dirty Low = Error cause.Battery
after_poll (Error cause.Battery) zero Good = Up
after_poll state dirty battery = state

-- what a command that left so many sectors dirty answers, and the state then; the battery is the one that it read, and the cause that of its first failure
abbrev pub after_command : State → Command → Battery → Cause → ℕ → Answer × State
after_command Down command.Up Good why dirty = (answer.Done, Up)
after_command Down command.Up Low why dirty = (answer.BatteryLow, Down)
after_command Up command.Up battery why dirty = (answer.Done, Up)
after_command (Error was) command.Up battery why dirty = (answer.NotDown, Error was)
after_command state command.Down battery why zero = (answer.Done, Down)
after_command Up command.Down battery why (suc n) = (answer.Left (suc n), Error why)
after_command Down command.Down battery why (suc n) = (answer.Left (suc n), Error why)
after_command (Error was) command.Down battery why (suc n) = (answer.Left (suc n), Error was)
after_command Up command.Flush battery why zero = (answer.Done, Up)
after_command Up command.Flush battery why (suc n) = (answer.Left (suc n), Error why)
after_command Down command.Flush battery why dirty = (answer.Done, Down)
after_command (Error was) command.Flush battery why zero = (answer.Done, Error was)
after_command (Error was) command.Flush battery why (suc n) = (answer.Left (suc n), Error was)
after_command Up command.Reset battery why dirty = (answer.Done, Up)
after_command Down command.Reset battery why dirty = (answer.Done, Down)
after_command (Error was) command.Reset battery why zero = (answer.Done, Down)
after_command (Error was) command.Reset battery why (suc n) = (answer.Left (suc n), Error was)

-- the battery is read by Up in DOWN alone
abbrev pub reads_battery : State → Command → Type 0
reads_battery Down command.Up = Unit {0}
reads_battery state c = ⊥

-- So many puts were made. A put leaves UP only where a device failed; it makes one sector dirty at most, and none in another state.
pub record ArePuts (count : ℕ) (before now : ℕ) (old new : Snapshot) : Type 0 where
  pub puts : new.puts ≡ (old.puts + count) % 2 ^ 64
  pub state : StaysOrFails old.state new.state before now
  pub few : new.dirty ≤ old.dirty + count
  pub dirty : old.state ≢ Up → new.dirty ≤ old.dirty
  pub battery : new.battery ≡ old.battery
  pub polls : new.polls ≡ old.polls
  pub ups : new.ups ≡ old.ups
  pub tries : new.tries ≡ old.tries

-- The battery was polled.
pub record IsPolled (read : Battery) (old new : Snapshot) : Type 0 where
  pub state : new.state ≡ after_poll old.state old.dirty read
  pub dirty : new.dirty ≡ old.dirty
  pub battery : new.battery ≡ read
  pub puts : new.puts ≡ old.puts
  pub polls : new.polls ≡ one_more old.polls
  pub ups : new.ups ≡ old.ups
  pub tries : new.tries ≡ old.tries

-- what each answer of a flush says: the oldest dirty sector was tried, or nothing is dirty
abbrev pub Flushes : FlushAnswer → ℕ → ℕ → Snapshot → Snapshot → Type 0
Flushes flush.Flushed before now old new = (old.dirty ≡ new.dirty + 1) × ((new.state ≡ old.state) × (new.tries ≡ one_more old.tries))
Flushes flush.Nothing before now old new = (old.dirty ≡ 0) × (new ≡ old)
Flushes flush.Stuck before now old new =
    (1 ≤ old.dirty) × ((new.dirty ≡ old.dirty) × (Rose before now × (StaysOrFails old.state new.state before now × ((old.state ≡ Up → IsDeviceError new.state) × (new.tries ≡ one_more old.tries)))))

-- One dirty sector was tried.
pub record IsFlushed (result : FlushAnswer) (before now : ℕ) (old new : Snapshot) : Type 0 where
  pub answer : Flushes result before now old new
  pub battery : new.battery ≡ old.battery
  pub puts : new.puts ≡ old.puts
  pub polls : new.polls ≡ old.polls
  pub ups : new.ups ≡ old.ups

-- the battery was read, or stays as it was last read
abbrev pub ReadsOrKeeps : Type 0 → Snapshot → Snapshot → Type 0
ReadsOrKeeps reads old new = (reads → new.ups ≡ one_more old.ups) × ((reads → ⊥) → (new.ups ≡ old.ups) × (new.battery ≡ old.battery))

-- what flushes: such a command tries each dirty sector once
abbrev pub flushes : State → Command → Type 0
flushes state command.Up = ⊥
flushes state command.Down = Unit {0}
flushes Up command.Flush = Unit {0}
flushes Down command.Flush = ⊥
flushes (Error was) command.Flush = Unit {0}
flushes Up command.Reset = ⊥
flushes Down command.Reset = ⊥
flushes (Error was) command.Reset = Unit {0}

-- no more sectors stay dirty than the count of faults rose by
abbrev pub HasLeft : Answer → ℕ → ℕ → Type 0
HasLeft (answer.Left n) before now = RoseBy n before now
HasLeft result before now = before ≤ now

-- A command was carried out. One that doesn't flush leaves as much dirty as there was; after one that flushes, Done says that nothing is (`answered`).
pub record IsCommanded (asked : Command) (result : Answer) (before now : ℕ) (old new : Snapshot) : Type 0 where
  pub why : Cause
  pub not_battery : IsDeviceError (Error why)
  pub answered : (result, new.state) ≡ after_command old.state asked new.battery why new.dirty
  pub cause : HasLeft result before now
  pub dirty : new.dirty ≤ old.dirty
  pub idle : (flushes old.state asked → ⊥) → new.dirty ≡ old.dirty
  pub readings : ReadsOrKeeps (reads_battery old.state asked) old new
  pub puts : new.puts ≡ old.puts
  pub polls : new.polls ≡ old.polls
  pub tries : new.tries ≡ old.tries

-- At most so many puts were made.
pub record SomePuts (most : ℕ) (before now : ℕ) (old new : Snapshot) : Type 0 where
  pub count : ℕ
  pub few : count ≤ most
  pub made : ArePuts count before now old new
