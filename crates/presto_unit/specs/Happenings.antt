-- What happens to a unit.
use Rattle.std.specs.Prelude.{ℕ, zero, suc, Option, Some, None}
use Rattle.stable.specs.declared.battery.Battery.{Battery}
use Rattle.stable.specs.declared.battery.Battery.TheVariants.{Good, Low}
use Rattle.stable.specs.declared.state.Cause.{Cause}
use Rattle.stable.specs.declared.state.Cause.TheVariants as cause
use Rattle.stable.specs.declared.state.State.{State}
use Rattle.stable.specs.declared.state.State.TheVariants.{Down, Error}
use Rattle.stable.specs.declared.command.Command.{Command}
use Rattle.stable.specs.declared.command.Command.TheVariants as command
use Rattle.stable.specs.declared.command.Answer.{Answer}
use Rattle.stable.specs.declared.command.Answer.TheVariants as answer
use Rattle.presto_states.specs.declared.table.Happening.{Happening}
use Rattle.presto_states.specs.declared.table.Happening.TheVariants as it

-- a device failed
abbrev pub failing : Cause → Happening
failing cause.Disk = it.DiskFailed
failing cause.Board = it.BoardFailed
failing cause.Battery = it.BoardFailed

-- the battery was polled, with so much dirty
abbrev pub polling : Battery → ℕ → Happening
polling Low dirty = it.PollLow
polling Good zero = it.PollGoodEmpty
polling Good (suc n) = it.PollGoodDirty

-- all was flushed for a command, with the first failure
abbrev pub flushing : Command → Option Cause → Happening
flushing command.Up first = it.FlushEmpty
flushing command.Down None = it.DownEmpty
flushing command.Down (Some why) = it.DownLeft why
flushing command.Flush None = it.FlushEmpty
flushing command.Flush (Some why) = it.FlushLeft why
flushing command.Reset None = it.ResetEmpty
flushing command.Reset (Some why) = it.ResetLeft why

-- the answer where so much stays dirty
abbrev pub left_answer : ℕ → Answer
left_answer zero = answer.Done
left_answer (suc n) = answer.Left (suc n)

-- the state at first, with so much dirty
abbrev pub starting : ℕ → Cause → State
starting zero why = Down
starting (suc n) why = Error why
