-- From happenings to the states that a store's contract names.
use Rattle.std.proofs.Common.{◌≡◌, ◌≢◌, ◌⊎◌, inl, inr, ℕ, zero, suc, ◌≤◌, Option, Some, None, IsSome, IfSome, refl, sym, ◌∙◌, ap, subst, arith}
use Rattle.stable.specs.Counts.{Rose}
use Rattle.stable.specs.States.{IsDeviceError, StaysOrFails, after_poll, after_command}
use Rattle.stable.specs.declared.battery.Battery.{Battery}
use Rattle.stable.specs.declared.battery.Battery.TheVariants.{Good, Low}
use Rattle.stable.specs.declared.state.Cause.{Cause}
use Rattle.stable.specs.declared.state.Cause.TheVariants as cause
use Rattle.stable.specs.declared.state.State.{State}
use Rattle.stable.specs.declared.state.State.TheVariants.{Up, Down, Error}
use Rattle.stable.specs.declared.command.Command.{Command}
use Rattle.stable.specs.declared.command.Command.TheVariants as command
use Rattle.stable.specs.declared.command.Answer.TheVariants as answer
use Rattle.presto_states.specs.Table.{after}
use Rattle.presto_unit.specs.Happenings.{failing, polling, flushing, left_answer}
use Rattle.presto_unit.specs.Flushing.{IsDeviceCause}

pub failed_up : (why : Cause) → IsDeviceCause why → after Up (failing why) ≡ Error why
failed_up cause.Disk is = refl
failed_up cause.Board is = refl
failed_up cause.Battery is = absurd is

pub failed_down : (why : Cause) → after Down (failing why) ≡ Down
failed_down cause.Disk = refl
failed_down cause.Board = refl
failed_down cause.Battery = refl

pub failed_error : (was why : Cause) → after (Error was) (failing why) ≡ Error was
failed_error cause.Disk cause.Disk = refl
failed_error cause.Disk cause.Board = refl
failed_error cause.Disk cause.Battery = refl
failed_error cause.Board cause.Disk = refl
failed_error cause.Board cause.Board = refl
failed_error cause.Board cause.Battery = refl
failed_error cause.Battery cause.Disk = refl
failed_error cause.Battery cause.Board = refl
failed_error cause.Battery cause.Battery = refl

error_up : {c : Cause} → Error c ≡ Up → ⊥
error_up e = cc

down_up : Down ≡ Up → ⊥
down_up e = cc

error_down : {c : Cause} → Error c ≡ Down → ⊥
error_down e = cc

up_down : Up ≡ Down → ⊥
up_down e = cc

-- a failed device leaves UP, and no other state
pub failed_state : (state : State) (why : Cause) (before now : ℕ) → IsDeviceCause why → Rose before now → StaysOrFails state (after state (failing why)) before now
failed_state Up why before now is rose = inr (refl, (subst IsDeviceError (sym (failed_up why is)) is, rose))
failed_state Down why before now is rose = inl (failed_down why)
failed_state (Error was) why before now is rose = inl (failed_error was why)

pub failed_leaves : (state : State) (why : Cause) → IsDeviceCause why → after state (failing why) ≢ Up
failed_leaves Up why is = λ e. error_up (sym (failed_up why is) ∙ e)
failed_leaves Down why is = λ e. down_up (sym (failed_down why) ∙ e)
failed_leaves (Error was) why is = λ e. error_up (sym (failed_error was why) ∙ e)

pub failed_not_down : (state : State) (why : Cause) → IsDeviceCause why → after state (failing why) ≡ Down → state ≡ Down
failed_not_down Up why is e = absurd (error_down (sym (failed_up why is) ∙ e))
failed_not_down Down why is e = refl
failed_not_down (Error was) why is e = sym (failed_error was why) ∙ e

-- the state after a poll
pub polled_state : (state : State) (battery : Battery) (dirty : ℕ) → after state (polling battery dirty) ≡ after_poll state dirty battery
polled_state Up Good zero = refl
polled_state Up Good (suc n) = refl
polled_state Up Low zero = refl
polled_state Up Low (suc n) = refl
polled_state Down Good zero = refl
polled_state Down Good (suc n) = refl
polled_state Down Low dirty = refl
polled_state (Error cause.Disk) Good zero = refl
polled_state (Error cause.Disk) Good (suc n) = refl
polled_state (Error cause.Disk) Low dirty = refl
polled_state (Error cause.Board) Good zero = refl
polled_state (Error cause.Board) Good (suc n) = refl
polled_state (Error cause.Board) Low dirty = refl
polled_state (Error cause.Battery) Good zero = refl
polled_state (Error cause.Battery) Good (suc n) = refl
polled_state (Error cause.Battery) Low zero = refl
polled_state (Error cause.Battery) Low (suc n) = refl

-- ---- commands

-- the cause of the first failure, if there is one
abbrev pub why_of : Option Cause → Cause
why_of None = cause.Disk
why_of (Some why) = why

pub why_device : (first : Option Cause) → IfSome first IsDeviceCause → IsDeviceError (Error (why_of first))
why_device None is = tt
why_device (Some why) is = is

module _ (battery : Battery) (why : Cause) where
  done_state : (state : State) (asked : Command) → asked ≢ command.Up → (asked ≡ command.Reset → state ≢ Up) → (answer.Done, after state (flushing asked None)) ≡ after_command state asked battery why 0
  done_state state command.Up ne reset = absurd (ne refl)
  done_state Up command.Down ne reset = refl
  done_state Down command.Down ne reset = refl
  done_state (Error was) command.Down ne reset = refl
  done_state Up command.Flush ne reset = refl
  done_state Down command.Flush ne reset = refl
  done_state (Error cause.Disk) command.Flush ne reset = refl
  done_state (Error cause.Board) command.Flush ne reset = refl
  done_state (Error cause.Battery) command.Flush ne reset = refl
  done_state Up command.Reset ne reset = absurd (reset refl refl)
  done_state Down command.Reset ne reset = refl
  done_state (Error was) command.Reset ne reset = refl

  left_state : (state : State) (asked : Command) (n : ℕ) → asked ≢ command.Up → (asked ≡ command.Reset → state ≢ Up) → state ≢ Down
      → (answer.Left (suc n), after state (flushing asked (Some why))) ≡ after_command state asked battery why (suc n)
  left_state state command.Up n ne reset down = absurd (ne refl)
  left_state Down asked n ne reset down = absurd (down refl)
  left_state Up command.Down n ne reset down = refl
  left_state (Error cause.Disk) command.Down n ne reset down = refl
  left_state (Error cause.Board) command.Down n ne reset down = refl
  left_state (Error cause.Battery) command.Down n ne reset down = refl
  left_state Up command.Flush n ne reset down = refl
  left_state (Error cause.Disk) command.Flush n ne reset down = refl
  left_state (Error cause.Board) command.Flush n ne reset down = refl
  left_state (Error cause.Battery) command.Flush n ne reset down = refl
  left_state Up command.Reset n ne reset down = absurd (reset refl refl)
  left_state (Error cause.Disk) command.Reset n ne reset down = refl
  left_state (Error cause.Board) command.Reset n ne reset down = refl
  left_state (Error cause.Battery) command.Reset n ne reset down = refl

-- a command that flushed answers by what is left, and the table says the state
pub flushed_state : (state : State) (asked : Command) (battery : Battery) (first : Option Cause) (dirty : ℕ) → asked ≢ command.Up → (asked ≡ command.Reset → state ≢ Up) → (state ≡ Down → dirty ≡ 0)
    → (first ≡ None → dirty ≡ 0) → (IsSome first → 1 ≤ dirty) → (left_answer dirty, after state (flushing asked first)) ≡ after_command state asked battery (why_of first) dirty
flushed_state state asked battery None zero ne reset down none some = done_state battery cause.Disk state asked ne reset
flushed_state state asked battery None (suc n) ne reset down none some = absurd (let e = none refl in omega (arith, e))
flushed_state state asked battery (Some why) zero ne reset down none some = absurd (let e = some refl in omega (arith, e))
flushed_state state asked battery (Some why) (suc n) ne reset down none some = left_state battery why state asked n ne reset (λ e. absurd (let f = down e in omega (arith, f)))

-- where it leads to DOWN nothing is dirty, and where it leads to UP it was there
pub flushed_down : (state : State) (asked : Command) (first : Option Cause) → after state (flushing asked first) ≡ Down → (state ≡ Down) ⊎ (first ≡ None)
flushed_down state asked None e = inr refl
flushed_down Down asked (Some why) e = inl refl
flushed_down Up command.Up (Some why) e = absurd (up_down e)
flushed_down Up command.Down (Some why) e = absurd (error_down e)
flushed_down Up command.Flush (Some why) e = absurd (error_down e)
flushed_down Up command.Reset (Some why) e = absurd (up_down e)
flushed_down (Error cause.Disk) command.Up (Some why) e = absurd (error_down e)
flushed_down (Error cause.Disk) command.Down (Some why) e = absurd (error_down e)
flushed_down (Error cause.Disk) command.Flush (Some why) e = absurd (error_down e)
flushed_down (Error cause.Disk) command.Reset (Some why) e = absurd (error_down e)
flushed_down (Error cause.Board) command.Up (Some why) e = absurd (error_down e)
flushed_down (Error cause.Board) command.Down (Some why) e = absurd (error_down e)
flushed_down (Error cause.Board) command.Flush (Some why) e = absurd (error_down e)
flushed_down (Error cause.Board) command.Reset (Some why) e = absurd (error_down e)
flushed_down (Error cause.Battery) command.Up (Some why) e = absurd (error_down e)
flushed_down (Error cause.Battery) command.Down (Some why) e = absurd (error_down e)
flushed_down (Error cause.Battery) command.Flush (Some why) e = absurd (error_down e)
flushed_down (Error cause.Battery) command.Reset (Some why) e = absurd (error_down e)

pub flushed_up : (state : State) (asked : Command) (first : Option Cause) → after state (flushing asked first) ≡ Up → state ≡ Up
flushed_up Up asked first e = refl
flushed_up Down command.Up first e = absurd (down_up e)
flushed_up Down command.Down None e = absurd (down_up e)
flushed_up Down command.Down (Some why) e = absurd (error_up e)
flushed_up Down command.Flush None e = absurd (down_up e)
flushed_up Down command.Flush (Some why) e = absurd (down_up e)
flushed_up Down command.Reset None e = absurd (down_up e)
flushed_up Down command.Reset (Some why) e = absurd (down_up e)
flushed_up (Error cause.Disk) command.Up first e = absurd (error_up e)
flushed_up (Error cause.Disk) command.Down None e = absurd (down_up e)
flushed_up (Error cause.Disk) command.Down (Some why) e = absurd (error_up e)
flushed_up (Error cause.Disk) command.Flush None e = absurd (error_up e)
flushed_up (Error cause.Disk) command.Flush (Some why) e = absurd (error_up e)
flushed_up (Error cause.Disk) command.Reset None e = absurd (down_up e)
flushed_up (Error cause.Disk) command.Reset (Some why) e = absurd (error_up e)
flushed_up (Error cause.Board) command.Up first e = absurd (error_up e)
flushed_up (Error cause.Board) command.Down None e = absurd (down_up e)
flushed_up (Error cause.Board) command.Down (Some why) e = absurd (error_up e)
flushed_up (Error cause.Board) command.Flush None e = absurd (error_up e)
flushed_up (Error cause.Board) command.Flush (Some why) e = absurd (error_up e)
flushed_up (Error cause.Board) command.Reset None e = absurd (down_up e)
flushed_up (Error cause.Board) command.Reset (Some why) e = absurd (error_up e)
flushed_up (Error cause.Battery) command.Up first e = absurd (error_up e)
flushed_up (Error cause.Battery) command.Down None e = absurd (down_up e)
flushed_up (Error cause.Battery) command.Down (Some why) e = absurd (error_up e)
flushed_up (Error cause.Battery) command.Flush None e = absurd (error_up e)
flushed_up (Error cause.Battery) command.Flush (Some why) e = absurd (error_up e)
flushed_up (Error cause.Battery) command.Reset None e = absurd (down_up e)
flushed_up (Error cause.Battery) command.Reset (Some why) e = absurd (error_up e)

pub flushed_up_none : (state : State) (asked : Command) (first : Option Cause) → asked ≢ command.Up → (asked ≡ command.Reset → state ≢ Up) → after state (flushing asked first) ≡ Up → first ≡ None
flushed_up_none state asked None ne reset e = refl
flushed_up_none state asked (Some why) ne reset e = up_is state asked why ne reset e (flushed_up state asked (Some why) e)
  where
    at_up : (asked : Command) (why : Cause) → asked ≢ command.Up → asked ≢ command.Reset → after Up (flushing asked (Some why)) ≡ Up → ⊥
    at_up command.Up why ne reset e = ne refl
    at_up command.Down why ne reset e = error_up e
    at_up command.Flush why ne reset e = error_up e
    at_up command.Reset why ne reset e = reset refl

    up_is : (state : State) (asked : Command) (why : Cause) → asked ≢ command.Up → (asked ≡ command.Reset → state ≢ Up) → after state (flushing asked (Some why)) ≡ Up → state ≡ Up → Some why ≡ None
    up_is state asked why ne reset e is = absurd (at_up asked why ne (λ r. reset r is) (ap (λ (s : State). after s (flushing asked (Some why))) (sym is) ∙ e))
