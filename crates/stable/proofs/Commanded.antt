-- What the answer of a command says.
use Rattle.std.proofs.Common.{◌≡◌, ℕ, zero, suc, refl, ap}
use Rattle.stable.specs.States.{after_command, flushes, IsCommanded}
use Rattle.stable.specs.declared.battery.Battery.{Battery}
use Rattle.stable.specs.declared.state.Cause.{Cause}
use Rattle.stable.specs.declared.state.State.{State}
use Rattle.stable.specs.declared.state.State.TheVariants.{Up, Down, Error}
use Rattle.stable.specs.declared.command.Command.{Command}
use Rattle.stable.specs.declared.command.Command.TheVariants as command
use Rattle.stable.specs.declared.command.Answer.TheVariants as answer
use Rattle.stable.specs.declared.snapshot.Snapshot.{Snapshot}

done_is_empty : (state : State) (asked : Command) (battery : Battery) (why : Cause) (dirty : ℕ) → flushes state asked → answer.Done ≡ (after_command state asked battery why dirty).0 → dirty ≡ 0
done_is_empty state asked battery why zero does is = refl
done_is_empty Up command.Up battery why (suc n) does is = absurd does
done_is_empty Up command.Down battery why (suc n) does is = cc
done_is_empty Up command.Flush battery why (suc n) does is = cc
done_is_empty Up command.Reset battery why (suc n) does is = absurd does
done_is_empty Down command.Up battery why (suc n) does is = absurd does
done_is_empty Down command.Down battery why (suc n) does is = cc
done_is_empty Down command.Flush battery why (suc n) does is = absurd does
done_is_empty Down command.Reset battery why (suc n) does is = absurd does
done_is_empty (Error was) command.Up battery why (suc n) does is = absurd does
done_is_empty (Error was) command.Down battery why (suc n) does is = cc
done_is_empty (Error was) command.Flush battery why (suc n) does is = cc
done_is_empty (Error was) command.Reset battery why (suc n) does is = cc

-- Done of a command that flushes says that nothing is dirty
pub done_empties : (asked : Command) (before now : ℕ) (old new : Snapshot) → IsCommanded asked answer.Done before now old new → flushes old.state asked → new.dirty ≡ 0
done_empties asked before now old new done does = done_is_empty old.state asked new.battery done.why new.dirty does (ap (λ a. a.0) done.answered)
