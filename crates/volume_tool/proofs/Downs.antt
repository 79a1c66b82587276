-- What Down answers.
use Rattle.std.proofs.Common.{arith, ◌≡◌, ◌≢◌, ◌∙◌, ℕ, zero, suc, refl, ap, subst}
use Rattle.stable.specs.Counts.{Rose, RoseBy}
use Rattle.stable.specs.States.{after_command, HasLeft, IsCommanded}
use Rattle.stable.specs.declared.battery.Battery.{Battery}
use Rattle.stable.specs.declared.state.Cause.{Cause}
use Rattle.stable.specs.declared.state.State.{State}
use Rattle.stable.specs.declared.state.State.TheVariants.{Up, Down, Error}
use Rattle.stable.specs.declared.command.Command.TheVariants as command
use Rattle.stable.specs.declared.command.Answer.{Answer}
use Rattle.stable.specs.declared.command.Answer.TheVariants as answer
use Rattle.stable.specs.declared.snapshot.Snapshot.{Snapshot}

is_down : (state : State) (battery : Battery) (why : Cause) (dirty : ℕ) → answer.Done ≡ (after_command state command.Down battery why dirty).0 → (after_command state command.Down battery why dirty).1 ≡ Down
is_down Up battery why zero is = refl
is_down Down battery why zero is = refl
is_down (Error was) battery why zero is = refl
is_down Up battery why (suc n) is = absurd (cc is)
is_down Down battery why (suc n) is = absurd (cc is)
is_down (Error was) battery why (suc n) is = absurd (cc is)

-- Done leaves the store DOWN
pub goes_down : (before now : ℕ) (old new : Snapshot) → IsCommanded command.Down answer.Done before now old new → new.state ≡ Down
goes_down before now old new done = ap (λ (a : Answer × State). a.1) done.answered ∙ is_down old.state new.battery done.why new.dirty (ap (λ (a : Answer × State). a.0) done.answered)

rises : (state : State) (battery : Battery) (why : Cause) (dirty : ℕ) (result : Answer) (before now : ℕ) → result ≡ (after_command state command.Down battery why dirty).0 → result ≢ answer.Done → HasLeft result before now → Rose before now
rises Up battery why zero result before now is not left = absurd (not is)
rises Down battery why zero result before now is not left = absurd (not is)
rises (Error was) battery why zero result before now is not left = absurd (not is)
rises Up battery why (suc n) result before now is not left = let rose : RoseBy (suc n) before now = subst (λ (a : Answer). HasLeft a before now) is left in omega (arith, rose)
rises Down battery why (suc n) result before now is not left = let rose : RoseBy (suc n) before now = subst (λ (a : Answer). HasLeft a before now) is left in omega (arith, rose)
rises (Error was) battery why (suc n) result before now is not left = let rose : RoseBy (suc n) before now = subst (λ (a : Answer). HasLeft a before now) is left in omega (arith, rose)

-- another answer says that a device failed
pub left_rose : (result : Answer) (before now : ℕ) (old new : Snapshot) → IsCommanded command.Down result before now old new → result ≢ answer.Done → Rose before now
left_rose result before now old new asked not = rises old.state new.battery asked.why new.dirty result before now (ap (λ (a : Answer × State). a.0) asked.answered) not asked.cause
