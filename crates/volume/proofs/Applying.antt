-- A call that only looks.
use Rattle.std.proofs.Common.{◌≡◌, ℕ, List, [], ◌∷◌, refl, sym, subst, inl}
use Rattle.files_model.specs.declared.call.Call.{Call}
use Rattle.files_model.specs.declared.credential.Cred.{Cred}
use Rattle.files_model.specs.declared.reply.Reply.{Reply}
use Rattle.files_model.specs.declared.reply.Reply.TheVariants as reply
use Rattle.files_model.specs.declared.reply.Stat.{Stat}
use Rattle.files_model.specs.Files.{Files}
use Rattle.files_model.specs.Step.{step}
use Rattle.files_model.specs.Torn.{Asked}
use Rattle.stable.specs.Store.{Image}
use Rattle.v7_map.specs.Frame.{frame}
use Rattle.v7_map.specs.View.{view}
use Rattle.v7_map.specs.Plans.{IsTornImage}
use Rattle.v7_map.specs.Weak.{IsWeak, IsStrong}
use Rattle.stable.specs.Counts.{Rose}
use Rattle.stable.specs.Looked.{Looked}
use Rattle.stable.specs.declared.store.Stable.{Ghosts}
use Rattle.stable.proofs.Clocked.{weaker}
use Rattle.volume.specs.declared.outcome.Outcome.TheVariants as outcome
use Rattle.volume.specs.Applied.{IsDone, IsApplied, HasForm}

-- the step refuses with this status, and changes nothing
pub record IsRefusal (image : Image) (call : Call) (cred : Cred) (now : ℕ) (status : Stat) : Type 0 where
  pub answer : reply.Refused status ≡ (step (view image) call cred now).0
  pub same : (step (view image) call cred now).1 ≡ view image

-- nothing has changed yet
pub torn_same : (calls : List Asked) (now : ℕ) (old image : Image) → image ≡ old → IsWeak (frame old) → IsTornImage (view old) calls now image
torn_same calls now old image same weak = subst (λ (x : Image). IsTornImage (view old) calls now x) (sym same) (record { weak = weak; torn = inl refl })

module _ (call : Call) (cred : Cred) (now : ℕ) where
  -- a step that changes nothing
  pub done_same : (old new : Image) (r : Reply) → new ≡ old → IsStrong (frame old) → r ≡ (step (view old) call cred now).0 → (step (view old) call cred now).1 ≡ view old
      → IsDone (view old) call cred now r new
  done_same old new r same strong answer idle = subst (λ (x : Image). IsDone (view old) call cred now r x) (sym same) (record { reply_is = answer; view_is = sym idle; strong = strong })

  -- a refusal
  pub done_refused : (old new : Image) (status : Stat) → new ≡ old → IsStrong (frame old) → IsRefusal old call cred now status → IsDone (view old) call cred now (reply.Refused status) new
  done_refused old new status same strong refusal = done_same old new (reply.Refused status) same strong refusal.answer refusal.same

-- a call that only looked, and answered as its step does, which changes nothing
pub answered_looking : {S : Type 0} (s : Ghosts S) (call : Call) (cred : Cred) (now : ℕ) (r : Reply) (old new : S) → Looked s old new → HasForm call r
    → ((files : Files) → (step files call cred now).1 ≡ files) → (s.tells → IsStrong (frame (s.image old)) → r ≡ (step (view (s.image old)) call cred now).0)
    → IsApplied s old new call cred now (outcome.Reply r)
answered_looking s call cred now r old new looked form idle answer = record {
  leaves = λ tells strong. done_same call cred now (s.image old) (s.image new) r looked.image strong (answer tells strong) (idle (view (s.image old)));
  form = form;
  cause = looked.later;
  crash = weaker looked.crash (λ i left is strong. torn_same ((call, cred) ∷ []) now (s.image old) i is strong.weak);
}

-- a call that only looked, and failed
pub failed_looking : {S : Type 0} (s : Ghosts S) (call : Call) (cred : Cred) (now : ℕ) (old new : S) → Looked s old new → Rose (s.faults old) (s.faults new) → IsApplied s old new call cred now outcome.Io
failed_looking s call cred now old new looked rose = record {
  leaves = λ tells strong. torn_same ((call, cred) ∷ []) now (s.image old) (s.image new) looked.image strong.weak;
  form = tt;
  cause = (looked.later, rose);
  crash = weaker looked.crash (λ i left is strong. torn_same ((call, cred) ∷ []) now (s.image old) i is strong.weak);
}
