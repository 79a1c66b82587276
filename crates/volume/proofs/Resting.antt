-- A volume at rest that is mended, and one that is called.
use Rattle.std.proofs.Common.{◌≡◌, ℕ, ◌≤◌, Bool, false, List, Option, Some, None, refl, sym, ◌∙◌, subst, inl, arith}
use Rattle.std.specs.Ordering.{nat_cmp}
use Rattle.std.specs.FinMap.{FinMap}
use Rattle.files_model.specs.Files.{Files}
use Rattle.files_model.specs.declared.call.Call.{Call}
use Rattle.files_model.specs.declared.credential.Cred.{Cred}
use Rattle.stable.specs.Moments.{IsClocked, LeavesOnly}
use Rattle.stable.specs.Store.{Image}
use Rattle.stable.specs.declared.store.Stable.{Ghosts}
use Rattle.stable.proofs.Clocked.{ends, goes_on, weaker}
use Rattle.v7_damage.specs.Tests.{told}
use Rattle.v7_damage.specs.Undamaged.{IsFaultOf}
use Rattle.v7_damage.specs.declared.damage.Damage.{Damage}
use Rattle.v7_damage.specs.declared.damage.RepairFault.TheVariants.{Damaged}
use Rattle.v7_map.specs.Damage.{Test, damage}
use Rattle.v7_map.specs.Frame.{Frame, frame}
use Rattle.v7_map.specs.View.{view}
use Rattle.v7_map.specs.Weak.{IsWeak}
use Rattle.v7_map.proofs.AnyFrame.{frame-IsFrame}
use Rattle.v7_map.proofs.Weakness.{no_damage_when_weak}
use Rattle.v7_make.specs.Chains.{FitStore}
use Rattle.v7_sets.specs.Sets.{AreSets, AreSetsOf}
use Rattle.v7_sets.specs.declared.sets.Sets.{Sets}
use Rattle.volume.specs.declared.outcome.Outcome.{Outcome}
use Rattle.volume.specs.declared.outcome.Outcome.TheVariants as outcome
use Rattle.volume.specs.Applied.{Applies, CrashLeaves, HasFault, HasFormAt, Hurts, IsMomentOf, LeavesFiles}
use Rattle.volume.specs.Keeps.{SameVolume}
use Rattle.volume.specs.Rests.{IsAtRest}

-- ---- what stays

-- the sets stay with the frame and the generations
pub sets_stay : (old new : Image) (blocks inodes : List Bool) → frame new ≡ frame old → (view new).generations ≡ (view old).generations → AreSetsOf old blocks inodes → AreSetsOf new blocks inodes
sets_stay old new blocks inodes same generations sets =
    subst (λ (m : FinMap nat_cmp ℕ). AreSets (frame new) m blocks inodes) (sym generations)
    (subst (λ (f : Frame). AreSets f (view old).generations blocks inodes) (sym same) sets)

-- what can be mended has no damage to tell
pub fault_weak : (image : Image) (sector : ℕ) (kind : Damage) → IsWeak (frame image) → IsFaultOf image (Damaged sector kind) → ⊥
fault_weak image sector kind weak is =
    let none : damage (frame image) ≡ None = no_damage_when_weak (frame image) (frame-IsFrame image) weak in
    let told_none : told (frame image) None ≡ Some (sector, kind) = subst (λ (t : Option Test). told (frame image) t ≡ Some (sector, kind)) none is in
    absurd (cc)

-- where damage is found none is told, and what is asked of any store still holds
pub rest_damaged : (tells : Type 0) (old new : Image) (sectors sectors' : ℕ) (hurt : Bool) (sets : Sets) → (tells → ⊥) → sectors' ≡ sectors
    → IsAtRest tells old sectors hurt sets → IsAtRest tells new sectors' false sets
rest_damaged tells old new sectors sectors' hurt sets never as_many rest = record {
  fits = subst (λ (n : ℕ). FitStore n sets.blocks sets.inodes) (sym as_many) rest.fits;
  weak = λ told. absurd (never told);
  strong = λ told sound. absurd (never told);
  are_sets = λ told sound. absurd (never told);
}

-- ---- a call

-- the same files are torn files of each call
crash_same : (old d : Image) (c : Call) (cred : Cred) (now : ℕ) (o : Outcome) → SameVolume old d → CrashLeaves (view old) c cred now o d
crash_same old d c cred now (outcome.Reply r) same = record { weak = same.files.weak; torn = inl same.files.view }
crash_same old d c cred now outcome.Io same = record { weak = same.files.weak; torn = inl same.files.view }
crash_same old d c cred now outcome.NoMemory same = record { weak = same.files.weak; view_is = same.files.view }

moment_same : (old d : Image) (c : Call) (cred : Cred) (now : ℕ) (o : Outcome) → SameVolume old d → IsMomentOf old c cred now o d
moment_same old d c cred now o same = record { files = crash_same old d c cred now o same; name = same.name }

-- what was hurt or not before a mend
hurts_then : (c : Call) (o : Outcome) (was is : Bool) → Hurts c o false is → Hurts c o was is
hurts_then c (outcome.Reply r) was is h = h
hurts_then c outcome.Io was is h = (h.0, λ idle sound. h.1 idle refl)
hurts_then c outcome.NoMemory was is h = λ sound. h refl

form_then : (c : Call) (o : Outcome) (was : Bool) → HasFormAt false c o → HasFormAt was c o
form_then c (outcome.Reply r) was form = form
form_then c outcome.Io was form = tt
form_then c outcome.NoMemory was form = λ sound. form refl

-- no call lets the count of faults fall
pub cause_later : (o : Outcome) (a b : ℕ) → HasFault o a b → a ≤ b
cause_later (outcome.Reply r) a b cause = cause
cause_later outcome.Io a b cause = cause.0
cause_later outcome.NoMemory a b cause = cause

cause_then : (o : Outcome) (a b d : ℕ) → a ≤ b → HasFault o b d → HasFault o a d
cause_then (outcome.Reply r) a b d le cause = omega (arith, le, cause)
cause_then outcome.Io a b d le cause = (omega (arith, le, cause.0), omega (arith, le, cause.1))
cause_then outcome.NoMemory a b d le cause = omega (arith, le, cause)

module _ {S : Type 0} (s : Ghosts S) (clocked : IsClocked s.tells s.image s.moment s.left_since) where
  -- the call was made on the files found, mended or not
  pub applies_then : (old mid new : S) (was is : Bool) (c : Call) (cred : Cred) (now : ℕ) (o : Outcome) → LeavesOnly s.moment s.left_since old mid (SameVolume (s.image old)) → s.faults old ≤ s.faults mid
      → Applies s mid new false is c cred now o → Applies s old new was is c cred now o
  applies_then old mid new was is c cred now o crash later applied =
      let files : s.tells → SameVolume (s.image old) (s.image mid) = λ told. ends clocked crash told in
      record {
        leaves = λ told. subst (λ (f : Files). LeavesFiles f c cred now o (view (s.image new))) (files told).files.view (applied.leaves told);
        hurts = hurts_then c o was is applied.hurts;
        form = form_then c o was applied.form;
        cause = cause_then o (s.faults old) (s.faults mid) (s.faults new) later applied.cause;
        crash = goes_on (weaker crash (λ d left same. moment_same (s.image old) d c cred now o same)) applied.crash (λ d left moment.
            let found = files (clocked.told new (s.moment mid) d left) in
            record {
              files = subst (λ (f : Files). CrashLeaves f c cred now o d) found.files.view moment.files;
              name = moment.name ∙ found.name;
            });
      }
