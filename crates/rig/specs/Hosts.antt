-- What a host gave, and what came back.
use Rattle.std.specs.Prelude.{◌≡◌, ℕ, ◌-◌, ◌<◌, ◌≤◌, List, ◌∷◌, Option, Result, IsErrOf}
use Rattle.std.specs.Option.{option_map}
use Rattle.stable.specs.Counts.{Rose, one_more}
use Rattle.rig.specs.Links.{gains}
use Rattle.rig.specs.declared.host.HostFault.{HostFault}
use Rattle.rig.specs.declared.host.HostFault.TheVariants as host_fault

-- what is left to give, what came back, and how much is out: all as before
pub record SameLoans {S A B : Type 0} (left_of : S → A) (back_of : S → B) (out_of : S → ℕ) (old new : S) : Type 0 where
  pub left : left_of new ≡ left_of old
  pub back : back_of new ≡ back_of old
  pub out : out_of new ≡ out_of old

-- the lines and their count of faults are as before
pub record SameLines {S A : Type 0} (lines_of : S → A) (faults_of : S → ℕ) (old new : S) : Type 0 where
  pub lines : lines_of new ≡ lines_of old
  pub faults : faults_of new ≡ faults_of old

-- a thing was given: the first that was left, where they are told; one more is out
pub record Gives {S A B : Type 0} (left_of : S → Option (List A)) (back_of : S → B) (out_of : S → ℕ) (old new : S) (thing : A) : Type 0 where
  pub left : left_of old ≡ option_map (λ rest. thing ∷ rest) (left_of new)
  pub back : back_of new ≡ back_of old
  pub out : out_of new ≡ one_more (out_of old)

-- a thing came back; where one was out, it stands behind those that came before, where they are told
pub record TakesBack {S A B : Type 0} (left_of : S → A) (back_of : S → Option (List (ℕ × B))) (out_of : S → ℕ) (old new : S) (number : ℕ) (thing : B) : Type 0 where
  pub left : left_of new ≡ left_of old
  pub back : 0 < out_of old → back_of new ≡ gains (back_of old) (number, thing)
  pub out : out_of new ≡ out_of old - 1

-- a failure has a cause: the count rose where the answer is Failed
pub record HostCause {T : Type 0} (before now : ℕ) (result : Result T HostFault) : Type 0 where
  pub later : before ≤ now
  pub failed : IsErrOf result host_fault.Failed → Rose before now
