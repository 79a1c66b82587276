-- A clock, and the images that a crash since a moment may leave. It serves rigs, and whatever stands on one.
use Rattle.std.specs.Prelude.{◌≡◌, ◌⊎◌, ℕ, ◌≤◌}

-- What holds of each clock. Images are told only where contents are.
pub record IsClocked {R I : Type 0} (tells : Type 0) (contents : R → I) (moment : R → ℕ) (left_since : R → ℕ → I → Type 0) : Type 0 where
  -- what is there now is one of the images since an earlier moment
  pub now : (r : R) (t : ℕ) → tells → t ≤ moment r → left_since r t (contents r)
  -- since this moment there is no other
  pub only : (r : R) (d : I) → left_since r (moment r) d → d ≡ contents r
  -- an image since a moment is one since each earlier moment
  pub wider : (r : R) (t u : ℕ) (d : I) → t ≤ u → left_since r u d → left_since r t d
  pub told : (r : R) (t : ℕ) (d : I) → left_since r t d → tells

-- From old to new time goes on, and each crash since old leaves what has P.
pub record LeavesOnly {R I : Type 0} (moment : R → ℕ) (left_since : R → ℕ → I → Type 0) (old new : R) (P : I → Type 0) : Type 0 where
  pub later : moment old ≤ moment new
  pub each : (d : I) → left_since new (moment old) d → P d
  -- a crash since an earlier t leaves what it might have left before, or what a crash since old leaves
  pub before : (t : ℕ) (d : I) → t ≤ moment old → left_since new t d → left_since old t d ⊎ left_since new (moment old) d
  pub keeps : (t : ℕ) (d : I) → t ≤ moment old → left_since old t d → left_since new t d
  pub wider : (t : ℕ) (d : I) → t ≤ moment old → left_since new (moment old) d → left_since new t d

-- what images stand for, by a relation
abbrev pub Shown : {R I J : Type 0} → (I → J → Type 0) → (R → ℕ → I → Type 0) → R → ℕ → J → Type 0
Shown {R} {I} shows left_since r t j = (i : I) × left_since r t i × shows i j
