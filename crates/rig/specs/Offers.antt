-- What was offered to the outside, and what it took of it.
use Rattle.std.specs.Prelude.{◌≡◌, ℕ, ◌-◌, List, [], ◌∷◌, ◌++◌, length, Option}
use Rattle.std.specs.Option.{option_map}
use Rattle.stable.specs.Counts.{RoseBy}

-- the first list is the second with some left out
pub data LeavesOut {A : Type 0} : List A → List A → Type 0 where
  none : LeavesOut [] []
  keep : (x : A) (xs ys : List A) → LeavesOut xs ys → LeavesOut (x ∷ xs) (x ∷ ys)
  leave : (y : A) (xs ys : List A) → LeavesOut xs ys → LeavesOut xs (y ∷ ys)

-- A list has gained what was taken, which is a part of what was offered, in order. What is missing has its faults: `before` and `now` are their count.
pub record Offers {A : Type 0} (old new : Option (List A)) (before now : ℕ) (offered taken : List A) : Type 0 where
  pub took : new ≡ option_map (λ had. had ++ taken) old
  pub part : LeavesOut taken offered
  pub missing : RoseBy (length offered - length taken) before now
