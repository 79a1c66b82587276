-- Puts of whole sectors, one after the other.
use Rattle.std.specs.Prelude.{◌≡◌, ℕ, ◌-◌, ◌≤◌, ◌<◌, Bool, not, ◌&&◌, ◌==◌, if◌then◌else◌, List, [], ◌∷◌, ◌++◌, length, get_or, set, take}
use Rattle.std.specs.List.{AllByRecursion}
use Rattle.stable.specs.Store.{Image}

-- what a plan is seen as: its puts in order, and how many it has room for
pub record Reserved : Type 0 where
  pub puts : List (ℕ × List ℕ)
  pub room : ℕ

-- a plan with these puts, and as much room
abbrev pub with_puts : Reserved → List (ℕ × List ℕ) → Reserved
with_puts plan puts = record { puts = puts; room = plan.room }

-- the image after puts in order
abbrev pub put_all : List (ℕ × List ℕ) → Image → Image
put_all [] image = image
put_all (put ∷ puts) image = put_all puts (set image put.0 put.1)

-- what holds of an image, and after each of these puts
abbrev pub EachPrefix : (Image → Type 0) → List (ℕ × List ℕ) → Image → Type 0
EachPrefix P [] image = P image
EachPrefix P (put ∷ puts) image = P image × EachPrefix P puts (set image put.0 put.1)

-- after the first so many of these puts, and no others
abbrev pub AfterSome : List (ℕ × List ℕ) → Image → Image → Type 0
AfterSome puts old image = (m : ℕ) × (m ≤ length puts) × (image ≡ put_all (take m puts) old)

-- each put is of a sector of a store that has so many
abbrev pub AllStand : ℕ → List (ℕ × List ℕ) → Type 0
AllStand sectors puts = AllByRecursion (λ (put : ℕ × List ℕ). put.0 < sectors) puts

-- no put is of a sector before the third, so none is of the super-block
abbrev pub AllPastSuperBlock : List (ℕ × List ℕ) → Type 0
AllPastSuperBlock puts = AllByRecursion (λ (put : ℕ × List ℕ). 2 ≤ put.0) puts

-- the last of these puts is of this sector
abbrev pub ends_with : List (ℕ × List ℕ) → ℕ → Bool
ends_with puts sector = not (length puts == 0) && ((get_or puts (length puts - 1) (0, [])).0 == sector)

-- the puts with one more, which takes the place of the last one where that is of the same sector
abbrev pub with_put : List (ℕ × List ℕ) → ℕ × List ℕ → List (ℕ × List ℕ)
with_put puts put = if ends_with puts put.0 then set puts (length puts - 1) put else puts ++ put ∷ []
