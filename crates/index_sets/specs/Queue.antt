-- Numbers below a size in a queue, as its callers see it.
use Rattle.std.specs.Prelude.{ℕ, Bool, if◌then◌else◌, nat_eq, List, [], ◌∷◌, Option, Some, None}
use Rattle.std.specs.List.{list_any}

-- the numbers, the first one first, and the size below which they are
pub record Queue : Type 0 where
  pub listed : List ℕ
  pub size : ℕ

-- whether a number is listed
abbrev pub is_listed : ℕ → List ℕ → Bool
is_listed number listed = list_any (λ other. nat_eq other number) listed

-- without the first place of that number
abbrev pub without : ℕ → List ℕ → List ℕ
without number [] = []
without number (x ∷ xs) = if nat_eq x number then xs else x ∷ without number xs

-- the first, none of an empty list
abbrev pub first_of : List ℕ → Option ℕ
first_of [] = None
first_of (x ∷ xs) = Some x
