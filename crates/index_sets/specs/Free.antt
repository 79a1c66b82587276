-- Sets of free numbers, as lists that say of each number below a size whether it is free.
use Rattle.std.specs.Prelude.{◌≡◌, ◌<◌, ◌≤◌, ℕ, Bool, true, false, List, get_or, set, Option, Some, None}
use Rattle.std.specs.List.{count_by}

-- whether a number is free
abbrev pub is_free : List Bool → ℕ → Bool
is_free free i = get_or free i false

-- how many are free
abbrev pub count_free : List Bool → ℕ
count_free free = count_by (λ b. b) free

-- the lowest free number from one on, none where none is free from there on
abbrev pub IsLowestFrom : List Bool → ℕ → Option ℕ → Type 0
IsLowestFrom free from None = (i : ℕ) → from ≤ i → is_free free i ≡ false
IsLowestFrom free from (Some k) = (from ≤ k) × (is_free free k ≡ true) × ((i : ℕ) → from ≤ i → i < k → is_free free i ≡ false)

-- the lowest is taken; nothing changes where none is free
abbrev pub TakesLowest : List Bool → Option ℕ → List Bool → Type 0
TakesLowest old None new = ((i : ℕ) → is_free old i ≡ false) × (new ≡ old)
TakesLowest old (Some k) new = (is_free old k ≡ true) × ((i : ℕ) → i < k → is_free old i ≡ false) × (new ≡ set old k false)
