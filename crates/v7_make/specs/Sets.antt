-- The numbers of a set.
use Rattle.std.specs.Prelude.{◌≡◌, ◌<◌, ◌≤◌, ℕ, Bool, true, List, length}
use Rattle.std.specs.List.{range_with_len, filter}
use Rattle.index_sets.specs.Free.{is_free}

-- the free numbers, the lowest first
unfoldable pub rising : List Bool → List ℕ
rising free = filter (is_free free) (range_with_len 0 (length free))

-- how many are free among so many from one on
abbrev pub free_among : List Bool → ℕ → ℕ → ℕ
free_among free from count = length (filter (is_free free) (range_with_len from count))

-- a set for the numbers below a size, of which those from one on are free
pub record AreFrom (from size : ℕ) (free : List Bool) : Type 0 where
  pub long : length free ≡ size
  pub only : (i : ℕ) → is_free free i ≡ true → from ≤ i
  pub all : (i : ℕ) → from ≤ i → i < size → is_free free i ≡ true
