-- The list of mounts: what stands in it, and how it changes.
use Rattle.std.specs.Prelude.{ℕ, ◌≤◌, Bool, not, List, [], ◌∷◌, ◌++◌, length, filter, if◌then◌else◌, ◌&&◌, ◌||◌, nat_eq, nat_le}
use Rattle.std.specs.List.{list_any, AllByRecursion}
use Rattle.std.specs.Cmp.Lexicographic.{pointwise}
use Rattle.mount1.specs.declared.list.Row.{Row}

-- the rows in the order in which they came, and how many volumes are open
pub record Kept : Type 0 where
  pub volumes : ℕ
  pub rows : List Row

abbrev pub with_rows : Kept → List Row → Kept
with_rows kept rows = record { volumes = kept.volumes; rows = rows }

-- a machine's name that a call can have, and a volume that can be open
pub record Fits (row : Row) : Type 0 where
  pub short : length row.machine ≤ 255
  pub named : row.volume ≤ 3

-- at most 64 rows, which fit
pub record AreRows (rows : List Row) : Type 0 where
  pub few : length rows ≤ 64
  pub fit : AllByRecursion Fits rows

-- it is the row of that machine and volume
abbrev pub is_row : List ℕ → ℕ → Row → Bool
is_row machine volume row = pointwise nat_eq row.machine machine && nat_eq row.volume volume

abbrev pub is_of : List ℕ → Row → Bool
is_of machine row = pointwise nat_eq row.machine machine

-- MNT: the pair is appended unless it stands there or 64 rows do
abbrev pub mounted : List ℕ → ℕ → List Row → List Row
mounted machine volume rows = if list_any (is_row machine volume) rows || nat_le 64 (length rows) then rows else rows ++ record { machine = machine; volume = volume } ∷ []

-- UMNT: the pair is removed
abbrev pub unmounted : List ℕ → ℕ → List Row → List Row
unmounted machine volume rows = filter (λ row. not (is_row machine volume row)) rows

-- UMNTALL: all rows of the machine are removed
abbrev pub unmounted_all : List ℕ → List Row → List Row
unmounted_all machine rows = filter (λ row. not (is_of machine row)) rows
