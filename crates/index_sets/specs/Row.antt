-- Numbers in a row with gaps, and the place of each.
use Rattle.std.specs.Prelude.{◌≡◌, ◌≢◌, ◌<◌, ◌≤◌, ◌*◌, ◌^◌, ℕ, List, Option, Some, None, length, get_or, count_by}
use Rattle.std.specs.List.{filter_map}
use Rattle.std.specs.Option.{is_some}
use Rattle.index_sets.specs.declared.row.Row.{Row}
use Rattle.index_sets.specs.Queue.{first_of}

-- the numbers of a row, in its order
abbrev pub numbers_in : List (Option ℕ) → List ℕ
numbers_in items = filter_map (λ item. item) items

-- those of a row with the places
abbrev pub listed_in : Row → List ℕ
listed_in row = numbers_in row.items.items

-- what one list names, names it back in the other
abbrev pub Points : List (Option ℕ) → List (Option ℕ) → Type 0
Points from to = (p k : ℕ) → get_or from p None ≡ Some k → get_or to k None ≡ Some p

-- each number of a row stands at its place, and nowhere else
pub record Agrees (items places : List (Option ℕ)) : Type 0 where
  pub placed : Points items places
  pub standing : Points places items
  pub counted : length (numbers_in items) ≡ count_by is_some places

-- all numbers stand from `head` on and before `end`, the first at `head`
pub record IsRow (row : Row) : Type 0 where
  pub agrees : Agrees row.items.items row.places.items
  pub size : length row.places.items ≡ row.size
  pub small : row.size < 2 ^ 32
  pub room : length row.items.items ≡ 2 * row.size
  pub head : row.head ≤ row.end
  pub end : row.end ≤ 2 * row.size
  pub before : (p : ℕ) → p < row.head → get_or row.items.items p None ≡ None
  pub past : (p : ℕ) → row.end ≤ p → get_or row.items.items p None ≡ None
  pub first : first_of (listed_in row) ≡ get_or row.items.items row.head None
  pub count : row.count ≡ length (listed_in row)

-- while gaps are taken out: before `to` all are numbers, and from there to `from` all are gaps
pub record IsPacking (row : Row) (to from : ℕ) : Type 0 where
  pub agrees : Agrees row.items.items row.places.items
  pub size : length row.places.items ≡ row.size
  pub room : length row.items.items ≡ 2 * row.size
  pub end : row.end ≤ 2 * row.size
  pub low : to ≤ from
  pub full : (p : ℕ) → p < to → get_or row.items.items p None ≢ None
  pub gaps : (p : ℕ) → to ≤ p → p < from → get_or row.items.items p None ≡ None
  pub past : (p : ℕ) → row.end ≤ p → get_or row.items.items p None ≡ None
  pub count : row.count ≡ length (listed_in row)
