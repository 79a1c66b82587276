-- Which block a new directory takes.
use Rattle.std.specs.Prelude.{ℕ, ◌+◌, Option, Some, None}

-- one past a block; 0 where there is none
abbrev pub past : Option ℕ → ℕ
past None = 0
past (Some a) = a + 1

-- one past the new blocks of a parent, of which that of addresses is the higher one
abbrev pub past_new : Option ℕ → Option ℕ → ℕ
past_new sector None = past sector
past_new sector (Some map) = map + 1
