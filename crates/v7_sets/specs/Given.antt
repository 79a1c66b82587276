-- Sets that change by a list.
use Rattle.std.specs.Prelude.{ℕ, Bool, true, List, [], ◌∷◌, set}

-- a set that was given these
abbrev pub given : List ℕ → List Bool → List Bool
given [] free = free
given (a ∷ rest) free = given rest (set free a true)
