-- Numbers on the command line (docs/CALLS.md, "Words").
use Rattle.std.specs.Prelude.{ℕ, ◌+◌, ◌-◌, ◌*◌, ◌&&◌, List, [], ◌∷◌, length, Option, Some, None, nat_le, if◌then◌else◌}

-- the number that decimal digits go on with, none above the most
abbrev pub digits : ℕ → ℕ → List ℕ → Option ℕ
digits most n [] = Some n
digits most n (b ∷ bytes) = if nat_le 48 b && nat_le b 57 && nat_le (10 * n + (b - 48)) most then digits most (10 * n + (b - 48)) bytes else None

-- a number of one to ten decimal digits, none above the most
abbrev pub number_of : ℕ → List ℕ → Option ℕ
number_of most bytes = if nat_le 1 (length bytes) && nat_le (length bytes) 10 then digits most 0 bytes else None
