-- Free numbers as bits of words.
use Rattle.std.specs.Prelude.{◌≡◌, ◌<◌, ◌≤◌, ◌/◌, ◌%◌, ◌==◌, ◌*◌, ◌-◌, ℕ, Bool, true, false, List, length, get_or, map, Option, Some, None}
use Rattle.std.specs.Int.{bit_at}
use Rattle.std.specs.List.{range_with_len, count_by}

-- the bit of a number in words of 64 bits, the lowest number in the lowest bit of the first
unfoldable pub bit : List ℕ → ℕ → Bool
bit words i = bit_at (get_or words (i / 64) 0) (i % 64) == 1

-- the numbers below a size that words hold
unfoldable pub free_in : List ℕ → ℕ → List Bool
free_in words size = map (bit words) (range_with_len 0 size)

-- how many bits of a word are set
unfoldable pub bits_of : ℕ → ℕ
bits_of word = count_by (λ k. bit_at word k == 1) (range_with_len 0 64)

-- how many bits are set from one on
unfoldable pub bits_from : List ℕ → ℕ → ℕ
bits_from words from = count_by (bit words) (range_with_len from (64 * length words - from))

-- the lowest bit that is set from one on, none where none is
abbrev pub IsLowestBit : List ℕ → ℕ → Option ℕ → Type 0
IsLowestBit words from None = (i : ℕ) → from ≤ i → bit words i ≡ false
IsLowestBit words from (Some k) = (from ≤ k) × (bit words k ≡ true) × ((i : ℕ) → from ≤ i → i < k → bit words i ≡ false)
