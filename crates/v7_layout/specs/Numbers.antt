-- Numbers in bytes, low byte first.
use Rattle.std.specs.Prelude.{◌≡◌, ◌<◌, ℕ, ◌+◌, ◌*◌, ◌^◌, All, List, [], ◌∷◌, ◌++◌, take, drop, map, replicate}
use Rattle.std.specs.List.{flat_map, range_with_len}
use Rattle.byteorder.specs.Endian.{little_bytes}

-- a number, low byte first
abbrev pub little : List ℕ → ℕ
little [] = 0
little (b ∷ bytes) = b + 256 * little bytes

-- n bytes from a place on
unfoldable pub part : List ℕ → ℕ → ℕ → List ℕ
part bytes at n = take n (drop at bytes)

-- the number of n bytes from a place on
unfoldable pub field : List ℕ → ℕ → ℕ → ℕ
field bytes at n = little (part bytes at n)

-- as many numbers of n bytes each, one after the other from a place on
unfoldable pub fields : List ℕ → ℕ → ℕ → ℕ → List ℕ
fields bytes at n count = map (λ k. field bytes (at + n * k) n) (range_with_len 0 count)

-- as many zero bytes
unfoldable pub zeros : ℕ → List ℕ
zeros n = replicate n 0

-- n bytes from a place on are replaced by a piece, and those before and past them stay
pub record IsPutAt (at n : ℕ) (piece old new : List ℕ) : Type 0 where
  pub front : take (at + n) new ≡ take at old ++ piece
  pub rest : drop (at + n) new ≡ drop (at + n) old

-- a number of n bytes stands at a place, and all else stays
pub record IsNumberPutAt (at n number : ℕ) (old new : List ℕ) : Type 0 where
  pub put : IsPutAt at n (little_bytes n number) old new
  pub fits : number < 256 ^ n

-- as many numbers of n bytes each stand one after the other from a place on, and all else stays
pub record AreNumbersPutAt (at n count : ℕ) (numbers old new : List ℕ) : Type 0 where
  pub put : IsPutAt at (n * count) (flat_map (little_bytes n) numbers) old new
  pub fits : All (λ number. number < 256 ^ n) numbers
