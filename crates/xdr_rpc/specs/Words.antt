-- Words, and bytes with their length and padding: how they are read from the front of bytes, and what is written (RFC 1014).
use Rattle.std.specs.Prelude.{◌≡◌, ℕ, ◌-◌, ◌%◌, List, [], ◌∷◌, ◌++◌, length, take, drop, replicate, Option, Some, None, nat_lt, if◌then◌else◌}
use Rattle.std.specs.List.{flat_map}
use Rattle.byteorder.specs.Endian.{big_number, big_bytes}

-- a reading goes on with what was read
infixl 10 ◌>>=◌
abbrev pub ◌>>=◌ : {A B : Type 0} → Option A → (A → Option B) → Option B
None >>= f = None
(Some x) >>= f = f x

-- what a function returned, seen by view, is what reading gives
abbrev pub Gives : {X Y : Type 0} → (X → Y) → Option X → Option Y → Type 0
Gives view None read = read ≡ None
Gives view (Some x) read = read ≡ Some (view x)

-- ---- reading: a value and the bytes after it

-- four bytes, the high one first
unfoldable pub word : List ℕ → Option (ℕ × List ℕ)
word bytes = if nat_lt (length bytes) 4 then None else Some (big_number 4 bytes, drop 4 bytes)

-- n bytes
unfoldable pub fixed : ℕ → List ℕ → Option (List ℕ × List ℕ)
fixed n bytes = if nat_lt (length bytes) n then None else Some (take n bytes, drop n bytes)

-- how many bytes follow n bytes, up to a multiple of four
abbrev pub padding : ℕ → ℕ
padding n = (4 - n % 4) % 4

-- n bytes and their padding, which may be any bytes
unfoldable pub padded : ℕ → List ℕ → Option (List ℕ × List ℕ)
padded n bytes = do
  body ← fixed n bytes
  pad ← fixed (padding n) body.1
  Some (body.0, pad.1)

-- a length of at most bound, and so many bytes with their padding
unfoldable pub opaque : ℕ → List ℕ → Option (List ℕ × List ℕ)
opaque bound bytes = do
  n ← word bytes
  if nat_lt bound n.0 then None else padded n.0 n.1

-- ---- writing

-- words, each as four bytes, the high one first
unfoldable pub words : List ℕ → List ℕ
words numbers = flat_map (big_bytes 4) numbers

-- bytes with their length before them, and zeros behind them up to a multiple of four
unfoldable pub opaque_bytes : List ℕ → List ℕ
opaque_bytes bytes = words (length bytes ∷ []) ++ bytes ++ replicate (padding (length bytes)) 0

-- bytes that are written one after the other, and how many more there is room for
pub record Written : Type 0 where
  pub bytes : List ℕ
  pub room : ℕ

-- some more bytes are written
abbrev pub added : Written → List ℕ → Written
added w more = record { bytes = w.bytes ++ more; room = w.room - length more }
