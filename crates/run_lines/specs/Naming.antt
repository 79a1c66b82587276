-- The word that names a disk, and a board in front of it (docs/CALLS.md, "Words").
use Rattle.std.specs.Prelude.{ℕ, Bool, not, ◌&&◌, List, [], ◌∷◌, length, Option, Some, None, nat_eq, nat_le, if◌then◌else◌}
use Rattle.std.specs.Str.{bytes_eq}
use Rattle.std.specs.Option.{option_map}
use Rattle.run_lines.specs.declared.naming.Named.{Named as NamedWord}

-- a disk, and a board in front of it if there is one; `word` is the word that names them
pub record Named : Type 0 where
  pub word : List ℕ
  pub disk : List ℕ
  pub board : Option (List ℕ)

-- one to 200 bytes
abbrev pub is_part : List ℕ → Bool
is_part bytes = nat_le 1 (length bytes) && nat_le (length bytes) 200

-- the word names a disk; or a disk and another board, where it is cut in two
abbrev pub named_parts : List ℕ → Option (List ℕ × List ℕ) → Option Named
named_parts word None = if is_part word then Some (record { word = word; disk = word; board = None }) else None
named_parts word (Some parts) = if is_part parts.0 && is_part parts.1 && not (bytes_eq parts.0 parts.1) then Some (record { word = word; disk = parts.0; board = Some parts.1 }) else None

-- what stands before and after the last colon, of a byte and of what was found in the bytes after it
abbrev pub cut_with : ℕ → List ℕ → Option (List ℕ × List ℕ) → Option (List ℕ × List ℕ)
cut_with b bytes (Some parts) = Some (b ∷ parts.0, parts.1)
cut_with b bytes None = if nat_eq b 58 then Some ([], bytes) else None

-- the bytes before and after the last colon, if there is one
abbrev pub cut_last : List ℕ → Option (List ℕ × List ℕ)
cut_last [] = None
cut_last (b ∷ bytes) = cut_with b bytes (cut_last bytes)

-- DISK, or DISK:BOARD, cut at the last colon
abbrev pub named_by : List ℕ → Option Named
named_by word = named_parts word (cut_last word)

-- what was read of a word
abbrev pub named_of : NamedWord → Named
named_of named = record { word = named.word.now; disk = named.disk.now; board = option_map (λ board. board.now) named.board }
