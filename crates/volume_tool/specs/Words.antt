-- The words of the command line.
use Rattle.std.specs.Prelude.{ℕ, ◌^◌, ◌-◌, Bool, true, false, ◌&&◌, List, [], ◌∷◌, length, Option, Some, None, nat_eq, nat_le, nat_lt, if◌then◌else◌, codes}
use Rattle.std.specs.Char.{is_ascii_alphanumeric}
use Rattle.std.specs.List.{list_all}
use Rattle.std.specs.Option.{option_map, option_and_then}
use Rattle.std.specs.Str.{bytes_eq}
use Rattle.run_lines.specs.Naming.{Named, named_by}
use Rattle.run_lines.specs.Numbers.{number_of}

-- a volume that is to be made: its sectors, its inodes, the buffers of its board, its name, and the second
pub record Plan : Type 0 where
  pub size : ℕ
  pub inodes : ℕ
  pub buffers : ℕ
  pub name : List ℕ
  pub second : ℕ

-- what the words ask for: to make a volume, to inspect one, or to mend one and stop it cleanly, perhaps with the loss of its board accepted
pub data Asked : Type 0 where
  Make : Named → Plan → Asked
  Check : Named → Asked
  Recover : Named → Bool → Asked

-- a number of one to ten decimal digits, of 32 bits
abbrev pub word_number : List ℕ → Option ℕ
word_number = number_of (2 ^ 32 - 1)

-- six letters or digits
abbrev pub name_of : List ℕ → Option (List ℕ)
name_of bytes = if nat_eq (length bytes) 6 && list_all is_ascii_alphanumeric bytes then Some bytes else None

-- the numbers and the name of a volume that is to be made; it has one inode at least
abbrev pub plan_with : Option ℕ → Option ℕ → Option ℕ → Option (List ℕ) → Option ℕ → Option Plan
plan_with (Some size) (Some inodes) (Some buffers) (Some name) (Some now) = if nat_lt 0 inodes then Some (record { size = size; inodes = inodes; buffers = buffers; name = name; second = now }) else None
plan_with _ _ _ _ _ = None

-- SIZE INODES BUFFERS NAME NOW
abbrev pub plan_of : List (List ℕ) → Option Plan
plan_of (size ∷ inodes ∷ buffers ∷ name ∷ now ∷ []) = plan_with (word_number size) (word_number inodes) (word_number buffers) (name_of name) (word_number now)
plan_of _ = None

-- a board has 2 to 2,048 buffers, and there are none without one
abbrev pub fits_board : Option (List ℕ) → ℕ → Bool
fits_board None buffers = nat_eq buffers 0
fits_board (Some board) buffers = nat_le 2 buffers && nat_le buffers 2048

abbrev pub make_with : Named → Plan → Option Asked
make_with volume plan = if fits_board volume.board plan.buffers then Some (Make volume plan) else None

-- VOLUME SIZE INODES BUFFERS NAME NOW
abbrev pub make_of : List (List ℕ) → Option Asked
make_of [] = None
make_of (volume ∷ plan) = option_and_then (λ (named : Named). option_and_then (make_with named) (plan_of plan)) (named_by volume)

-- VOLUME
abbrev pub check_of : List (List ℕ) → Option Asked
check_of [] = None
check_of (volume ∷ []) = option_map Check (named_by volume)
check_of (volume ∷ more ∷ rest) = None

-- nothing, or `accept-loss`
abbrev pub loss_of : List (List ℕ) → Option Bool
loss_of [] = Some false
loss_of (word ∷ []) = if bytes_eq word (codes "accept-loss") then Some true else None
loss_of (word ∷ more ∷ rest) = None

-- VOLUME, or VOLUME accept-loss
abbrev pub recover_of : List (List ℕ) → Option Asked
recover_of [] = None
recover_of (volume ∷ rest) = option_and_then (λ (named : Named). option_map (Recover named) (loss_of rest)) (named_by volume)

-- what all words ask for; none where they aren't of the grammar
abbrev pub asked_by : List (List ℕ) → Option Asked
asked_by [] = None
asked_by (verb ∷ words) =
    if bytes_eq verb (codes "mkfs") then make_of words
    else if bytes_eq verb (codes "check") then check_of words
    else if bytes_eq verb (codes "recover") then recover_of words
    else None
