-- What the words of `nfsd` ask for (docs/CALLS.md, "Words").
use Rattle.std.specs.Prelude.{ℕ, Bool, true, false, not, ◌&&◌, List, [], ◌∷◌, flat_map, length, Option, Some, None, nat_le, if◌then◌else◌, codes}
use Rattle.std.specs.List.{list_any}
use Rattle.std.specs.Str.{bytes_eq}
use Rattle.std.specs.Option.{option_map, option_map_or, option_and_then}
use Rattle.clap.specs.Words.{Row, Text, all_of, first_of}
use Rattle.run_lines.specs.Naming.{Named, named_by}
use Rattle.run_lines.specs.Numbers.{number_of}
use Rattle.server_words.specs.Command.{accepted}

-- how many workers there are, how many turns each takes, the port, whether the volumes stay DOWN, and whether the loss of a board is accepted
pub record Options : Type 0 where
  pub workers : ℕ
  pub turns : ℕ
  pub port : ℕ
  pub down : Bool
  pub accept_loss : Bool

-- what the words ask for
pub record Words : Type 0 where
  pub volumes : List Named
  pub options : Options

-- ---- numbers

-- the number, if it is not below the least
abbrev pub from_least : ℕ → ℕ → Option ℕ
from_least least n = if nat_le least n then Some n else None

-- the number that an option's text gives, of one to ten decimal digits and between these two; where the option isn't given, the number that stands for it
abbrev pub number_in : ℕ → ℕ → ℕ → Option Text → Option ℕ
number_in least most default None = Some default
number_in least most default (Some text) = option_and_then (from_least least) (number_of most text)

-- one worker serves, and `--workers 1` may say so
abbrev pub workers_in : List Row → Option ℕ
workers_in rows = number_in 1 1 1 (first_of (codes "workers") rows)

abbrev pub turns_in : List Row → Option ℕ
turns_in rows = number_in 1 1000000000 1000000 (first_of (codes "turns") rows)

abbrev pub port_in : List Row → Option ℕ
port_in rows = number_in 1 65535 2049 (first_of (codes "port") rows)

-- whether the flag stands
abbrev pub flag_in : Text → List Row → Bool
flag_in name rows = option_map_or (λ text. bytes_eq text (codes "true")) (first_of name rows) false

-- the options, where each number is one
abbrev pub options_with : List Row → ℕ → ℕ → ℕ → Options
options_with rows workers turns port = record {
  workers = workers;
  turns = turns;
  port = port;
  down = flag_in (codes "down") rows;
  accept_loss = flag_in (codes "accept-loss") rows;
}

abbrev pub options_in : List Row → Option Options
options_in rows = option_and_then (λ workers. option_and_then (λ turns. option_map (options_with rows workers turns) (port_in rows)) (turns_in rows)) (workers_in rows)

-- ---- volumes

-- what the words name, where each names a volume
abbrev pub named_by_each : List Text → Option (List Named)
named_by_each [] = Some []
named_by_each (word ∷ rest) = option_and_then (λ (volume : Named). option_map (λ (volumes : List Named). volume ∷ volumes) (named_by_each rest)) (named_by word)

-- the disk, and the board if there is one
abbrev pub parts_of : Named → List Text
parts_of volume = volume.disk ∷ option_map_or (λ board. board ∷ []) volume.board []

-- no two of them are equal
abbrev pub are_distinct : List Text → Bool
are_distinct [] = true
are_distinct (part ∷ rest) = not (list_any (bytes_eq part) rest) && are_distinct rest

-- they are one to four, and no two of all their parts are equal
abbrev pub are_apart : List Named → Bool
are_apart volumes = nat_le 1 (length volumes) && nat_le (length volumes) 4 && are_distinct (flat_map parts_of volumes)

abbrev pub if_apart : List Named → Option (List Named)
if_apart volumes = if are_apart volumes then Some volumes else None

abbrev pub volumes_in : List Row → Option (List Named)
volumes_in rows = option_and_then if_apart (option_and_then named_by_each (all_of (codes "volume") rows))

-- ---- all words

-- what the command's matches mean, where the checks on numbers and volumes hold
abbrev pub meaning_of : List Row → Option Words
meaning_of rows = option_and_then (λ (options : Options). option_map (λ (volumes : List Named). record { volumes = volumes; options = options }) (volumes_in rows)) (options_in rows)

-- what the words ask for; none where they aren't of the grammar: where the command doesn't accept them, or a number or a volume fails its check
abbrev pub asked_by : List Text → Option Words
asked_by words = option_and_then meaning_of (accepted words)
