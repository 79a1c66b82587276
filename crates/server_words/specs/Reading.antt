-- What was read of the words.
use Rattle.std.specs.Prelude.{◌≡◌, ◌≤◌, List, length, map}
use Rattle.std.specs.List.{All}
use Rattle.run_lines.specs.declared.naming.Named.{Named}
use Rattle.run_lines.specs.Naming.{named_of}
use Rattle.server_words.specs.Words.{Options, Words}
use Rattle.server_words.specs.declared.options.Options.{Options as ReadOptions}
use Rattle.server_words.specs.declared.reading.Words.{Words as ReadWords}

abbrev pub options_read : ReadOptions → Options
options_read options = record { workers = options.workers; turns = options.turns; port = options.port; down = options.down; accept_loss = options.accept_loss }

abbrev pub words_read : ReadWords → Words
words_read words = record { volumes = map named_of words.volumes.items; options = options_read words.options }

-- one to four volumes, each named by a short word
pub record AreWithin (volumes : List Named) : Type 0 where
  pub some : 1 ≤ length volumes
  pub few : length volumes ≤ 4
  pub short : All (λ volume. length volume.word.now ≤ 401) volumes

-- one worker, and numbers in their ranges
pub record HaveRanges (options : ReadOptions) : Type 0 where
  pub workers : options.workers ≡ 1
  pub some_turns : 1 ≤ options.turns
  pub few_turns : options.turns ≤ 1000000000
  pub port : 1 ≤ options.port

-- what is so of all words of the grammar
pub record IsWithin (words : ReadWords) : Type 0 where
  pub volumes : AreWithin words.volumes.items
  pub options : HaveRanges words.options
