-- What a word of the entries says beside the entries of lower indices.
use Rattle.std.specs.Prelude.{◌≡◌, ◌≢◌, ◌⊎◌, ◌+◌, ◌<◌, ℕ, List, [], ◌∷◌, ◌++◌, get_or, Result, Ok, Err}
use Rattle.std.specs.List.{All}
use Rattle.rig.specs.Devices.{Devices, Sizes}
use Rattle.nvram_map.specs.Overlay.{entry_sector, entry_buffer}
use Rattle.nvram_map.specs.Words.{mark, name_word, name_in, word_of, IsEntryWord, AreEntries, IsFirstBad}
use Rattle.nvram_map.specs.Boards.{entry_at, entries_from, FitBoard}
use Rattle.nvram_map.specs.declared.board.BoardEntry.{BoardEntry}
use Rattle.nvram_map.specs.declared.fault.BoardFault.{BoardFault}
use Rattle.nvram_map.specs.declared.fault.BoardFault.TheVariants.{Lost, NotFormatted, WrongVolume, BadEntry, Failed, NoMemory}
use Rattle.nvram_map.specs.declared.judging.Word.{Word}
use Rattle.nvram_map.specs.declared.judging.Word.TheVariants.{Free, Entry, Damaged}

-- an entry word of this board, with its sector and its buffer
pub record HasEntry (sizes : Sizes) (word sector buffer : ℕ) : Type 0 where
  pub on_disk : sector < sizes.sectors
  pub on_board : buffer < sizes.buffers
  pub word_is : word ≡ word_of sector buffer
  pub sector_is : entry_sector word ≡ sector
  pub buffer_is : entry_buffer word ≡ buffer

-- what a word says by itself
abbrev pub Says : Sizes → ℕ → Word → Type 0
Says sizes word Free = word ≡ 0
Says sizes word (Entry sector buffer) = HasEntry sizes word sector buffer
Says sizes word Damaged = (word ≢ 0) × (IsEntryWord sizes word → ⊥)

-- no entry has the sector or the buffer
abbrev pub AreUnused : ℕ → ℕ → List BoardEntry → Type 0
AreUnused sector buffer board = All (λ (entry : BoardEntry). (entry.sector ≢ sector) × (entry.buffer ≢ buffer)) board

-- a word that is free adds nothing, and an entry word comes behind the others where they leave it its sector and its buffer
abbrev pub IsAdded : Sizes → List BoardEntry → ℕ → ℕ → List BoardEntry → Type 0
IsAdded sizes old index word new =
    ((word ≡ 0) × (new ≡ old))
    ⊎ (HasEntry sizes word (entry_sector word) (entry_buffer word) × AreUnused (entry_sector word) (entry_buffer word) old × (new ≡ old ++ entry_at index word ∷ []))

-- else the word is bad, or there was no memory
abbrev pub IsRefused : Sizes → List BoardEntry → ℕ → ℕ → BoardFault → Type 0
IsRefused sizes old index word (BadEntry i bad) = (i ≡ index) × (bad ≡ word) × (word ≢ 0) × (IsEntryWord sizes word → AreUnused (entry_sector word) (entry_buffer word) old → ⊥)
IsRefused sizes old index word NoMemory = Unit {0}
IsRefused sizes old index word Lost = ⊥
IsRefused sizes old index word (NotFormatted first) = ⊥
IsRefused sizes old index word (WrongVolume board volume) = ⊥
IsRefused sizes old index word Failed = ⊥

-- what the answer says of the entries' words where they are told
abbrev pub AreTold : Sizes → List ℕ → Result (List BoardEntry) BoardFault → Type 0
AreTold sizes words (Ok board) = AreEntries sizes words × (board ≡ entries_from 0 words)
AreTold sizes words (Err (BadEntry i bad)) = (bad ≡ get_or words i 0) × IsFirstBad sizes words i
AreTold sizes words (Err NoMemory) = Unit {0}
AreTold sizes words (Err Failed) = Unit {0}
AreTold sizes words (Err Lost) = ⊥
AreTold sizes words (Err (NotFormatted first)) = ⊥
AreTold sizes words (Err (WrongVolume board volume)) = ⊥

-- and over any rig
abbrev pub AreSafe : Sizes → Result (List BoardEntry) BoardFault → Type 0
AreSafe sizes (Ok board) = FitBoard sizes board
AreSafe sizes (Err (BadEntry i bad)) = (i + 1 < sizes.buffers) × (bad ≢ 0)
AreSafe sizes (Err NoMemory) = Unit {0}
AreSafe sizes (Err Failed) = Unit {0}
AreSafe sizes (Err Lost) = ⊥
AreSafe sizes (Err (NotFormatted first)) = ⊥
AreSafe sizes (Err (WrongVolume board volume)) = ⊥

-- why a board isn't taken as formatted
abbrev pub IsUnmarked : Type 0 → Devices → BoardFault → Type 0
IsUnmarked tells d (NotFormatted word) = (word ≢ mark) × (tells → word ≡ get_or d.words 0 0)
IsUnmarked tells d Failed = Unit {0}
IsUnmarked tells d Lost = ⊥
IsUnmarked tells d (WrongVolume board name) = ⊥
IsUnmarked tells d (BadEntry i bad) = ⊥
IsUnmarked tells d NoMemory = ⊥

-- why a board isn't taken as that of the volume
abbrev pub IsMisnamed : Type 0 → List ℕ → Devices → BoardFault → Type 0
IsMisnamed tells volume d (WrongVolume board name) = (name ≡ volume) × (tells → (get_or d.words 1 0 ≢ name_word volume) × (board ≡ name_in (get_or d.words 1 0)))
IsMisnamed tells volume d Failed = Unit {0}
IsMisnamed tells volume d Lost = ⊥
IsMisnamed tells volume d (NotFormatted word) = ⊥
IsMisnamed tells volume d (BadEntry i bad) = ⊥
IsMisnamed tells volume d NoMemory = ⊥
