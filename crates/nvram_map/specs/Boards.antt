-- What is read of a board: its entries, or why it is refused.
use Rattle.std.specs.Prelude.{◌≡◌, ◌≢◌, ◌+◌, ◌<◌, ℕ, suc, true, false, if◌then◌else◌, List, [], ◌∷◌, length, get_or, Result, Ok, Err}
use Rattle.rig.specs.Devices.{Devices, Sizes}
use Rattle.nvram_map.specs.Overlay.{is_entry, entries, entry_sector, entry_buffer}
use Rattle.nvram_map.specs.Words.{mark, name_word, name_in, IsBoardOf, IsFirstBad}
use Rattle.nvram_map.specs.declared.board.BoardEntry.{BoardEntry}
use Rattle.nvram_map.specs.declared.board.Board.{Board}
use Rattle.nvram_map.specs.declared.fault.BoardFault.{BoardFault}
use Rattle.nvram_map.specs.declared.fault.BoardFault.TheVariants.{Lost, NotFormatted, WrongVolume, BadEntry, Failed, NoMemory}

-- the entry for which a set word stands
abbrev pub entry_at : ℕ → ℕ → BoardEntry
entry_at index word = record { index = index; sector = entry_sector word; buffer = entry_buffer word }

-- what the words from an index on have as entries: one for each set word, by rising index
abbrev pub entries_from : ℕ → List ℕ → List BoardEntry
entries_from index [] = []
entries_from index (word ∷ words) = if is_entry word then entry_at index word ∷ entries_from (suc index) words else entries_from (suc index) words

-- what stands past the end of a list of entries
abbrev pub no_entry : BoardEntry
no_entry = record { index = 0; sector = 0; buffer = 0 }

-- Entries of a board with so many buffers: in range, and no two of one index, one sector or one buffer. Of buffers there is one more than of entries.
pub record FitBuffers (buffers : ℕ) (board : List BoardEntry) : Type 0 where
  pub index_fits : (k : ℕ) → k < length board → (get_or board k no_entry).index + 1 < buffers
  pub buffer_fits : (k : ℕ) → k < length board → (get_or board k no_entry).buffer < buffers
  pub indices : (j k : ℕ) → j < k → k < length board → (get_or board j no_entry).index ≢ (get_or board k no_entry).index
  pub sectors : (j k : ℕ) → j < k → k < length board → (get_or board j no_entry).sector ≢ (get_or board k no_entry).sector
  pub buffers_differ : (j k : ℕ) → j < k → k < length board → (get_or board j no_entry).buffer ≢ (get_or board k no_entry).buffer

-- the same, by rising index, and each sector is on the disk
pub record FitBoard (sizes : Sizes) (board : List BoardEntry) : Type 0 where
  pub fits : FitBuffers sizes.buffers board
  pub rising : (j k : ℕ) → j < k → k < length board → (get_or board j no_entry).index < (get_or board k no_entry).index
  pub on_disk : (k : ℕ) → k < length board → (get_or board k no_entry).sector < sizes.sectors

-- What the answer says of devices that are told. Each answer but Failed and NoMemory rules out each other one.
abbrev pub IsTold : Sizes → List ℕ → Devices → Result Board BoardFault → Type 0
IsTold sizes volume d (Ok board) = (d.kept ≡ true) × IsBoardOf sizes (name_word volume) d × (board.entries ≡ entries_from 0 (entries d))
IsTold sizes volume d (Err Lost) = d.kept ≡ false
IsTold sizes volume d (Err (NotFormatted word)) = (d.kept ≡ true) × (word ≡ get_or d.words 0 0) × (word ≢ mark)
IsTold sizes volume d (Err (WrongVolume board name)) = (d.kept ≡ true) × (get_or d.words 0 0 ≡ mark) × (get_or d.words 1 0 ≢ name_word volume) × (board ≡ name_in (get_or d.words 1 0))
IsTold sizes volume d (Err (BadEntry index word)) =
    (d.kept ≡ true) × (get_or d.words 0 0 ≡ mark) × (get_or d.words 1 0 ≡ name_word volume) × (word ≡ get_or (entries d) index 0) × IsFirstBad sizes (entries d) index
IsTold sizes volume d (Err Failed) = Unit {0}
IsTold sizes volume d (Err NoMemory) = Unit {0}

-- what the answer says over any rig
abbrev pub IsSafe : Sizes → List ℕ → Result Board BoardFault → Type 0
IsSafe sizes volume (Ok board) = (board.name ≡ volume) × FitBoard sizes board.entries
IsSafe sizes volume (Err Lost) = Unit {0}
IsSafe sizes volume (Err (NotFormatted word)) = word ≢ mark
IsSafe sizes volume (Err (WrongVolume board name)) = name ≡ volume
IsSafe sizes volume (Err (BadEntry index word)) = (index + 1 < sizes.buffers) × (word ≢ 0)
IsSafe sizes volume (Err Failed) = Unit {0}
IsSafe sizes volume (Err NoMemory) = Unit {0}
