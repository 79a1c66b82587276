-- What the words of a board say.
use Rattle.std.specs.Prelude.{◌≡◌, ◌≢◌, ◌+◌, ◌*◌, ◌%◌, ◌^◌, ◌<◌, ℕ, List, get_or}
use Rattle.byteorder.specs.Endian.{big_number, big_bytes}
use Rattle.rig.specs.Devices.{Devices, Sizes}
use Rattle.nvram_map.specs.Overlay.{entries, entry_sector, entry_buffer}

-- an entry of this sector and this buffer
abbrev pub word_of : ℕ → ℕ → ℕ
word_of sector buffer = 2 ^ 63 + buffer * 2 ^ 32 + sector

-- a word that stands for an entry of this board
abbrev pub IsEntryWord : Sizes → ℕ → Type 0
IsEntryWord sizes word = (sector : ℕ) × (buffer : ℕ) × (sector < sizes.sectors) × (buffer < sizes.buffers) × (word ≡ word_of sector buffer)

-- each word is 0 or an entry, and no two entries have one sector or one buffer
pub record AreEntries (sizes : Sizes) (words : List ℕ) : Type 0 where
  pub each : (i : ℕ) → get_or words i 0 ≢ 0 → IsEntryWord sizes (get_or words i 0)
  pub sectors : (i j : ℕ) → i ≢ j → get_or words i 0 ≢ 0 → get_or words j 0 ≢ 0 → entry_sector (get_or words i 0) ≢ entry_sector (get_or words j 0)
  pub buffers : (i j : ℕ) → i ≢ j → get_or words i 0 ≢ 0 → get_or words j 0 ≢ 0 → entry_buffer (get_or words i 0) ≢ entry_buffer (get_or words j 0)

-- the word at this index is 0, or an entry whose sector and buffer no entry of a lower index has
pub record IsGood (sizes : Sizes) (words : List ℕ) (i : ℕ) : Type 0 where
  pub entry : get_or words i 0 ≢ 0 → IsEntryWord sizes (get_or words i 0)
  pub sector : (j : ℕ) → j < i → get_or words i 0 ≢ 0 → get_or words j 0 ≢ 0 → entry_sector (get_or words i 0) ≢ entry_sector (get_or words j 0)
  pub buffer : (j : ℕ) → j < i → get_or words i 0 ≢ 0 → get_or words j 0 ≢ 0 → entry_buffer (get_or words i 0) ≢ entry_buffer (get_or words j 0)

-- the lowest index whose word isn't good
pub record IsFirstBad (sizes : Sizes) (words : List ℕ) (i : ℕ) : Type 0 where
  pub bad : IsGood sizes words i → ⊥
  pub lower : (j : ℕ) → j < i → IsGood sizes words j

-- "PRESTOV1"
abbrev pub mark : ℕ
mark = 0x50524553544F5631

-- a volume's name as a word: six bytes, the first the highest of the low 48 bits
abbrev pub name_word : List ℕ → ℕ
name_word name = big_number 6 name

-- the six bytes in the low 48 bits of a word
abbrev pub name_in : ℕ → List ℕ
name_in word = big_bytes 6 (word % 2 ^ 48)

-- the words are those of a board of the volume with that name, as a number
pub record IsBoardOf (sizes : Sizes) (name : ℕ) (d : Devices) : Type 0 where
  pub marked : get_or d.words 0 0 ≡ mark
  pub named : get_or d.words 1 0 ≡ name
  pub entries_are : AreEntries sizes (entries d)
