-- What a disk and its board hold, and what a call on them may leave (docs/DEVICES.md).
use Rattle.std.specs.Prelude.{◌≡◌, ◌⊎◌, ◌+◌, ◌<◌, ◌≤◌, ◌^◌, ℕ, Bool, true, List, [], length, get_or, set, Option, Some}
use Rattle.stable.specs.Counts.{one_more}
use Rattle.stable.specs.declared.battery.Battery.{Battery}

-- the sectors, the board's words and buffers, and whether the board kept its memory
pub record Devices : Type 0 where
  pub disk : List (List ℕ)
  pub words : List ℕ
  pub buffers : List (List ℕ)
  pub kept : Bool

-- 512 bytes
pub record IsSector (bytes : List ℕ) : Type 0 where
  pub size : length bytes ≡ 512
  pub fits : (k : ℕ) → get_or bytes k 0 < 256

-- how many sectors, words and buffers there are
pub record Sizes : Type 0 where
  pub sectors : ℕ
  pub words : ℕ
  pub buffers : ℕ

-- the sizes of these lists
abbrev pub sizes_of : List (List ℕ) → List ℕ → List (List ℕ) → Sizes
sizes_of disk words buffers = record { sectors = length disk; words = length words; buffers = length buffers }

-- as many of each, and each one whole
pub record HasShape (sizes : Sizes) (d : Devices) : Type 0 where
  pub disk : length d.disk ≡ sizes.sectors
  pub words : length d.words ≡ sizes.words
  pub buffers : length d.buffers ≡ sizes.buffers
  pub each_sector : (i : ℕ) → i < sizes.sectors → IsSector (get_or d.disk i [])
  pub each_word : (i : ℕ) → get_or d.words i 0 < 2 ^ 64
  pub each_buffer : (i : ℕ) → i < sizes.buffers → IsSector (get_or d.buffers i [])

-- a board has 2 to 2,048 buffers and a word more; without one nothing is lost
pub record IsBoard (sizes : Sizes) (kept : Bool) : Type 0 where
  pub most : sizes.buffers ≤ 2048
  pub some_words : 0 < sizes.buffers → sizes.words ≡ sizes.buffers + 1
  pub some_buffers : 0 < sizes.buffers → 2 ≤ sizes.buffers
  pub no_words : sizes.buffers ≡ 0 → sizes.words ≡ 0
  pub no_loss : sizes.buffers ≡ 0 → kept ≡ true

-- how often the battery was read, and what it was at last
pub record Readings : Type 0 where
  pub count : ℕ
  pub last : Option Battery

-- it was read once more
pub record IsRead (old : Readings) (battery : Battery) (new : Readings) : Type 0 where
  pub later : old.count ≤ new.count
  pub count : new.count ≡ one_more old.count
  pub last : new.last ≡ Some battery

-- with another sector
abbrev pub with_sector : Devices → ℕ → List ℕ → Devices
with_sector d i bytes = record d { disk = set d.disk i bytes }

-- with another word
abbrev pub with_word : Devices → ℕ → ℕ → Devices
with_word d i word = record d { words = set d.words i word }

-- with another buffer
abbrev pub with_buffer : Devices → ℕ → List ℕ → Devices
with_buffer d i bytes = record d { buffers = set d.buffers i bytes }

-- with the mark that the memory was kept
abbrev pub with_kept : Devices → Devices
with_kept d = record d { kept = true }

-- a call that only reads leaves all as it is
abbrev pub Unchanged : Devices → Devices → Type 0
Unchanged old d = d ≡ old

-- a write, done, failed or cut
abbrev pub SectorOldOrNew : ℕ → List ℕ → Devices → Devices → Type 0
SectorOldOrNew i bytes old d = (d ≡ old) ⊎ (d ≡ with_sector old i bytes)

-- a stored word, done, failed or cut
abbrev pub WordOldOrNew : ℕ → ℕ → Devices → Devices → Type 0
WordOldOrNew i word old d = (d ≡ old) ⊎ (d ≡ with_word old i word)

-- a stored buffer, done, failed or cut: it may hold any bytes
abbrev pub BufferAny : ℕ → Devices → Devices → Type 0
BufferAny i old d = (bytes : List ℕ) × (d ≡ with_buffer old i bytes)

-- a mark, done, failed or cut
abbrev pub KeptOldOrTrue : Devices → Devices → Type 0
KeptOldOrTrue old d = (d ≡ old) ⊎ (d ≡ with_kept old)
