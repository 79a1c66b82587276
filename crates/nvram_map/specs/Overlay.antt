-- The disk as a kept board completes it.
use Rattle.std.specs.Prelude.{◌≡◌, ◌≢◌, ◌⊎◌, ◌/◌, ◌%◌, ◌^◌, ℕ, Bool, true, false, if◌then◌else◌, nat_le, List, [], ◌∷◌, get_or, set, drop}
use Rattle.rig.specs.Devices.{Devices}

-- a set entry names a sector and a buffer
abbrev pub is_entry : ℕ → Bool
is_entry word = nat_le (2 ^ 63) word

abbrev pub entry_sector : ℕ → ℕ
entry_sector word = word % 2 ^ 32

abbrev pub entry_buffer : ℕ → ℕ
entry_buffer word = word / 2 ^ 32 % 2 ^ 16

-- each set entry's sector is replaced by its buffer
abbrev pub laid : List ℕ → List (List ℕ) → List (List ℕ) → List (List ℕ)
laid [] buffers disk = disk
laid (word ∷ entries) buffers disk = laid entries buffers (if is_entry word then set disk (entry_sector word) (get_or buffers (entry_buffer word) []) else disk)

-- the first two words are no entries
abbrev pub entries : Devices → List ℕ
entries d = drop 2 d.words

-- of a board that lost its memory no word counts
abbrev pub overlay : Devices → List (List ℕ)
overlay d = if d.kept then laid (entries d) d.buffers d.disk else d.disk

-- no entry is set
abbrev pub NoEntry : Devices → Type 0
NoEntry d = (i : ℕ) → is_entry (get_or (entries d) i 0) ≡ false

-- the board lost its memory: its words and buffers hold anything
pub record IsLost (before after : Devices) : Type 0 where
  pub disk : after.disk ≡ before.disk
  pub kept : after.kept ≡ false

-- nothing on the board is needed: it had lost its memory already, or no entry is set
abbrev pub NeedsNothing : Devices → Type 0
NeedsNothing d = (d.kept ≡ false) ⊎ NoEntry d

-- a crash left before, and then took the board's memory or didn't; where something on it was needed it didn't
abbrev pub SoundlyLeaves : Devices → Devices → Type 0
SoundlyLeaves before after = (after ≡ before) ⊎ (NeedsNothing before × IsLost before after)

-- that sector is old or new, and all others are unchanged
abbrev pub OverlayOldOrNew : ℕ → List ℕ → List (List ℕ) → Devices → Type 0
OverlayOldOrNew sector bytes old d = (after : Devices) → SoundlyLeaves d after → (overlay after ≡ old) ⊎ (overlay after ≡ set old sector bytes)

-- no set entry names the buffer
abbrev pub IsFree : ℕ → Devices → Type 0
IsFree buffer d = (i : ℕ) → is_entry (get_or (entries d) i 0) ≡ true → entry_buffer (get_or (entries d) i 0) ≢ buffer

-- no other entry than this one names the sector, and this one no other sector
pub record IsFor (entry sector : ℕ) (d : Devices) : Type 0 where
  pub others : (i : ℕ) → i ≢ entry → is_entry (get_or (entries d) i 0) ≡ true → entry_sector (get_or (entries d) i 0) ≢ sector
  pub this : is_entry (get_or (entries d) entry 0) ≡ true → entry_sector (get_or (entries d) entry 0) ≡ sector

-- every sound crash leaves this overlay
abbrev pub OverlayKept : List (List ℕ) → Devices → Type 0
OverlayKept old d = (after : Devices) → SoundlyLeaves d after → overlay after ≡ old

-- no other entry names the sector that this one names
abbrev pub IsAlone : ℕ → Devices → Type 0
IsAlone entry d = (i : ℕ) → i ≢ entry → is_entry (get_or (entries d) i 0) ≡ true → entry_sector (get_or (entries d) i 0) ≢ entry_sector (get_or (entries d) entry 0)

-- the image is the overlay that some sound crash leaves
abbrev pub ShowsOverlay : Devices → List (List ℕ) → Type 0
ShowsOverlay d image = (after : Devices) × SoundlyLeaves d after × (image ≡ overlay after)
