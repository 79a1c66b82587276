-- What a cache knows of each entry of its board.
use Rattle.std.specs.Prelude.{◌≡◌, ◌≢◌, ◌-◌, ◌<◌, ◌^◌, ◌≤◌, ◌||◌, ◌&&◌, ℕ, Bool, true, false, nat_eq, Option, Some, None, List, length, get_or, ◌⊎◌, not}
use Rattle.std.specs.List.{position}
use Rattle.nvram_map.specs.Words.{word_of}
use Rattle.presto_cache.specs.declared.slot.Slot.{Slot}
use Rattle.presto_cache.specs.declared.slot.Slot.TheVariants.{Free, Set, Doubt}

-- it is set or in doubt
abbrev pub is_dirty : Slot → Bool
is_dirty Free = false
is_dirty (Set sector buffer) = true
is_dirty (Doubt sector older newer cleared) = true

-- the last store of its word failed
abbrev pub in_doubt : Slot → Bool
in_doubt Free = false
in_doubt (Set sector buffer) = false
in_doubt (Doubt sector older newer cleared) = true

-- the sector of a dirty entry
abbrev pub sector_of : Slot → ℕ
sector_of Free = 0
sector_of (Set sector buffer) = sector
sector_of (Doubt sector older newer cleared) = sector

-- it is that buffer
abbrev pub is_some_of : Option ℕ → ℕ → Bool
is_some_of None buffer = false
is_some_of (Some b) buffer = nat_eq b buffer

-- a buffer that is taken by the entry; in doubt, by the older or the newer word
abbrev pub uses : Slot → ℕ → Bool
uses Free buffer = false
uses (Set sector b) buffer = nat_eq b buffer
uses (Doubt sector older newer cleared) buffer = is_some_of older buffer || is_some_of newer buffer

-- the word of an entry with that buffer, or with none
abbrev pub spelled : ℕ → Option ℕ → ℕ
spelled sector None = 0
spelled sector (Some buffer) = word_of sector buffer

-- the words that may stand on the board
abbrev pub may_hold : Slot → ℕ → Bool
may_hold Free word = nat_eq word 0
may_hold (Set sector buffer) word = nat_eq word (word_of sector buffer)
may_hold (Doubt sector older newer cleared) word = nat_eq word (spelled sector older) || nat_eq word (spelled sector newer) || (cleared && nat_eq word 0)

-- the buffer that an entry had, where it isn't in doubt
abbrev pub settled : Slot → Option ℕ
settled Free = None
settled (Set sector buffer) = Some buffer
settled (Doubt sector older newer cleared) = None

-- what is known of the entry with this index
abbrev pub at : List Slot → ℕ → Slot
at slots i = get_or slots i Free

-- what holds of the entries of each cache, whatever its rig
pub record AreSlots (buffers : ℕ) (slots : List Slot) : Type 0 where
  pub count : length slots ≡ buffers - 1
  pub few : buffers ≤ 2048
  pub sectors : (i j : ℕ) → i ≢ j → is_dirty (at slots i) ≡ true → is_dirty (at slots j) ≡ true → sector_of (at slots i) ≢ sector_of (at slots j)
  pub buffers_apart : (i j b : ℕ) → i ≢ j → uses (at slots i) b ≡ true → uses (at slots j) b ≡ true → ⊥
  pub buffers_fit : (i b : ℕ) → uses (at slots i) b ≡ true → b < buffers
  pub sectors_fit : (i : ℕ) → is_dirty (at slots i) ≡ true → sector_of (at slots i) < 2 ^ 32

-- an entry for the sector may be stored there: it is the sector's, or the sector has none and it is free
pub record IsPlace (slots : List Slot) (i sector : ℕ) : Type 0 where
  pub in_range : i < length slots
  pub others : (j : ℕ) → j ≢ i → is_dirty (at slots j) ≡ true → sector_of (at slots j) ≢ sector
  pub this : is_dirty (at slots i) ≡ true → sector_of (at slots i) ≡ sector
  pub sure : in_doubt (at slots i) ≡ false

-- no entry takes the buffer
abbrev pub IsUnused : List Slot → ℕ → Type 0
IsUnused slots buffer = (i : ℕ) → uses (at slots i) buffer ≡ false

-- each dirty entry is of one of so many sectors
abbrev pub AllBelowSectors : ℕ → List Slot → Type 0
AllBelowSectors sectors slots = (i : ℕ) → is_dirty (at slots i) ≡ true → sector_of (at slots i) < sectors

-- an entry whose clearing failed
abbrev pub clear_failed : Slot → Slot
clear_failed Free = Free
clear_failed (Set sector buffer) = Doubt sector (Some buffer) None false
clear_failed (Doubt sector older newer cleared) = Doubt sector older newer true

-- it is the dirty entry of that sector
abbrev pub is_for : ℕ → Slot → Bool
is_for sector slot = is_dirty slot && nat_eq (sector_of slot) sector

-- the entry of a sector
abbrev pub find_in : List Slot → ℕ → Option ℕ
find_in slots sector = position (is_for sector) slots

-- the first, or else the other
abbrev pub or_else : Option ℕ → Option ℕ → Option ℕ
or_else None other = other
or_else (Some i) other = Some i

-- the entry of a sector, or the lowest free one
abbrev pub place_in : List Slot → ℕ → Option ℕ
place_in slots sector = or_else (find_in slots sector) (position (λ slot. not (is_dirty slot)) slots)

-- no entry is in doubt
abbrev pub NoDoubt : List Slot → Type 0
NoDoubt slots = (i : ℕ) → in_doubt (at slots i) ≡ false

-- some entry takes the buffer
abbrev pub IsUsed : List Slot → ℕ → Type 0
IsUsed slots buffer = (i : ℕ) × (uses (at slots i) buffer ≡ true)

-- no entry uses the buffer, and one uses each below it
pub record IsLowestUnused (slots : List Slot) (buffer : ℕ) : Type 0 where
  pub unused : IsUnused slots buffer
  pub lower : (b : ℕ) → b < buffer → IsUsed slots b

-- an entry's word can name the buffer
abbrev pub fits_word : Option ℕ → Type 0
fits_word None = Unit {0}
fits_word (Some buffer) = buffer < 2 ^ 16

-- the buffers that a read of a dirty entry may answer, or none
abbrev pub MayBeRead : Slot → Option ℕ → Type 0
MayBeRead Free held = ⊥
MayBeRead (Set sector buffer) held = held ≡ Some buffer
MayBeRead (Doubt sector older newer cleared) held = (held ≡ older) ⊎ (held ≡ newer) ⊎ (held ≡ None)
