-- A cache, seen by what is known of each entry of its board, and by its dirty entries in order.
use Rattle.std.specs.Prelude.{◌≡◌, ◌⊎◌, ℕ, List, ◌∷◌, [], ◌++◌, Some, true, false, set}
use Rattle.rig.specs.Devices.{Sizes}
use Rattle.rig.specs.declared.rig.Rig.{Ghosts}
use Rattle.presto_cache.specs.Slots.{AllBelowSectors, IsLowestUnused, at, place_in, settled}
use Rattle.presto_cache.specs.Board.{IsOf}
use Rattle.presto_cache.specs.Order.{listed}
use Rattle.presto_cache.specs.Entries.{Entry, entries_in, changed, without_entry, entry_in}
use Rattle.presto_cache.specs.declared.slot.Slot.{Slot}
use Rattle.presto_cache.specs.declared.slot.Slot.TheVariants.{Set, Doubt}
use Rattle.presto_cache.specs.declared.cache.Cache.{Cache}

-- what is known of each entry, by its index
abbrev pub slots_of : Cache → List Slot
slots_of c = c.slots.items

-- the dirty entries, the oldest first
abbrev pub entries_of : Cache → List Entry
entries_of c = entries_in c.slots.items (listed c.order)

-- how many buffers its board has
abbrev pub buffers_of : Cache → ℕ
buffers_of c = c.buffers

-- it was made for a board of this size, and each entry is of one of the sectors
pub record Suits (sizes : Sizes) (c : Cache) : Type 0 where
  pub buffers : buffers_of c ≡ sizes.buffers
  pub below : AllBelowSectors sizes.sectors (slots_of c)

-- What is known of a cache and its rig: it was made for the rig's board, which kept its memory, and it is that of the board's words. `r` is what the rig's type tells, as `R.Rig` in a clause.
pub record Knows {R : Type 0} (r : Ghosts R) (rig : R) (c : Cache) : Type 0 where
  pub suits : Suits (r.sizes rig) c
  pub is : r.tells → IsOf (slots_of c) (r.contents rig)
  pub kept : r.is_kept rig ≡ true

-- nothing is known otherwise
pub record Same (old new : Cache) : Type 0 where
  pub slots : slots_of new ≡ slots_of old
  pub entries : entries_of new ≡ entries_of old

-- this is known of one entry: if it becomes dirty it is the youngest, if it becomes free it leaves, and else it keeps its place, as each other does
pub record Becomes (index : ℕ) (slot : Slot) (old new : Cache) : Type 0 where
  pub slots : slots_of new ≡ set (slots_of old) index slot
  pub entries : entries_of new ≡ changed index slot (entries_of old)

-- the sector has an entry with the lowest buffer that was free: its own entry, or the lowest that was free
pub record IsKept (sector : ℕ) (old new : Cache) : Type 0 where
  pub index : ℕ
  pub buffer : ℕ
  pub place : place_in (slots_of old) sector ≡ Some index
  pub lowest : IsLowestUnused (slots_of old) buffer
  pub is : Becomes index (Set sector buffer) old new

-- nothing, or the sector's entry is in doubt between what it was and that buffer
pub record IsKeptInDoubt (sector : ℕ) (old new : Cache) : Type 0 where
  pub index : ℕ
  pub buffer : ℕ
  pub place : place_in (slots_of old) sector ≡ Some index
  pub lowest : IsLowestUnused (slots_of old) buffer
  pub is : Same old new ⊎ Becomes index (Doubt sector (settled (at (slots_of old) index)) (Some buffer) false) old new

-- the entry is the youngest, and nothing else changes
pub record IsLast (index : ℕ) (old new : Cache) : Type 0 where
  pub slots : slots_of new ≡ slots_of old
  pub entries : entries_of new ≡ without_entry index (entries_of old) ++ entry_in (slots_of old) index ∷ []
  pub buffers : buffers_of new ≡ buffers_of old
