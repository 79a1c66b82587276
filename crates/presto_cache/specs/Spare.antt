-- What is free of a board: the buffers that no entry takes, and the entries.
use Rattle.std.specs.Prelude.{◌≡◌, ◌<◌, ℕ, Bool, not, List, length, set, Option, Some, None}
use Rattle.std.specs.List.{list_any}
use Rattle.index_sets.specs.Free.{is_free}
use Rattle.presto_cache.specs.Slots.{at, is_dirty, uses}
use Rattle.presto_cache.specs.declared.slot.Slot.{Slot}
use Rattle.presto_cache.specs.declared.slot.Slot.TheVariants.{Free, Set, Doubt}
use Rattle.presto_cache.specs.declared.spare.Spare.{Spare}

-- some entry takes the buffer
abbrev pub is_used_in : List Slot → ℕ → Bool
is_used_in slots buffer = list_any (λ slot. uses slot buffer) slots

-- it has each buffer that no entry takes, and each entry that is free
pub record IsSpareOf (count : ℕ) (slots : List Slot) (spare : Spare) : Type 0 where
  pub buffers : length spare.buffers ≡ count
  pub each_buffer : (b : ℕ) → b < count → is_free spare.buffers b ≡ not (is_used_in slots b)
  pub entries : length spare.entries ≡ length slots
  pub each_entry : (i : ℕ) → i < length slots → is_free spare.entries i ≡ not (is_dirty (at slots i))

-- a buffer is free from now on, or isn't
abbrev pub marked_one : Option ℕ → Bool → List Bool → List Bool
marked_one None free buffers = buffers
marked_one (Some b) free buffers = set buffers b free

-- the buffers that an entry takes are
abbrev pub marked : Slot → Bool → List Bool → List Bool
marked Free free buffers = buffers
marked (Set sector b) free buffers = set buffers b free
marked (Doubt sector older newer cleared) free buffers = marked_one newer free (marked_one older free buffers)
