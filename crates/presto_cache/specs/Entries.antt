-- The dirty entries of a board, the oldest first.
use Rattle.std.specs.Prelude.{ℕ, if◌then◌else◌, nat_eq, List, [], ◌∷◌, map, Option, Some, None}
use Rattle.std.specs.List.Sorted.{IsStrictlyIncreasing}
use Rattle.presto_cache.specs.Slots.{at, is_dirty}
use Rattle.presto_cache.specs.declared.slot.Slot.{Slot}

-- which entry of the board it is, and what is known of it: a sector with its buffer, or what is in doubt
pub record Entry : Type 0 where
  pub index : ℕ
  pub slot : Slot

-- the entry with that index
abbrev pub entry_in : List Slot → ℕ → Entry
entry_in slots index = record { index = index; slot = at slots index }

-- the entries with these indices
abbrev pub entries_in : List Slot → List ℕ → List Entry
entries_in slots order = map (entry_in slots) order

-- the entry in place of that with its index, or else as the youngest
abbrev pub with_entry : Entry → List Entry → List Entry
with_entry new [] = new ∷ []
with_entry new (e ∷ es) = if nat_eq e.index new.index then new ∷ es else e ∷ with_entry new es

-- without that with this index
abbrev pub without_entry : ℕ → List Entry → List Entry
without_entry index [] = []
without_entry index (e ∷ es) = if nat_eq e.index index then es else e ∷ without_entry index es

-- the first
abbrev pub oldest_in : List Entry → Option ℕ
oldest_in [] = None
oldest_in (e ∷ es) = Some e.index

-- once this is known of an entry: it keeps its place, or becomes the youngest, or leaves
abbrev pub changed : ℕ → Slot → List Entry → List Entry
changed index slot es = if is_dirty slot then with_entry (record { index = index; slot = slot }) es else without_entry index es

-- each stands before those of a higher index
abbrev pub AreByIndex : List Entry → Type 0
AreByIndex es = IsStrictlyIncreasing (map (λ e. e.index) es)
