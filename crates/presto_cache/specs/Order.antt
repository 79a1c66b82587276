-- The order in which the dirty entries of a board are listed.
use Rattle.std.specs.Prelude.{◌≡◌, ℕ, suc, Bool, true, false, if◌then◌else◌, nat_eq, List, [], ◌∷◌, ◌++◌}
pub use Rattle.index_sets.specs.Queue.{without, first_of}
use Rattle.presto_cache.specs.Slots.{at, is_dirty}
use Rattle.presto_cache.specs.declared.slot.Slot.{Slot}
use Rattle.presto_cache.specs.declared.order.Order.{Order}

-- the indices, the oldest first
abbrev pub listed : Order → List ℕ
listed order = order.indices.listed

-- how many entries there may be
abbrev pub room_of : Order → ℕ
room_of order = order.indices.size

-- how often the index is listed
abbrev pub times : ℕ → List ℕ → ℕ
times k [] = 0
times k (x ∷ xs) = if nat_eq x k then suc (times k xs) else times k xs

-- each dirty entry is listed once, and no other
abbrev pub IsOrderOf : List Slot → List ℕ → Type 0
IsOrderOf slots order = (k : ℕ) → times k order ≡ (if is_dirty (at slots k) then 1 else 0)

-- of an entry that was dirty or not, and then is or isn't: one that becomes dirty is the youngest, one that becomes free leaves
abbrev pub followed : Bool → Bool → ℕ → List ℕ → List ℕ
followed false false k xs = xs
followed false true k xs = xs ++ k ∷ []
followed true false k xs = without k xs
followed true true k xs = xs
