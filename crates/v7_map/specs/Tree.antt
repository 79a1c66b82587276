-- The tree of an image: all that says which names lead where.
use Rattle.std.specs.Prelude.{◌≡◌, ℕ, zero, suc, Bool, true, false, List, [], drop, Some, None, ◌==◌, nat_lt, if◌then◌else◌, ◌&&◌, ◌||◌}
use Rattle.std.specs.List.{range_with_len, list_any, count_by, flat_map, filter}
use Rattle.files_model.specs.Files.{Slot}
use Rattle.v7_map.specs.Image.{inodes_before}
use Rattle.v7_map.specs.Frame.{Frame, is_directory}

-- how many inodes there are, which are directories, and what slots these have
pub record Tree : Type 0 where
  pub inodes : ℕ
  pub is_dir : ℕ → Bool
  pub slots : ℕ → List Slot

-- the tree of a frame
abbrev pub tree : Frame → Tree
tree f = record { inodes = inodes_before f.isize; is_dir = λ i. is_directory (f.head i); slots = f.slots }

-- the slots of d as they are seen: as they stand
abbrev pub seen_slots : Tree → ℕ → List Slot
seen_slots t d = t.slots d

-- the i-number that a slot names, 0 for none
abbrev pub number_in : Slot → ℕ
number_in None = 0
number_in (Some e) = e.0

-- the slot names i
abbrev pub is_slot_of : ℕ → Slot → Bool
is_slot_of i None = false
is_slot_of i (Some e) = e.0 == i

-- a slot of directory d names i
abbrev pub has_slot_of : Tree → ℕ → ℕ → Bool
has_slot_of t d i = list_any (is_slot_of i) (seen_slots t d)

-- a slot of directory d past its first two names i
abbrev pub is_child : Tree → ℕ → ℕ → Bool
is_child t d i = list_any (is_slot_of i) (drop 2 (seen_slots t d))

-- The walked directories are the root and those that a slot of a walked one names.
pub data Walked (t : Tree) : ℕ → Type 0 where
  root : t.is_dir 2 ≡ true → Walked t 2
  named : {d i : ℕ} → Walked t d → has_slot_of t d i ≡ true → t.is_dir i ≡ true → Walked t i

-- the directories among these, and those that a slot of one of these names
abbrev pub grown : Tree → List ℕ → List ℕ
grown t found = filter (λ i. t.is_dir i && (list_any (λ d. d == i) found || list_any (λ d. has_slot_of t d i) found)) (range_with_len 1 t.inodes)

-- those that are found from the root in at most n steps, in rising order
abbrev pub found_in : Tree → ℕ → List ℕ
found_in t zero = filter (λ i. (i == 2) && t.is_dir i) (range_with_len 1 t.inodes)
found_in t (suc n) = grown t (found_in t n)

-- the walked directories in rising order
unfoldable pub walked : Tree → List ℕ
walked t = found_in t t.inodes

-- d is among them
abbrev pub is_walked : Tree → ℕ → Bool
is_walked t i = list_any (λ d. d == i) (walked t)

-- the slots of d from the n-th on, if it is walked
abbrev pub seen_in : Tree → ℕ → ℕ → List Slot
seen_in t n d = if is_walked t d then drop n (seen_slots t d) else []

-- how many slots of walked directories name i
unfoldable pub links : Tree → ℕ → ℕ
links t i = count_by (is_slot_of i) (flat_map (seen_in t 0) (range_with_len 1 t.inodes))

-- i is walked, or a slot of a walked directory names it
abbrev pub is_named : Tree → ℕ → Bool
is_named t i = is_walked t i || nat_lt 0 (links t i)
