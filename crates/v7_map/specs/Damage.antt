-- Damage, in the order in which it is looked for (docs/FORMATS.md, damage).
use Rattle.std.specs.Prelude.{ℕ, ◌+◌, ◌-◌, ◌/◌, ◌%◌, Bool, true, false, List, [], ◌∷◌, ◌++◌, length, map, take, drop, Option, Some, None, ◌==◌, nat_lt, nat_le, if◌then◌else◌, not, ◌&&◌, ◌||◌}
use Rattle.std.specs.List.{range_with_len, list_any, count_by, flat_map, find}
use Rattle.files_model.specs.Files.{Slot, sectors_of}
use Rattle.v7_map.specs.Image.{inode_sector}
use Rattle.v7_map.specs.Frame.{Frame, Head, Place, Body, Single, Double, is_directory, body_places}
use Rattle.files_model.specs.Space.{size_limit}
use Rattle.v7_map.specs.Weak.{slot_at, parent}
use Rattle.v7_map.specs.Tree.{seen_in, Tree, tree, number_in, is_walked, is_child, is_slot_of, seen_slots}

-- The tests: of sector 1, of an inode, of its n-th place, of a directory, of its slot k.
pub data Test : Type 0 where
  Sizes : Test
  Kind : ℕ → Test
  Length : ℕ → Test
  Address : ℕ → ℕ → Test
  Shared : ℕ → ℕ → Test
  Dots : ℕ → Test
  Entry : ℕ → ℕ → Test

-- the n-th place of an inode: the direct ones, the single indirect block, those inside it, the double one
abbrev pub place_at : ℕ → Place
place_at n = if nat_lt n 10 then Body n else if n == 10 then Single else if nat_lt n (body_places + 1) then Body (n - 1) else Double

-- how many places there are
abbrev pub all_places : ℕ
all_places = body_places + 2

-- the block at the n-th place of inode i
abbrev pub block : Frame → ℕ → ℕ → ℕ
block f i n = f.address i (place_at n)

-- ---- the order

-- the tests of inode i: a free one is tested only where it is the root's
abbrev pub inode_tests : Frame → ℕ → List Test
inode_tests f i =
    if (f.head i).is_used then Kind i ∷ Length i ∷ flat_map (λ n. Address i n ∷ Shared i n ∷ []) (range_with_len 0 all_places)
    else if i == 2 then Kind i ∷ [] else []

-- a slot that isn't empty
abbrev pub is_some_slot : Slot → Bool
is_some_slot None = false
is_some_slot (Some e) = true

-- the test of slot k of directory d
abbrev pub slot_tests : Tree → ℕ → ℕ → List Test
slot_tests t d k = if is_some_slot (slot_at t d k) then Entry d k ∷ [] else []

-- the tests of directory d, if it is walked
abbrev pub directory_tests : Tree → ℕ → List Test
directory_tests t d = if is_walked t d then Dots d ∷ flat_map (slot_tests t d) (range_with_len 0 (length (seen_slots t d))) else []

-- all tests in order: sector 1, the inodes in rising number, the walked directories in rising number
unfoldable pub tests : Frame → List Test
tests f = Sizes ∷ flat_map (inode_tests f) (range_with_len 1 (tree f).inodes) ++ flat_map (directory_tests (tree f)) (range_with_len 1 (tree f).inodes)

-- ---- what they ask

-- of a super-block with this mark, isize and fsize on a store of so many sectors
abbrev pub has_sizes : ℕ → ℕ → ℕ → ℕ → Bool
has_sizes mark isize fsize sectors = (mark == 1) && (nat_le 3 isize && (nat_le isize 8193 && (nat_lt isize fsize && (nat_le fsize sectors && nat_le fsize 1048576))))

-- one of the three types; inode 1 is free, and inode 2 a directory
abbrev pub has_kind : ℕ → Head → Bool
has_kind i h = not (i == 1) && (if i == 2 then h.type == 4 else ((h.type == 4) || ((h.type == 8) || (h.type == 10))))

-- a size within the limit of its type
abbrev pub has_length : Head → Bool
has_length h = nat_le h.size size_limit && (if h.type == 10 then nat_le h.size 1024 else if h.type == 4 then nat_le 32 h.size && (h.size % 16 == 0) else true)

-- a directory's size needs this place
abbrev pub is_needed : Head → Place → Bool
is_needed h (Body k) = is_directory h && nat_lt k (sectors_of h.size)
is_needed h Single = is_directory h && nat_lt 10 (sectors_of h.size)
is_needed h Double = false

-- 0 where it isn't needed, or a data block; the double one is 0
abbrev pub has_address : Frame → ℕ → Place → Bool
has_address f i Double = f.address i Double == 0
has_address f i p = if f.address i p == 0 then not (is_needed (f.head i) p) else (nat_le f.isize (f.address i p) && nat_lt (f.address i p) f.fsize)

-- the blocks of earlier inodes, and those of this one's earlier places
abbrev pub blocks_before : Frame → ℕ → ℕ → List ℕ
blocks_before f i n = flat_map (λ j. map (block f j) (range_with_len 0 all_places)) (range_with_len 1 (i - 1)) ++ map (block f i) (range_with_len 0 n)

-- no earlier place has this block
abbrev pub is_unshared : Frame → ℕ → ℕ → Bool
is_unshared f i n = (block f i n == 0) || not (list_any (λ b. b == block f i n) (blocks_before f i n))

-- the slot has this i-number and name
abbrev pub is_entry : ℕ → List ℕ → Slot → Bool
is_entry i name None = false
is_entry i [] (Some (j, [])) = j == i
is_entry i (c ∷ cs) (Some (j, [])) = false
is_entry i [] (Some (j, d ∷ ds)) = false
is_entry i (c ∷ cs) (Some (j, d ∷ ds)) = (d == c) && is_entry i cs (Some (j, ds))

-- slot 0 is `.`, slot 1 is `..` and leads to a walked directory that has a slot past its first two for this one, the root's to the root
abbrev pub has_dots : Tree → ℕ → Bool
has_dots t d =
    is_entry d (46 ∷ []) (slot_at t d 0)
    && (is_entry (parent t d) (46 ∷ 46 ∷ []) (slot_at t d 1)
    && (is_walked t (parent t d) && (if d == 2 then parent t d == 2 else is_child t (parent t d) d)))

-- the slots of walked directories before slot k of directory d, without the first n of each
abbrev pub slots_before : Tree → ℕ → ℕ → ℕ → List Slot
slots_before t n d k = flat_map (seen_in t n) (range_with_len 1 (d - 1)) ++ drop n (take k (seen_slots t d))

-- a slot with an empty name
abbrev pub is_nameless : Slot → Bool
is_nameless None = false
is_nameless (Some (i, [])) = true
is_nameless (Some (i, b ∷ bs)) = false

-- a slot past the first two that names a directory: it isn't the root, and no earlier such slot names it
abbrev pub is_only_child : Tree → ℕ → ℕ → ℕ → Bool
is_only_child t d k i = if nat_lt k 2 || not (t.is_dir i) then true else (not (i == 2) && not (list_any (is_slot_of i) (slots_before t 2 d k)))

-- a used inode, a name, at most 65,535 slots for it so far, and of a directory one slot past the first two
abbrev pub has_entry : Frame → Tree → ℕ → ℕ → Bool
has_entry f t d k =
    let i = number_in (slot_at t d k) in
    (f.head i).is_used && (not (is_nameless (slot_at t d k)) && (nat_lt (count_by (is_slot_of i) (slots_before t 0 d k)) 65535 && is_only_child t d k i))

-- the test passes
abbrev pub passes : Frame → Test → Bool
passes f Sizes = has_sizes f.mark f.isize f.fsize f.sectors
passes f (Kind i) = has_kind i (f.head i)
passes f (Length i) = has_length (f.head i)
passes f (Address i n) = has_address f i (place_at n)
passes f (Shared i n) = is_unshared f i n
passes f (Dots d) = has_dots (tree f) d
passes f (Entry d k) = has_entry f (tree f) d k

-- the sector that a test speaks of
abbrev pub sector_of_test : Frame → Test → ℕ
sector_of_test f Sizes = 1
sector_of_test f (Kind i) = inode_sector i
sector_of_test f (Length i) = inode_sector i
sector_of_test f (Address i n) = inode_sector i
sector_of_test f (Shared i n) = inode_sector i
sector_of_test f (Dots d) = inode_sector d
sector_of_test f (Entry d k) = f.address d (Body (k / 32))

-- the first test that fails
abbrev pub damage : Frame → Option Test
damage f = find (λ t. not (passes f t)) (tests f)
