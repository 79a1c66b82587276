-- The first test that fails, part by part (docs/FORMATS.md, damage).
use Rattle.std.specs.Prelude.{◌≡◌, ◌<◌, ℕ, List, [], ◌∷◌, get_or, Option, Some, None, Result, Ok, Err, not}
use Rattle.std.specs.Option.{option_map}
use Rattle.std.specs.List.{range_with_len, flat_map, find}
use Rattle.v7_layout.specs.declared.inode.Inode.{Inode}
use Rattle.stable.specs.Store.{Image}
use Rattle.v7_map.specs.Image.{isize_of, fsize_of, inodes_before}
use Rattle.v7_map.specs.Frame.{Frame, head_of}
use Rattle.v7_map.specs.Damage.{Test, Sizes, Kind, Length, Address, Shared, Dots, Entry, passes, place_at, blocks_before, sector_of_test, inode_tests}
use Rattle.v7_damage.specs.declared.damage.Damage.{Damage}
use Rattle.v7_damage.specs.declared.damage.RepairFault.{RepairFault}
use Rattle.v7_damage.specs.declared.damage.RepairFault.TheVariants.{Damaged, Failed, NoMemory}
use Rattle.v7_damage.specs.declared.damage.Damage.TheVariants as kind

-- the kind of damage that a test finds
abbrev pub kind_of_test : Test → Damage
kind_of_test Sizes = kind.Sizes
kind_of_test (Kind i) = kind.Kind
kind_of_test (Length i) = kind.Length
kind_of_test (Address i n) = kind.Address
kind_of_test (Shared i n) = kind.Shared
kind_of_test (Dots d) = kind.Dots
kind_of_test (Entry d k) = kind.Slot

-- the first of these tests that fails
unfoldable pub first_failing : Frame → List Test → Option Test
first_failing f ts = find (λ t. not (passes f t)) ts

-- the tests of m places of inode i from the n-th on
unfoldable pub place_tests : ℕ → ℕ → ℕ → List Test
place_tests i n m = flat_map (λ k. Address i k ∷ Shared i k ∷ []) (range_with_len n m)

-- the blocks before the n-th place of inode i
unfoldable pub earlier_blocks : Frame → ℕ → ℕ → List ℕ
earlier_blocks f i n = blocks_before f i n

-- The frame has this inode with the number i, and its blocks at its 140 places in order.
pub record HasInode (f : Frame) (i isize fsize : ℕ) (n : Inode) (places : List ℕ) : Type 0 where
  pub starts : f.isize ≡ isize
  pub ends : f.fsize ≡ fsize
  pub head : f.head i ≡ head_of n
  pub none : (k : ℕ) → n.mode ≡ 0 → f.address i (place_at k) ≡ 0
  pub blocks : (k : ℕ) → k < 140 → f.address i (place_at k) ≡ get_or places k 0

-- the tests of inode i
unfoldable pub tests_of : Frame → ℕ → List Test
tests_of f i = inode_tests f i

-- those of m inodes from the i-th on
unfoldable pub tests_of_inodes : Frame → ℕ → ℕ → List Test
tests_of_inodes f i m = flat_map (inode_tests f) (range_with_len i m)

-- what is told of the first test that fails: its sector and its kind
abbrev pub told : Frame → Option Test → Option (ℕ × Damage)
told f t = option_map (λ t. (sector_of_test f t, kind_of_test t)) t

-- the damage is that of the first that fails; want of memory and failed devices say nothing
abbrev pub IsFaultTold : Frame → List Test → RepairFault → Type 0
IsFaultTold f ts (Damaged sector which) = told f (first_failing f ts) ≡ Some (sector, which)
IsFaultTold f ts Failed = Unit {0}
IsFaultTold f ts NoMemory = Unit {0}

-- where the answer is Ok no test fails, and damage is that of the first that fails
abbrev pub IsTold : {T : Type 0} → Frame → List Test → Result T RepairFault → Type 0
IsTold f ts (Ok x) = first_failing f ts ≡ None
IsTold f ts (Err fault) = IsFaultTold f ts fault

-- the numbers of the image's super-block, and how many inodes it has
pub record HasNumbers (image : Image) (isize fsize inodes : ℕ) : Type 0 where
  pub starts : isize_of image ≡ isize
  pub ends : fsize_of image ≡ fsize
  pub count : inodes ≡ inodes_before isize

-- it is no damage
abbrev pub IsNoDamage : RepairFault → Type 0
IsNoDamage (Damaged _ _) = ⊥
IsNoDamage Failed = Unit {0}
IsNoDamage NoMemory = Unit {0}

-- no damage is told
abbrev pub NotDamaged : {T : Type 0} → Result T RepairFault → Type 0
NotDamaged (Ok _) = Unit {0}
NotDamaged (Err fault) = IsNoDamage fault
