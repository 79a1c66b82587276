-- A volume that was just made (docs/FORMATS.md): it has the root alone.
use Rattle.std.specs.Prelude.{◌≡◌, ◌≢◌, ◌<◌, ◌≤◌, ℕ, ◌+◌, ◌-◌, ◌*◌, ◌/◌, min, false, List, [], ◌∷◌, replicate, length, get_or, Some, None, ◌==◌, if◌then◌else◌, Result, Ok, Err}
use Rattle.std.specs.FinMap.{empty, insert}
use Rattle.std.specs.List.{range_with_len}
use Rattle.v7_layout.specs.declared.inode.Inode.{Inode}
use Rattle.v7_layout.specs.declared.super_block.Super.{Super}
use Rattle.v7_layout.specs.Numbers.{part}
use Rattle.v7_layout.specs.Records.{inode_of, super_of}
use Rattle.v7_layout.specs.Written.{super_bytes}
use Rattle.files_model.specs.declared.attributes.Kind.TheVariants.{Directory}
use Rattle.files_model.specs.Files.{Slot, Node, Files, tabulated}
use Rattle.files_model.specs.Space.{free}
use Rattle.stable.specs.Counts.{Rose}
use Rattle.stable.specs.Looked.{Untouched}
use Rattle.stable.specs.Store.{Image}
use Rattle.stable.specs.declared.store.Stable.{Ghosts}
use Rattle.v7_map.specs.Image.{sector_at, isize_of, inodes_before, inode_at, is_read_only}
use Rattle.v7_map.specs.Frame.{frame, slot_of}
use Rattle.v7_map.specs.Weak.{HasSizes, IsStrong}
use Rattle.v7_map.specs.View.{view}
use Rattle.v7_make.specs.declared.fault.MakeFault.{MakeFault}
use Rattle.v7_make.specs.declared.fault.MakeFault.TheVariants.{TooSmall, TooLarge, Failed, NoMemory}
use Rattle.v7_make.specs.Chains.{Takes, HasPlaces}
use Rattle.v7_make.specs.Sizes.{list_blocks, need_of, fitting}
use Rattle.v7_make.specs.Stops.{chain_in}

-- the root's inode: mode 040755, two links, 32 bytes in this block, generation 1
abbrev pub root_inode : ℕ → ℕ → Inode
root_inode block now = record {
  mode = 16877;
  nlink = 2;
  uid = 0;
  gid = 0;
  size = 32;
  direct = block ∷ replicate 9 0;
  single = 0;
  double = 0;
  generation = 1;
  atime = now;
  mtime = now;
  ctime = now;
}

-- `.` and `..`
abbrev pub root_slots : List Slot
root_slots = Some (2, 46 ∷ []) ∷ Some (2, 46 ∷ 46 ∷ []) ∷ []

abbrev pub root_node : ℕ → Node
root_node now = record {
  kind = Directory;
  mode = 493;
  uid = 0;
  gid = 0;
  nlink = 2;
  size = 32;
  atime = now;
  mtime = now;
  ctime = now;
  sectors = empty;
  slots = root_slots;
}

-- the files with the root alone: generation 1 for it, 0 for each other i-number
unfoldable pub made_files : ℕ → ℕ → ℕ → Files
made_files inodes blocks now = record {
  nodes = insert empty 2 (root_node now);
  generations = tabulated (λ i. if i == 0 then None else Some (if i == 2 then 1 else 0)) (inodes + 1);
  inodes = inodes;
  blocks = blocks;
  read_only = false;
}

-- The super-block of a new volume: whether it was stopped cleanly, and its counts; its two lists stand for themselves.
abbrev pub IsNewSuper : ℕ → ℕ → List ℕ → ℕ → ℕ → ℕ → ℕ → Super → Type 0
IsNewSuper size isize pack now fmod tfree tinode s = s ≡ record {
  s_isize = isize;
  s_fsize = size;
  s_nfree = s.s_nfree;
  s_free = s.s_free;
  s_ninode = s.s_ninode;
  s_inode = s.s_inode;
  s_flock = 0;
  s_ilock = 0;
  s_fmod = fmod;
  s_ronly = 0;
  s_time = now;
  s_tfree = tfree;
  s_tinode = tinode;
  s_m = 0;
  s_n = 0;
  s_fname = replicate 6 0;
  s_fpack = pack;
  mark = 1;
}

-- the up to 100 first of so many numbers from one on, the highest first, and zeros
pub record ListsFirst (from many : ℕ) (numbers : List ℕ) (count : ℕ) : Type 0 where
  pub most : count ≡ min 100 many
  pub listed : (k : ℕ) → k < count → get_or numbers k 0 ≡ from + (count - 1 - k)
  pub rest : (k : ℕ) → count ≤ k → get_or numbers k 0 ≡ 0

-- What is promised of a volume whose list of inodes ends at block isize: it has nothing to mend and the root alone, and so many blocks are free. Free inodes are zeros. It was stopped cleanly, and its free chain and its list of i-numbers have all that are free.
pub record IsMade (image : Image) (size isize : ℕ) (pack : List ℕ) (now left : ℕ) : Type 0 where
  pub strong : IsStrong (frame image)
  pub left_is : left ≡ free (view image)
  pub view : view image ≡ made_files (inodes_before isize) (size - isize) now
  pub inodes : (i : ℕ) → inode_at image i ≡ (if i == 2 then root_inode isize now else inode_of [])
  pub super : IsNewSuper size isize pack now 0 left (inodes_before isize - 2) (super_of (sector_at image 1))
  pub takes : Takes image (chain_in (super_of (sector_at image 1))) (range_with_len (isize + 1) left)
  pub places : HasPlaces (chain_in (super_of (sector_at image 1)))
  pub listed : ListsFirst 3 (inodes_before isize - 2) (super_of (sector_at image 1)).s_inode (super_of (sector_at image 1)).s_ninode
  pub whole : sector_at image 1 ≡ super_bytes (super_of (sector_at image 1))

-- What each moment of making leaves: the boot block, and what stands past the volume.
pub record KeepsOutside (size : ℕ) (old new : Image) : Type 0 where
  pub long : length new ≡ length old
  pub boot : sector_at new 0 ≡ sector_at old 0
  pub past : (s : ℕ) → size ≤ s → sector_at new s ≡ sector_at old s

-- what each answer says: sizes are refused by the rule alone, and a refusal or want of memory leaves a store as it was; what isn't needed for the inodes and the root is free
abbrev pub Says : {S : Type 0} → Ghosts S → ℕ → ℕ → S → S → Result ℕ MakeFault → Type 0
Says s size inodes old new (Ok left) = (fitting size inodes ≡ Ok tt) × (left ≡ size - need_of inodes)
Says s size inodes old new (Err TooLarge) = (fitting size inodes ≡ Err TooLarge) × Untouched s old new
Says s size inodes old new (Err (TooSmall need have)) = (fitting size inodes ≡ Err (TooSmall need have)) × Untouched s old new
Says s size inodes old new (Err NoMemory) = (fitting size inodes ≡ Ok tt) × Untouched s old new
Says s size inodes old new (Err Failed) = (fitting size inodes ≡ Ok tt) × Rose (s.faults old) (s.faults new)

-- A volume was to be made, and this was the answer; the count of faults doesn't fall.
pub record IsAnswered {S : Type 0} (s : Ghosts S) (size inodes : ℕ) (old new : S) (result : Result ℕ MakeFault) : Type 0 where
  pub later : s.faults old ≤ s.faults new
  pub says : Says s size inodes old new result

-- how many puts it takes at most: the inodes, the root's block, the super-block, and then the chain of the blocks that are left
abbrev pub make_puts : ℕ → ℕ → ℕ
make_puts size inodes = list_blocks inodes + 2 + ((size - need_of inodes) / 50 + 1)

-- ---- steps

-- What making puts: sizes, the root's inode and block, and free inodes else.
pub record IsFresh (image : Image) (now : ℕ) : Type 0 where
  pub sizes : HasSizes (frame image)
  pub writable : is_read_only (sector_at image 1) ≡ false
  pub root : inode_at image 2 ≡ root_inode (isize_of image) now
  pub empty : (i : ℕ) → i ≢ 2 → inode_at image i ≡ inode_of []
  pub self : slot_of (part (sector_at image (isize_of image)) 0 16) ≡ Some (2, 46 ∷ [])
  pub up : slot_of (part (sector_at image (isize_of image)) 16 16) ≡ Some (2, 46 ∷ 46 ∷ [])

-- a sector of inodes of a new volume, whose root's block this is
pub record FreshInodes (sector block now : ℕ) (bytes : List ℕ) : Type 0 where
  pub root : sector ≡ 2 → inode_of (part bytes 64 64) ≡ root_inode block now
  pub others : (k : ℕ) → k < 8 → ((sector ≡ 2) × (k ≡ 1) → ⊥) → part bytes (64 * k) 64 ≡ replicate 64 0

-- the sectors of inodes before the n-th are those of a new volume
abbrev pub FreshTo : ℕ → ℕ → ℕ → Image → Type 0
FreshTo block now n image = (s : ℕ) → 2 ≤ s → s < n → FreshInodes s block now (sector_at image s)

-- none but the sectors of inodes have changed
abbrev pub KeepsButInodes : ℕ → Image → Image → Type 0
KeepsButInodes isize old new = (length new ≡ length old) × ((s : ℕ) → (2 ≤ s → isize ≤ s) → sector_at new s ≡ sector_at old s)

-- A new volume of these sizes and this name was put, without its free chain.
pub record IsPut (image : Image) (size isize : ℕ) (pack : List ℕ) (now : ℕ) : Type 0 where
  pub fresh : IsFresh image now
  pub super : IsNewSuper size isize pack now 1 0 0 (super_of (sector_at image 1))
