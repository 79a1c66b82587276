-- One slot of one directory changes, and it names no directory before or after, or the same one.
use Rattle.std.specs.Prelude.{◌≡◌, ◌≢◌, ℕ, ◌+◌, ◌*◌, ◌/◌, ◌%◌, ◌<◌, ◌≤◌, true, false, List, [], ◌∷◌, length, Some, None}
use Rattle.v7_layout.specs.Numbers.{part}
use Rattle.v7_layout.specs.declared.inode.Inode.{Inode}
use Rattle.stable.specs.Store.{Image}
use Rattle.v7_map.specs.Image.{sector_at, inode_at}
use Rattle.v7_map.specs.Frame.{Body, head_of, is_directory, address_of, slot_in, slot_of, frame}
use Rattle.v7_plans.specs.Placed.{IsPlaced}
use Rattle.files_model.specs.Files.{Slot, sectors_of}
use Rattle.files_model.specs.Space.{size_limit}
use Rattle.v7_map.specs.Tree.{Tree, tree, is_walked, is_named, is_slot_of, links}
use Rattle.v7_map.specs.Weak.{IsWeak, slot_at}

-- the slot names nothing, or what is no directory
abbrev pub IsPlain : Tree → Slot → Type 0
IsPlain t s = (j : ℕ) (name : List ℕ) → s ≡ Some (j, name) → t.is_dir j ≡ false

pub record SlotChange (t u : Tree) (d k : ℕ) : Type 0 where
  pub inodes : u.inodes ≡ t.inodes
  pub dirs : (j : ℕ) → u.is_dir j ≡ t.is_dir j
  pub others : (j : ℕ) → j ≢ d → u.slots j ≡ t.slots j
  pub rest : (l : ℕ) → l ≢ k → slot_at u d l ≡ slot_at t d l
  pub past : 2 ≤ k
  pub alike : (j : ℕ) → t.is_dir j ≡ true → is_slot_of j (slot_at t d k) ≡ is_slot_of j (slot_at u d k)

-- the bytes are sector k / 32 of a directory with slot k replaced by s
pub record PutsSlot (old : List ℕ) (k : ℕ) (bytes : List ℕ) (s : Slot) : Type 0 where
  pub long : length bytes ≡ 512
  pub here : slot_of (part bytes (16 * (k % 32)) 16) ≡ s
  pub others : (l : ℕ) → l ≢ k → l / 32 ≡ k / 32 → slot_of (part bytes (16 * (l % 32)) 16) ≡ slot_of (part old (16 * (l % 32)) 16)

-- In u slot k of walked directory d names directory i, which nothing names in t, where that slot is empty. Directory i has `.` and `..`, which leads to d, and else is empty.
pub record NewDirectory (t u : Tree) (d k i : ℕ) (name : List ℕ) : Type 0 where
  pub inodes : u.inodes ≡ t.inodes
  pub dirs : (j : ℕ) → u.is_dir j ≡ t.is_dir j
  pub others : (j : ℕ) → j ≢ d → u.slots j ≡ t.slots j
  pub rest : (l : ℕ) → l ≢ k → slot_at u d l ≡ slot_at t d l
  pub past : 2 ≤ k
  pub old : slot_at t d k ≡ None
  pub new : slot_at u d k ≡ Some (i, name)
  pub dir : t.is_dir i ≡ true
  pub apart : i ≢ d
  pub no_root : i ≢ 2
  pub unnamed : is_named t i ≡ false
  pub walked : is_walked t d ≡ true
  pub dot : slot_at t i 0 ≡ Some (i, 46 ∷ [])
  pub dots : slot_at t i 1 ≡ Some (d, 46 ∷ 46 ∷ [])
  pub empty : (l : ℕ) → 2 ≤ l → slot_at t i l ≡ None
  pub numbers : (j : ℕ) → t.is_dir j ≡ true → (1 ≤ j) × (j < 1 + t.inodes)

-- The put of a sector of a walked directory that changes its slot k alone, which names no directory before or after, or the same one. What it names is used.
pub record PutsEntry (image : Image) (d k a : ℕ) (bytes : List ℕ) (s : Slot) : Type 0 where
  pub walked : is_walked (tree (frame image)) d ≡ true
  pub inside : k < ((frame image).head d).size / 16
  pub is : (frame image).address d (Body (k / 32)) ≡ a
  pub puts : PutsSlot (sector_at image a) k bytes s
  pub past : 2 ≤ k
  pub alike : (j : ℕ) → (tree (frame image)).is_dir j ≡ true → is_slot_of j (slot_at (tree (frame image)) d k) ≡ is_slot_of j s
  pub used : (j : ℕ) (name : List ℕ) → s ≡ Some (j, name) → (((frame image).head j).is_used ≡ true) × (name ≢ [])
  pub bound : (j : ℕ) → is_slot_of j s ≡ true → is_slot_of j (slot_at (tree (frame image)) d k) ≡ false → links (tree (frame image)) j + 1 ≤ 65535

-- Slot s may come as the k-th at the end of walked directory d: it names a used inode that is no directory, or nothing, and the directory has room.
pub record Appends (image : Image) (d k : ℕ) (s : Slot) : Type 0 where
  pub weak : IsWeak (frame image)
  pub walked : is_walked (tree (frame image)) d ≡ true
  pub end : k ≡ ((frame image).head d).size / 16
  pub even : ((frame image).head d).size % 16 ≡ 0
  pub within : ((frame image).head d).size + 16 ≤ size_limit
  pub none_past : (l : ℕ) → k / 32 < l → (frame image).address d (Body l) ≡ 0
  pub plain : IsPlain (tree (frame image)) s
  pub used : (j : ℕ) (name : List ℕ) → s ≡ Some (j, name) → (((frame image).head j).is_used ≡ true) × (name ≢ [])
  pub bound : (j : ℕ) → is_slot_of j s ≡ true → links (tree (frame image)) j + 1 ≤ 65535

-- The inode n makes a walked directory longer by one slot, k, which names no directory. Its sector has been put, and so has a block of addresses that changed.
pub record GrowsBy (image : Image) (d k : ℕ) (n : Inode) (s : Slot) : Type 0 where
  pub walked : is_walked (tree (frame image)) d ≡ true
  pub end : k ≡ ((frame image).head d).size / 16
  pub even : ((frame image).head d).size % 16 ≡ 0
  pub longer : n.size ≡ ((frame image).head d).size + 16
  pub mode : n.mode ≡ (inode_at image d).mode
  pub nlink : n.nlink ≡ (inode_at image d).nlink
  pub generation : n.generation ≡ (inode_at image d).generation
  pub placed : IsPlaced image d (head_of n)
  pub kept : (l : ℕ) → l < sectors_of ((frame image).head d).size → address_of image (head_of n) (Body l) ≡ (frame image).address d (Body l)
  pub content : slot_in image (head_of n) k ≡ s
  pub new_plain : IsPlain (tree (frame image)) s
  pub used : (j : ℕ) (name : List ℕ) → s ≡ Some (j, name) → (((frame image).head j).is_used ≡ true) × (name ≢ [])
  pub bound : (j : ℕ) → is_slot_of j s ≡ true → links (tree (frame image)) j + 1 ≤ 65535

-- The inode n makes walked directory d longer by one slot, k, which comes to name directory i, which nothing names, and which has `.` and `..` alone. Its sector has been put, and so has a block of addresses that changed.
pub record GrowsDirectory (image : Image) (d k i : ℕ) (name : List ℕ) (n : Inode) : Type 0 where
  pub walked : is_walked (tree (frame image)) d ≡ true
  pub end : k ≡ ((frame image).head d).size / 16
  pub even : ((frame image).head d).size % 16 ≡ 0
  pub longer : n.size ≡ ((frame image).head d).size + 16
  pub mode : n.mode ≡ (inode_at image d).mode
  pub nlink : n.nlink ≡ (inode_at image d).nlink + 1
  pub generation : n.generation ≡ (inode_at image d).generation
  pub placed : IsPlaced image d (head_of n)
  pub kept : (l : ℕ) → l < sectors_of ((frame image).head d).size → address_of image (head_of n) (Body l) ≡ (frame image).address d (Body l)
  pub content : slot_in image (head_of n) k ≡ Some (i, name)
  pub dir : is_directory ((frame image).head i) ≡ true
  pub apart : i ≢ d
  pub no_root : i ≢ 2
  pub unnamed : is_named (tree (frame image)) i ≡ false
  pub dot : slot_at (tree (frame image)) i 0 ≡ Some (i, 46 ∷ [])
  pub dots : slot_at (tree (frame image)) i 1 ≡ Some (d, 46 ∷ 46 ∷ [])
  pub nothing : (l : ℕ) → 2 ≤ l → slot_at (tree (frame image)) i l ≡ None
  pub good_name : name ≢ []
  pub bound : links (tree (frame image)) d + 1 ≤ 65535

-- The put of the sector of a walked directory d whose empty slot k comes to name directory i, which nothing names, and which has `.` and `..` alone.
pub record PutsDirectory (image : Image) (d k i : ℕ) (name : List ℕ) (bytes : List ℕ) : Type 0 where
  pub walked : is_walked (tree (frame image)) d ≡ true
  pub inside : k < ((frame image).head d).size / 16
  pub puts : PutsSlot (sector_at image ((frame image).address d (Body (k / 32)))) k bytes (Some (i, name))
  pub past : 2 ≤ k
  pub empty : slot_at (tree (frame image)) d k ≡ None
  pub dir : is_directory ((frame image).head i) ≡ true
  pub apart : i ≢ d
  pub no_root : i ≢ 2
  pub unnamed : is_named (tree (frame image)) i ≡ false
  pub dot : slot_at (tree (frame image)) i 0 ≡ Some (i, 46 ∷ [])
  pub dots : slot_at (tree (frame image)) i 1 ≡ Some (d, 46 ∷ 46 ∷ [])
  pub nothing : (l : ℕ) → 2 ≤ l → slot_at (tree (frame image)) i l ≡ None
  pub good_name : name ≢ []
  pub bound : links (tree (frame image)) d + 1 ≤ 65535

-- The put of the sector of a walked directory d whose slot k, which names directory i, is emptied. Directory i is empty.
pub record TakesDirectory (image : Image) (d k i : ℕ) (name : List ℕ) (bytes : List ℕ) : Type 0 where
  pub walked : is_walked (tree (frame image)) d ≡ true
  pub inside : k < ((frame image).head d).size / 16
  pub puts : PutsSlot (sector_at image ((frame image).address d (Body (k / 32)))) k bytes None
  pub past : 2 ≤ k
  pub slot : slot_at (tree (frame image)) d k ≡ Some (i, name)
  pub dir : is_directory ((frame image).head i) ≡ true
  pub apart : i ≢ d
  pub no_root : i ≢ 2
  pub nothing : (l : ℕ) → 2 ≤ l → slot_at (tree (frame image)) i l ≡ None
