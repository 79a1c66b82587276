-- When an image can be mended, and when there is nothing to mend (docs/FORMATS.md, damage).
-- Each field is an equation, an order or a function into these, so that a ghost field may have them.
use Rattle.std.specs.Prelude.{◌≡◌, ◌≢◌, ℕ, ◌%◌, ◌<◌, ◌≤◌, true, false, List, [], ◌∷◌, get_or, Some, None, ◌==◌, ◌||◌, not}
use Rattle.std.specs.List.{range_with_len, list_any}
use Rattle.files_model.specs.Files.{Slot, sectors_of}
use Rattle.files_model.specs.Space.{size_limit}
use Rattle.v7_map.specs.Frame.{Frame, Head, Place, Body, Single, Double, is_directory}
use Rattle.v7_map.specs.Tree.{Tree, tree, is_walked, links, is_named, is_child, seen_slots, number_in}

-- the super-block's numbers
pub record HasSizes (f : Frame) : Type 0 where
  pub mark : f.mark ≡ 1
  pub low : 3 ≤ f.isize
  pub high : f.isize ≤ 8193
  pub above : f.isize < f.fsize
  pub within : f.fsize ≤ f.sectors
  pub not_huge : f.fsize ≤ 1048576

-- a used inode by itself: a type of the three, and a size that its type may have
pub record IsGood (h : Head) : Type 0 where
  pub kind : ((h.type == 4) || ((h.type == 8) || (h.type == 10))) ≡ true
  pub length : h.size ≤ size_limit
  pub link : h.type ≡ 10 → h.size ≤ 1024
  pub directory : h.type ≡ 4 → (32 ≤ h.size) × (h.size % 16 ≡ 0)

-- slot k of directory d
abbrev pub slot_at : Tree → ℕ → ℕ → Slot
slot_at t d k = get_or (seen_slots t d) k None

-- where `..` leads
abbrev pub parent : Tree → ℕ → ℕ
parent t d = number_in (slot_at t d 1)

-- slot 0 is `.`, and slot 1 is `..` and names the parent, which has a slot for this directory
pub record HasDots (t : Tree) (d : ℕ) : Type 0 where
  pub self : slot_at t d 0 ≡ Some (d, 46 ∷ [])
  pub up : slot_at t d 1 ≡ Some (parent t d, 46 ∷ 46 ∷ [])
  pub root : d ≡ 2 → parent t d ≡ 2
  pub walked : is_walked t (parent t d) ≡ true
  pub child : d ≢ 2 → is_child t (parent t d) d ≡ true

-- the walked directories are a tree
pub record IsTree (f : Frame) (t : Tree) : Type 0 where
  pub dots : (d : ℕ) → is_walked t d ≡ true → HasDots t d
  pub used : (d k i : ℕ) (name : List ℕ) → is_walked t d ≡ true → slot_at t d k ≡ Some (i, name) → ((f.head i).is_used ≡ true) × (name ≢ [])
  pub linked : (i : ℕ) → links t i ≤ 65535
  pub one_slot : (d e k l i : ℕ) (name other : List ℕ) → is_walked t d ≡ true → is_walked t e ≡ true → 2 ≤ k → 2 ≤ l → t.is_dir i ≡ true
      → slot_at t d k ≡ Some (i, name) → slot_at t e l ≡ Some (i, other) → (i ≢ 2) × (d ≡ e) × (k ≡ l)

-- the image can be mended
pub record IsWeak (f : Frame) : Type 0 where
  pub sizes : HasSizes f
  -- the inodes
  pub first : (f.head 1).is_used ≡ false
  pub root : is_directory (f.head 2) ≡ true
  pub good : (i : ℕ) → (f.head i).is_used ≡ true → IsGood (f.head i)
  -- each block is a data block, and stands at one place
  pub data_block : (i : ℕ) (p : Place) → f.address i p ≢ 0 → (f.isize ≤ f.address i p) × (f.address i p < f.fsize)
  pub needed : (i k : ℕ) → is_directory (f.head i) ≡ true → k < sectors_of (f.head i).size → f.address i (Body k) ≢ 0
  pub no_double : (i : ℕ) → f.address i Double ≡ 0
  pub unshared : (i j : ℕ) (p q : Place) → f.address i p ≢ 0 → f.address i p ≡ f.address j q → (i ≡ j) × (p ≡ q)
  pub names : IsTree f (tree f)

-- there is nothing to mend: the stored link counts are the counted ones, each used inode is named, no block stands past the size,
-- and a block of addresses stands only where it holds one
pub record IsStrong (f : Frame) : Type 0 where
  pub weak : IsWeak f
  pub counted : (i : ℕ) → (f.head i).is_used ≡ true → (f.head i).nlink ≡ links (tree f) i
  pub named : (i : ℕ) → (f.head i).is_used ≡ true → is_named (tree f) i ≡ true
  pub none_past : (i k : ℕ) → sectors_of (f.head i).size ≤ k → f.address i (Body k) ≡ 0
  pub single_needed : (i : ℕ) → f.address i Single ≢ 0 → list_any (λ k. not (f.address i (Body k) == 0)) (range_with_len 10 128) ≡ true
