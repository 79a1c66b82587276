-- The frame of an image: all that says where things are. What files hold, owners, permissions, times and generations are put aside,
-- so a write of those keeps the frame.
use Rattle.std.specs.Prelude.{◌≡◌, ◌≢◌, ◌<◌, ◌≤◌, ℕ, ◌-◌, ◌*◌, ◌/◌, ◌%◌, Bool, true, List, [], length, get_or, map, Some, None, ◌==◌, nat_lt, if◌then◌else◌, not}
use Rattle.std.specs.List.{range_with_len, take_while}
use Rattle.v7_layout.specs.declared.inode.Inode.{Inode}
use Rattle.v7_layout.specs.Numbers.{part, field}
use Rattle.v7_layout.specs.Records.{slot_of_bytes}
use Rattle.files_model.specs.Files.{Slot}
use Rattle.stable.specs.Store.{Image}
use Rattle.v7_map.specs.Image.{sector_at, isize_of, fsize_of, mark_of, inodes_before, inode_at}

-- what a frame has of an inode. The type is the four highest bits of the mode, 0 in a free inode
pub record Head : Type 0 where
  pub is_used : Bool
  pub type : ℕ
  pub nlink : ℕ
  pub size : ℕ
  pub direct : List ℕ
  pub single : ℕ
  pub double : ℕ

-- the head of an inode, which is free where its mode is 0
abbrev pub head_of : Inode → Head
head_of n = record { is_used = not (n.mode == 0); type = n.mode / 4096; nlink = n.nlink; size = n.size; direct = n.direct; single = n.single; double = n.double }

-- the type is that of a directory
abbrev pub is_directory : Head → Bool
is_directory h = h.type == 4

-- a place of a block of an inode: one that holds sector k of its body, or one that holds addresses
pub data Place : Type 0 where
  Body : ℕ → Place
  Single : Place
  Double : Place

-- a place of a block of addresses
abbrev pub IsMap : Place → Type 0
IsMap (Body k) = ⊥
IsMap Single = Unit {0}
IsMap Double = Unit {0}

-- how many sectors of a body have a place: 10 in the inode and 128 in the single indirect block
abbrev pub body_places : ℕ
body_places = 138

-- a place that an inode has
abbrev pub CanHold : Place → Type 0
CanHold (Body k) = k < body_places
CanHold Single = Unit {0}
CanHold Double = Unit {0}

-- of each inode what it is, the block at each of its places, 0 for none, and of a directory its slots
pub record Frame : Type 0 where
  pub sectors : ℕ
  pub mark : ℕ
  pub isize : ℕ
  pub fsize : ℕ
  pub head : ℕ → Head
  pub address : ℕ → Place → ℕ
  pub slots : ℕ → List Slot

-- the n-th address in a block of addresses
abbrev pub listed : Image → ℕ → ℕ → ℕ
listed image block n = if block == 0 then 0 else field (sector_at image block) (4 * n) 4

-- the block at a place of an inode
abbrev pub place_of : Image → Head → Place → ℕ
place_of image h (Body k) = if nat_lt k 10 then get_or h.direct k 0 else if nat_lt k body_places then listed image h.single (k - 10) else 0
place_of image h Single = h.single
place_of image h Double = h.double

-- the same, where a free inode has no blocks
unfoldable pub address_of : Image → Head → Place → ℕ
address_of image h p = if h.is_used then place_of image h p else 0

-- the slot of 16 bytes: empty where its i-number is 0, and else with the name up to its first zero byte
unfoldable pub slot_of : List ℕ → Slot
slot_of bytes =
    let s = slot_of_bytes bytes in
    if s.ino == 0 then None else Some (s.ino, take_while (λ b. not (b == 0)) s.name)

-- slot k of a directory, which stands in sector k / 32 of its body
abbrev pub slot_in : Image → Head → ℕ → Slot
slot_in image h k = slot_of (part (sector_at image (address_of image h (Body (k / 32)))) (16 * (k % 32)) 16)

-- the slots of a directory below its size; what is no directory has none
unfoldable pub slots_of : Image → Head → List Slot
slots_of image h = if is_directory h then map (slot_in image h) (range_with_len 0 (h.size / 16)) else []

-- the frame of an image
unfoldable pub frame : Image → Frame
frame image = record {
  sectors = length image;
  mark = mark_of image;
  isize = isize_of image;
  fsize = fsize_of image;
  head = λ i. head_of (inode_at image i);
  address = λ i. address_of image (head_of (inode_at image i));
  slots = λ i. slots_of image (head_of (inode_at image i));
}

-- what holds of the frame of any image: an inode that is used is one of the volume's, and a place that has a block is one of a used inode
pub record IsFrame (f : Frame) : Type 0 where
  pub numbers : (i : ℕ) → (f.head i).is_used ≡ true → (1 ≤ i) × (i ≤ inodes_before f.isize)
  pub directories : (i : ℕ) → is_directory (f.head i) ≡ true → (f.head i).is_used ≡ true
  pub places : (i : ℕ) (p : Place) → f.address i p ≢ 0 → ((f.head i).is_used ≡ true) × CanHold p
  pub through : (i k : ℕ) → 10 ≤ k → f.address i Single ≡ 0 → f.address i (Body k) ≡ 0
