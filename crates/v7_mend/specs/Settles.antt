-- The inodes of a sector after a repair.
use Rattle.std.specs.Prelude.{◌≡◌, ◌≢◌, ◌⊎◌, ◌+◌, ◌<◌, ◌≤◌, ℕ, true, List, ◌++◌, take, drop, length, get_or, set, not, ◌==◌}
use Rattle.std.specs.List.{range_with_len, list_any}
use Rattle.v7_layout.specs.declared.inode.Inode.{Inode}
use Rattle.v7_layout.specs.Numbers.{part}
use Rattle.v7_layout.specs.Records.{inode_of}
use Rattle.files_model.specs.Files.{sectors_of}
use Rattle.stable.specs.Store.{Image}
use Rattle.v7_map.specs.Image.{sector_at, inode_sector, inode_offset}
use Rattle.v7_map.specs.Frame.{Frame, Body, Single}
use Rattle.v7_mend.specs.Settled.{settled_inode, holds_in}

-- the inode that a sector has at the place of number i
abbrev pub inode_here : List ℕ → ℕ → Inode
inode_here bytes i = inode_of (part bytes (inode_offset i) 64)

-- inode i of a sector of the image, as it is after a repair
abbrev pub settled_here : Image → List ℕ → List ℕ → ℕ → Inode
settled_here image bytes links i = settled_inode (inode_here bytes i) (get_or links i 0) (holds_in image (inode_here bytes i))

-- the inodes in the bytes of a sector have nothing to mend
abbrev pub AreSettledHere : Image → List ℕ → ℕ → List ℕ → Type 0
AreSettledHere image bytes sector links = (i : ℕ) → 1 ≤ i → inode_sector i ≡ sector → settled_here image bytes links i ≡ inode_here bytes i

-- The bytes are those of a sector of inodes after a repair.
pub record SettledBytes (image : Image) (sector : ℕ) (links bytes : List ℕ) : Type 0 where
  pub long : length bytes ≡ 512
  pub each : (i : ℕ) → 1 ≤ i → inode_sector i ≡ sector → inode_here bytes i ≡ settled_here image (sector_at image sector) links i
  pub same : AreSettledHere image (sector_at image sector) sector links → bytes ≡ sector_at image sector

-- One sector of inodes is put as it is after a repair.
pub record Settles (old new : Image) (sector : ℕ) (links : List ℕ) : Type 0 where
  pub bytes : List ℕ
  pub settled : SettledBytes old sector links bytes
  pub is : new ≡ set old sector bytes

-- There is nothing to mend at inode i, which so many slots name.
pub record IsSettled (f : Frame) (i links : ℕ) : Type 0 where
  pub counted : (f.head i).is_used ≡ true → (f.head i).nlink ≡ links
  pub named : (f.head i).is_used ≡ true → 0 < links
  pub none_past : (k : ℕ) → sectors_of (f.head i).size ≤ k → f.address i (Body k) ≡ 0
  pub single_needed : f.address i Single ≢ 0 → list_any (λ k. not (f.address i (Body k) == 0)) (range_with_len 10 128) ≡ true

-- where an inode is used, its block of addresses is one past the super-block
abbrev pub MapStands : Image → Inode → Type 0
MapStands image n = not (n.mode == 0) ≡ true → n.single ≢ 0 → (2 ≤ n.single) × (n.single < length image)

-- a sector in which inode i is replaced by another
pub record ReplacesInode (sector : List ℕ) (i : ℕ) (n : Inode) (result : List ℕ) : Type 0 where
  pub bytes : List ℕ
  pub long : length bytes ≡ 64
  pub reads : inode_of bytes ≡ n
  pub is : result ≡ take (inode_offset i) sector ++ bytes ++ drop (inode_offset i + length bytes) sector

-- the inodes of the sector below a number are as they are after a repair
abbrev pub SettledBelow : Image → List ℕ → ℕ → List ℕ → List ℕ → ℕ → Type 0
SettledBelow image held sector links bytes n = (i : ℕ) → 1 ≤ i → inode_sector i ≡ sector → i < n → inode_here bytes i ≡ settled_here image held links i

-- a cut put of a sector of inodes: nothing, or all of it
abbrev pub MaySettle : Image → ℕ → List ℕ → Image → Type 0
MaySettle old sector links image = (image ≡ old) ⊎ Settles old image sector links

-- a sector in which inode i is that one, and each other is as it was
pub record SetsInode (sector : List ℕ) (i : ℕ) (n : Inode) (result : List ℕ) : Type 0 where
  pub here : inode_here result i ≡ n
  pub same : n ≡ inode_here sector i → result ≡ sector
  pub others : (j : ℕ) → 1 ≤ j → inode_sector j ≡ inode_sector i → j ≢ i → inode_here result j ≡ inode_here sector j
