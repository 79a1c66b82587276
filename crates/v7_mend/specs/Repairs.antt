-- What a repair does.
use Rattle.std.specs.Prelude.{◌≡◌, ◌≢◌, ◌⊎◌, ◌<◌, ◌≤◌, ◌+◌, ◌-◌, ◌*◌, ℕ, true, List, length, get_or}
use Rattle.files_model.specs.Files.{sectors_of}
use Rattle.stable.specs.Store.{Image}
use Rattle.v7_layout.specs.declared.inode.Inode.{Inode}
use Rattle.v7_map.specs.Image.{sector_at, isize_of, is_inode, inode_at, inode_sector}
use Rattle.v7_map.specs.Frame.{Place, Body, Single, Double, frame}
use Rattle.v7_map.specs.Tree.{tree, is_named, links as count_links}
use Rattle.v7_map.specs.Weak.{IsWeak, IsStrong}
use Rattle.v7_map.specs.View.{view}
use Rattle.v7_mend.specs.Keeps.{KeepsFiles}
use Rattle.v7_mend.specs.Settled.{settled_inode}
use Rattle.v7_mend.specs.Settles.{IsSettled}
use Rattle.v7_mend.specs.Trims.{has_map, IsTrimmed}

-- the list says of each inode how many slots of walked directories name it
abbrev pub AreLinks : Image → List ℕ → Type 0
AreLinks image counts = (i : ℕ) → is_inode image i ≡ true → get_or counts i 0 ≡ count_links (tree (frame image)) i

-- inode i of an image as it is after a repair
abbrev pub settled_at : Image → List ℕ → ℕ → Inode
settled_at image counts i = settled_inode (inode_at image i) (get_or counts i 0) (has_map image (inode_at image i) (get_or counts i 0))

-- each inode is as it is after a repair
abbrev pub AreSettled : Image → Image → List ℕ → Type 0
AreSettled old new counts = (i : ℕ) → is_inode old i ≡ true → inode_at new i ≡ settled_at old counts i

-- the inodes of a sector have nothing to mend
abbrev pub AreSettledIn : Image → List ℕ → ℕ → Type 0
AreSettledIn image counts s = (i : ℕ) → is_inode image i ≡ true → inode_sector i ≡ s → settled_at image counts i ≡ inode_at image i

-- Where the blocks of addresses that are to stay are trimmed, and the inodes before the n-th sector are settled.
pub record SettledTo (old new : Image) (counts : List ℕ) (n : ℕ) : Type 0 where
  pub files : KeepsFiles old new
  pub before : (i : ℕ) → is_inode new i ≡ true → inode_sector i < n → inode_at new i ≡ settled_at old counts i
  pub after : (i : ℕ) → is_inode new i ≡ true → n ≤ inode_sector i → inode_at new i ≡ inode_at old i
  pub has : (i : ℕ) → is_inode new i ≡ true → n ≤ inode_sector i → has_map new (inode_at new i) (get_or counts i 0) ≡ has_map old (inode_at old i) (get_or counts i 0)
  pub trimmed : (i : ℕ) → is_inode new i ≡ true → n ≤ inode_sector i → IsTrimmed new i (get_or counts i 0)
  pub settled : (i : ℕ) → is_inode new i ≡ true → inode_sector i < n → IsSettled (frame new) i (get_or counts i 0)
  pub kept : (s : ℕ) → 2 ≤ s → s < n → AreSettledIn old counts s → sector_at new s ≡ sector_at old s
  pub rest : (s : ℕ) → (s < 2) ⊎ (n ≤ s) → sector_at new s ≡ sector_at old s

-- A store of so many sectors has the inodes of a volume whose list of them ends at this block, and the list has one number for each and one for 0.
pub record HasLinks (isize sectors : ℕ) (counts : List ℕ) : Type 0 where
  pub low : 3 ≤ isize
  pub high : isize ≤ 8193
  pub place : isize ≤ sectors
  pub each : length counts ≡ 8 * (isize - 2) + 1

-- The volume can be mended, and these are the links of its inodes.
pub record CanMend (image : Image) (isize : ℕ) (counts : List ℕ) : Type 0 where
  pub weak : IsWeak (frame image)
  pub ends : isize ≡ isize_of image
  pub links : AreLinks image counts

-- A repair: there is nothing to mend, and the files are the same. Each block stands where it stood or nowhere, and all that an inode with a name has below its size stay.
pub record Repairs (old new : Image) : Type 0 where
  pub strong : IsStrong (frame new)
  pub view : view new ≡ view old
  pub places : (i : ℕ) (p : Place) → (frame new).address i p ≢ 0 → (frame new).address i p ≡ (frame old).address i p
  pub below : (i k : ℕ) → is_named (tree (frame old)) i ≡ true → k < sectors_of (inode_at old i).size → (frame new).address i (Body k) ≡ (frame old).address i (Body k)

-- The repair that is made, where so many slots name each inode. A sector that it changes is one that each repair changes.
pub record IsMended (old new : Image) (counts : List ℕ) : Type 0 where
  pub repairs : Repairs old new
  pub inodes : AreSettled old new counts
  pub needed : (other : Image) → Repairs old other → (s : ℕ) → sector_at new s ≢ sector_at old s → sector_at other s ≢ sector_at old s

-- The block at this place of inode i is one that a repair leaves there: the inode has a name, and the block holds what is below its size, or the address of such a one.
abbrev pub IsNeeded : Image → ℕ → Place → Type 0
IsNeeded image i (Body k) = (is_named (tree (frame image)) i ≡ true) × (k < sectors_of (inode_at image i).size)
IsNeeded image i Single = (is_named (tree (frame image)) i ≡ true) × ((k : ℕ) × (10 ≤ k) × (k < sectors_of (inode_at image i).size) × ((frame image).address i (Body k) ≢ 0))
IsNeeded image i Double = ⊥
