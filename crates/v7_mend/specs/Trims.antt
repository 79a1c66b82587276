-- The blocks of addresses of a volume, without addresses past the sizes.
use Rattle.std.specs.Prelude.{◌≡◌, ◌≢◌, ◌⊎◌, ◌<◌, ◌≤◌, ℕ, Bool, true, ◌==◌, nat_lt, nat_le, ◌||◌, ◌&&◌, not, if◌then◌else◌, set, ◌+◌, ◌-◌, ◌*◌, List, get_or}
use Rattle.v7_layout.specs.declared.inode.Inode.{Inode}
use Rattle.files_model.specs.Files.{sectors_of}
use Rattle.stable.specs.Store.{Image}
use Rattle.v7_map.specs.Image.{sector_at, inode_at, isize_of}
use Rattle.v7_map.specs.Frame.{Place, Body, frame}
use Rattle.v7_mend.specs.Keeps.{KeepsFiles}
use Rattle.v7_mend.specs.Settled.{holds_below, holds_in, trimmed}

-- one of two images, as a put leaves them
abbrev pub Either : Image → Image → Image → Type 0
Either old new image = (image ≡ old) ⊎ (image ≡ new)

-- the image with the block of addresses in this sector trimmed to a body of so many sectors, where it has one of these
unfoldable pub trimmed_block : Image → ℕ → ℕ → Image
trimmed_block image sector sectors = if holds_below (sector_at image sector) sectors then set image sector (trimmed (sector_at image sector) sectors) else image

-- the inode has names and an address below its size in its block of addresses
abbrev pub has_map : Image → Inode → ℕ → Bool
has_map image m links = not ((m.mode == 0) || (links == 0)) && holds_in image m

-- the image with the block of addresses of inode i trimmed, if that is to stay: so many slots name i
unfoldable pub trimmed_at : Image → ℕ → ℕ → Image
trimmed_at image i links =
    let m = inode_at image i in
    if has_map image m links then set image m.single (trimmed (sector_at image m.single) (sectors_of m.size)) else image

-- the sector of an inode's block of addresses, 0 where it has no names, or where a volume of so many sectors has no such block
abbrev pub map_within : Inode → ℕ → ℕ → ℕ
map_within m links sectors = if (m.mode == 0) || ((links == 0) || (nat_lt m.single 2 || nat_le sectors m.single)) then 0 else m.single

-- a block of addresses that is to stay has none past the size
abbrev pub IsTrimmed : Image → ℕ → ℕ → Type 0
IsTrimmed image i links = has_map image (inode_at image i) links ≡ true → (k : ℕ) → 10 ≤ k → sectors_of (inode_at image i).size ≤ k → (frame image).address i (Body k) ≡ 0

-- What trimming the block of inode i does.
pub record Trims (old new : Image) (i links : ℕ) : Type 0 where
  pub files : KeepsFiles old new
  pub sectors : (s : ℕ) → s < isize_of old → sector_at new s ≡ sector_at old s
  pub others : (j : ℕ) → j ≢ i → (p : Place) → (frame new).address j p ≡ (frame old).address j p
  pub has : (j : ℕ) (l : ℕ) → has_map new (inode_at new j) l ≡ has_map old (inode_at old j) l
  pub here : IsTrimmed new i links

-- what stands in this sector, if it is a block of addresses that is to stay, has none past its file's size
abbrev pub IsTrimmedIn : Image → List ℕ → ℕ → Type 0
IsTrimmedIn image links s = (i : ℕ) → has_map image (inode_at image i) (get_or links i 0) ≡ true → (inode_at image i).single ≡ s → trimmed (sector_at image s) (sectors_of (inode_at image i).size) ≡ sector_at image s

-- Where the blocks of addresses that are to stay are trimmed, of the inodes from one number up to another; `links` tells how many slots name each.
pub record AreTrimmed (old new : Image) (links : List ℕ) (from to : ℕ) : Type 0 where
  pub files : KeepsFiles old new
  pub sectors : (s : ℕ) → s < isize_of old → sector_at new s ≡ sector_at old s
  pub has : (j l : ℕ) → has_map new (inode_at new j) l ≡ has_map old (inode_at old j) l
  pub still : (j : ℕ) → IsTrimmed old j (get_or links j 0) → IsTrimmed new j (get_or links j 0)
  pub trimmed : (i : ℕ) → from ≤ i → i < to → IsTrimmed new i (get_or links i 0)
  pub kept : (s : ℕ) → IsTrimmedIn old links s → sector_at new s ≡ sector_at old s

-- the first inode of a sector
abbrev pub first_in : ℕ → ℕ
first_in sector = 8 * (sector - 2) + 1
