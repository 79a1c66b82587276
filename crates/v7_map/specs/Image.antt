-- An image: the sectors of a volume, and where its records stand (docs/FORMATS.md, super-block and inode).
use Rattle.std.specs.Prelude.{◌≡◌, ℕ, ◌+◌, ◌-◌, ◌*◌, ◌/◌, ◌%◌, Bool, List, [], length, get_or, nat_le, if◌then◌else◌, not, ◌==◌, ◌&&◌}
use Rattle.std.specs.List.{All}
use Rattle.stable.specs.Store.{Image}
use Rattle.v7_layout.specs.declared.inode.Inode.{Inode}
use Rattle.v7_layout.specs.Numbers.{part, field}
use Rattle.v7_layout.specs.Records.{inode_of}

-- sector s, with no bytes where the image ends before it
abbrev pub sector_at : Image → ℕ → List ℕ
sector_at image s = get_or image s []

-- each sector has 512 bytes
abbrev pub IsImage : Image → Type 0
IsImage image = All (λ bytes. length bytes ≡ 512) image

-- ---- the super-block, sector 1

-- the first block after the list of inodes
abbrev pub isize_of : Image → ℕ
isize_of image = field (sector_at image 1) 0 2

-- the first block that can't be allocated
abbrev pub fsize_of : Image → ℕ
fsize_of image = field (sector_at image 1) 2 4

-- the volume mark
abbrev pub mark_of : Image → ℕ
mark_of image = field (sector_at image 1) 440 4

-- a super-block of these bytes makes the volume read-only
abbrev pub is_read_only : List ℕ → Bool
is_read_only super_block = not (field super_block 413 1 == 0)

-- ---- inodes

-- how many inodes a volume has whose list of inodes ends at this block
abbrev pub inodes_before : ℕ → ℕ
inodes_before isize = (isize - 2) * 8

-- the sector of inode i
abbrev pub inode_sector : ℕ → ℕ
inode_sector i = 2 + (i - 1) / 8

-- its first byte there
abbrev pub inode_offset : ℕ → ℕ
inode_offset i = 64 * ((i - 1) % 8)

-- a volume whose list of inodes ends at block isize has an inode of this number
abbrev pub is_number_below : ℕ → ℕ → Bool
is_number_below isize i = nat_le 1 i && nat_le i (inodes_before isize)

-- the volume has an inode of this number
abbrev pub is_inode : Image → ℕ → Bool
is_inode image i = is_number_below (isize_of image) i

-- inode i; a number that the volume hasn't is read as a free inode
unfoldable pub inode_at : Image → ℕ → Inode
inode_at image i = if is_inode image i then inode_of (part (sector_at image (inode_sector i)) (inode_offset i) 64) else inode_of []
