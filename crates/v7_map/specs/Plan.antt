-- Puts of an inode.
use Rattle.std.specs.Prelude.{◌≡◌, ◌≢◌, ◌≤◌, ℕ, true, List, length}
use Rattle.v7_layout.specs.declared.inode.Inode.{Inode}
use Rattle.v7_layout.specs.Numbers.{part}
use Rattle.v7_layout.specs.Records.{inode_of}
use Rattle.stable.specs.Store.{Image}
use Rattle.v7_map.specs.Image.{sector_at, inode_sector, inode_offset, is_inode}

-- The bytes are the sector of inode i with that inode replaced by n.
pub record PutsInode (old : Image) (i : ℕ) (bytes : List ℕ) (n : Inode) : Type 0 where
  pub inside : is_inode old i ≡ true
  pub long : length bytes ≡ 512
  pub here : inode_of (part bytes (inode_offset i) 64) ≡ n
  pub others : (j : ℕ) → 1 ≤ j → j ≢ i → inode_sector j ≡ inode_sector i
      → inode_of (part bytes (inode_offset j) 64) ≡ inode_of (part (sector_at old (inode_sector i)) (inode_offset j) 64)
