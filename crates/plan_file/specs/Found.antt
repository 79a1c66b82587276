-- The sector of an inode after it is replaced.
use Rattle.std.specs.Prelude.{◌≡◌, ℕ, ◌+◌, List, ◌++◌, length, take, drop}
use Rattle.v7_layout.specs.declared.inode.Inode.{Inode}
use Rattle.v7_layout.specs.Records.{inode_of}
use Rattle.v7_map.specs.Image.{inode_offset}

-- a sector in which inode i is replaced by another
pub record ReplacesInode (sector : List ℕ) (i : ℕ) (n : Inode) (result : List ℕ) : Type 0 where
  pub bytes : List ℕ
  pub long : length bytes ≡ 64
  pub reads : inode_of bytes ≡ n
  pub is : result ≡ take (inode_offset i) sector ++ bytes ++ drop (inode_offset i + length bytes) sector
