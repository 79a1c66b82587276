-- What is known after the tests of the inodes.
use Rattle.std.specs.Prelude.{◌≡◌, ◌<◌, ◌≤◌, ℕ, ◌+◌, true, get_or, length}
use Rattle.stable.specs.Store.{Image}
use Rattle.v7_layout.specs.Records.{super_of}
use Rattle.v7_map.specs.Image.{sector_at, inode_sector, inodes_before}
use Rattle.v7_map.specs.Frame.{frame}
use Rattle.v7_map.specs.Tree.{tree}
use Rattle.v7_map.specs.Damage.{has_sizes}
use Rattle.v7_damage.specs.Tables.{AreBodies, HasTables}
use Rattle.v7_damage.specs.declared.listed.Listed.{Listed}

-- the super-block, the types of the inodes, and where the slots of directories stand
pub record IsListed (image : Image) (listed : Listed) : Type 0 where
  pub super_is : listed.super_block ≡ super_of (sector_at image 1)
  pub types_are : (i : ℕ) → get_or listed.types.items i 0 ≡ ((frame image).head i).type
  pub bodies_are : AreBodies image listed.bodies ((tree (frame image)).inodes + 1)
  pub count : length listed.types.items ≡ (tree (frame image)).inodes + 1

-- the super-block's numbers are those of a volume on a store of so many sectors, the tables have an entry for each inode, and each inode's sector is one of the store's
pub record HasList (sectors : ℕ) (listed : Listed) : Type 0 where
  pub tables : HasTables (length listed.types.items) listed.types.items listed.bodies
  pub some : 1 ≤ length listed.types.items
  pub few : length listed.types.items ≤ 65536
  pub stand : (i : ℕ) → i < length listed.types.items → inode_sector i < sectors
  pub sizes : has_sizes listed.super_block.mark listed.super_block.s_isize listed.super_block.s_fsize sectors ≡ true
  pub all : length listed.types.items ≡ inodes_before listed.super_block.s_isize + 1
