-- What is known of a volume after its tests.
use Rattle.std.specs.Prelude.{◌≡◌, ◌<◌, ◌≤◌, ℕ, ◌+◌, true, get_or, length, Some, None, Result, Ok, Err}
use Rattle.stable.specs.Store.{Image}
use Rattle.v7_layout.specs.Records.{super_of}
use Rattle.v7_map.specs.Image.{sector_at, inode_sector, inodes_before}
use Rattle.v7_map.specs.Frame.{frame}
use Rattle.v7_map.specs.Tree.{tree, is_walked, links}
use Rattle.v7_map.specs.Damage.{damage, has_sizes}
use Rattle.v7_damage.specs.Marks.{mark_at}
use Rattle.v7_damage.specs.Names.{AreTypes, AreCounts, slots_until}
use Rattle.v7_damage.specs.Summaries.{no_summary, summary_at}
use Rattle.v7_damage.specs.Tests.{told}
use Rattle.v7_damage.specs.declared.damage.RepairFault.{RepairFault}
use Rattle.v7_damage.specs.declared.damage.RepairFault.TheVariants.{Damaged, Failed, NoMemory}
use Rattle.v7_damage.specs.declared.tested.Names.{Names}
use Rattle.v7_damage.specs.declared.tested.Undamaged.{Undamaged}

-- the walked directories and the counts of all slots of those below n
pub record AreNames (image : Image) (n : ℕ) (names : Names) : Type 0 where
  pub walked : (i : ℕ) → mark_at names.walked i ≡ is_walked (tree (frame image)) i
  pub counted : AreCounts names.counts.items (slots_until (tree (frame image)) 0 n 0)

-- with an entry for each of n i-numbers
pub record HasNames (n : ℕ) (names : Names) : Type 0 where
  pub walked : length names.walked ≡ n
  pub counts : length names.counts.items ≡ n

-- no test fails, and this is the super-block, these are the types, the walked directories, the links that slots of these make, and the summaries of the used inodes
pub record IsUndamaged (image : Image) (known : Undamaged) : Type 0 where
  pub undamaged : damage (frame image) ≡ None
  pub super_is : known.super_block ≡ super_of (sector_at image 1)
  pub count : length known.types.items ≡ (tree (frame image)).inodes + 1
  pub types_are : AreTypes (frame image) known.types.items
  pub walked_are : (i : ℕ) → mark_at known.walked i ≡ is_walked (tree (frame image)) i
  pub summaries_are : (i : ℕ) → ((frame image).head i).is_used ≡ true → get_or known.summaries.items i no_summary ≡ summary_at (frame image) i
  pub counts_are : (i : ℕ) → 1 ≤ i → i < length known.counts.items → get_or known.counts.items i 0 ≡ links (tree (frame image)) i

-- the damage is that of the first test that fails; want of memory and failed devices say nothing
abbrev pub IsFaultOf : Image → RepairFault → Type 0
IsFaultOf image (Damaged sector which) = told (frame image) (damage (frame image)) ≡ Some (sector, which)
IsFaultOf image Failed = Unit {0}
IsFaultOf image NoMemory = Unit {0}

-- an image without damage is known, or its damage is told
abbrev pub IsTested : Image → Result Undamaged RepairFault → Type 0
IsTested image (Ok known) = IsUndamaged image known
IsTested image (Err fault) = IsFaultOf image fault

-- the super-block's numbers are those of a volume on a store of so many sectors, the tables have an entry for each inode, and each inode's sector is one of the store's
pub record HasEntries (sectors : ℕ) (known : Undamaged) : Type 0 where
  pub some : 1 ≤ length known.types.items
  pub few : length known.types.items ≤ 65536
  pub walked : length known.walked ≡ length known.types.items
  pub counts : length known.counts.items ≡ length known.types.items
  pub summaries : length known.summaries.items ≡ length known.types.items
  pub stand : (i : ℕ) → i < length known.types.items → inode_sector i < sectors
  pub sizes : has_sizes known.super_block.mark known.super_block.s_isize known.super_block.s_fsize sectors ≡ true
  pub all : length known.types.items ≡ inodes_before known.super_block.s_isize + 1
