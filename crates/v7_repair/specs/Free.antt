-- What is free after a repair, by what is known before it.
use Rattle.std.specs.Prelude.{◌≡◌, ◌^◌, ◌-◌, ℕ, Bool, List, length, nat_lt, nat_le, ◌&&◌, not}
use Rattle.index_sets.specs.Free.{is_free}
use Rattle.stable.specs.Store.{Image}
use Rattle.v7_map.specs.Image.{inode_at, inodes_before, isize_of}
use Rattle.v7_map.specs.Frame.{frame}
use Rattle.v7_map.specs.Tree.{tree, is_named}
use Rattle.v7_damage.specs.Marks.{mark_at}
use Rattle.v7_damage.specs.declared.tested.Undamaged.{Undamaged}
use Rattle.v7_sets.specs.declared.sets.Sets.{Sets}

-- block b is a data block that isn't needed
unfoldable pub is_left : ℕ → List Bool → ℕ → Bool
is_left isize needed b = nat_le isize b && (nat_lt b (length needed) && not (mark_at needed b))

-- nothing names i, and its generation isn't the greatest
unfoldable pub is_unnamed : Image → ℕ → Bool
is_unnamed image i = not (is_named (tree (frame image)) i) && nat_lt (inode_at image i).generation (2 ^ 32 - 1)

-- i-number i is one past the root's of which that holds
unfoldable pub is_fresh : Image → ℕ → Bool
is_fresh image i = nat_le 3 i && (nat_le i (inodes_before (isize_of image)) && is_unnamed image i)

-- the sets have these and nothing else
pub record AreLeft (image : Image) (needed : List Bool) (sets : Sets) : Type 0 where
  pub blocks : (b : ℕ) → is_free sets.blocks b ≡ is_left (isize_of image) needed b
  pub inodes : (i : ℕ) → is_free sets.inodes i ≡ is_fresh image i

-- the sets have room for each block and each i-number of the volume of which this is known
pub record HasRoom (known : Undamaged) (sets : Sets) : Type 0 where
  pub blocks : length sets.blocks ≡ known.super_block.s_fsize
  pub inodes : length sets.inodes ≡ length known.types.items
