-- Free blocks of a volume, as a set has them.
use Rattle.std.specs.Prelude.{◌≡◌, ◌<◌, ◌≤◌, ℕ, min, Bool, true, List, drop}
use Rattle.index_sets.specs.Free.{is_free, count_free}
use Rattle.v7_map.specs.Frame.{Frame}
use Rattle.v7_sets.specs.Sets.{IsFreeBlock}
use Rattle.v7_sets.specs.declared.sets.Sets.{Sets}

-- how many are free from one on
abbrev pub count_from : List Bool → ℕ → ℕ
count_from blocks from = count_free (drop from blocks)

-- exactly the free blocks
pub record AreFree (f : Frame) (blocks : List Bool) : Type 0 where
  pub free : (a : ℕ) → is_free blocks a ≡ true → IsFreeBlock f a
  pub each : (a : ℕ) → IsFreeBlock f a → is_free blocks a ≡ true

-- the blocks of a set are past the super-block, and a store of so many sectors and an inode of three bytes an address can have them
abbrev pub AreSpare : ℕ → List Bool → Type 0
AreSpare sectors blocks = (a : ℕ) → is_free blocks a ≡ true → (2 ≤ a) × (a < min sectors 1048576)

-- the new sets have fewer blocks, or the same, and the i-numbers of the old ones
pub record TakesBlocks (old new : Sets) : Type 0 where
  pub blocks : (a : ℕ) → is_free new.blocks a ≡ true → is_free old.blocks a ≡ true
  pub inodes : new.inodes ≡ old.inodes
