-- What is free, as sets have it, when one inode's blocks change.
use Rattle.std.specs.Prelude.{◌≡◌, ◌≢◌, ℕ, ◌⊎◌, Bool, true, false, List}
use Rattle.std.specs.Ordering.{nat_cmp}
use Rattle.std.specs.FinMap.{FinMap}
use Rattle.index_sets.specs.Free.{is_free}
use Rattle.v7_map.specs.Frame.{Frame, Place}
use Rattle.v7_sets.specs.Sets.{IsFreeBlock, IsFreeNumber}

-- exactly the free blocks
pub record HoldsBlocks (f : Frame) (blocks : List Bool) : Type 0 where
  pub free : (b : ℕ) → is_free blocks b ≡ true → IsFreeBlock f b
  pub each : (b : ℕ) → IsFreeBlock f b → is_free blocks b ≡ true

-- exactly the free i-numbers
pub record HoldsNumbers (f : Frame) (generations : FinMap nat_cmp ℕ) (inodes : List Bool) : Type 0 where
  pub free : (i : ℕ) → is_free inodes i ≡ true → IsFreeNumber f generations i
  pub each : (i : ℕ) → IsFreeNumber f generations i → is_free inodes i ≡ true

-- the blocks of inode i in f are free besides
pub record GivesBlocks (f : Frame) (i : ℕ) (old new : List Bool) : Type 0 where
  pub given : (p : Place) → f.address i p ≢ 0 → is_free new (f.address i p) ≡ true
  pub kept : (b : ℕ) → is_free old b ≡ true → is_free new b ≡ true
  pub only : (b : ℕ) → is_free new b ≡ true → (is_free old b ≡ true) ⊎ ((p : Place) × (f.address i p ≢ 0) × (f.address i p ≡ b))

-- the blocks of inode i in g are free no longer
pub record TakesBlocks (g : Frame) (i : ℕ) (old new : List Bool) : Type 0 where
  pub taken : (p : Place) → g.address i p ≢ 0 → is_free new (g.address i p) ≡ false
  pub kept : (b : ℕ) → is_free old b ≡ true → ((p : Place) → g.address i p ≢ b) → is_free new b ≡ true
  pub only : (b : ℕ) → is_free new b ≡ true → is_free old b ≡ true

-- Blocks stand where they stood, but that inode i has more of them.
pub record GainsBlocks (i : ℕ) (f g : Frame) : Type 0 where
  pub isize : g.isize ≡ f.isize
  pub fsize : g.fsize ≡ f.fsize
  pub others : (j : ℕ) → j ≢ i → (p : Place) → g.address j p ≡ f.address j p
  pub own : (p : Place) → f.address i p ≢ 0 → g.address i p ≡ f.address i p

-- The same inodes are used, with the same generations.
pub record KeepsNumbers (f g : Frame) (old new : FinMap nat_cmp ℕ) : Type 0 where
  pub isize : g.isize ≡ f.isize
  pub used : (j : ℕ) → (g.head j).is_used ≡ (f.head j).is_used
  pub same : new ≡ old
