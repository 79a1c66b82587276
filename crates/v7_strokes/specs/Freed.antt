-- Which blocks and i-numbers strokes leave free.
use Rattle.std.specs.Prelude.{◌≡◌, ◌≢◌, ℕ, ◌-◌, ◌^◌, ◌<◌, Bool, false, if◌then◌else◌}
use Rattle.v7_layout.specs.declared.inode.Inode.{Inode}
use Rattle.stable.specs.Store.{Image}
use Rattle.v7_map.specs.Frame.{Frame, Place, head_of, frame}
use Rattle.v7_map.specs.View.{view}
use Rattle.v7_sets.specs.Sets.{IsFreeBlock, IsFreeNumber}

-- Blocks stand where they stood, but that those of inode i, if it ended, stand nowhere.
pub record IsFreed (ended : Bool) (i : ℕ) (f g : Frame) : Type 0 where
  pub isize : g.isize ≡ f.isize
  pub fsize : g.fsize ≡ f.fsize
  pub others : (j : ℕ) → j ≢ i → (p : Place) → g.address j p ≡ f.address j p
  pub own : (p : Place) → g.address i p ≡ (if ended then 0 else f.address i p)

-- The free blocks after it: those before, and those of the inode that ended.
pub record FreesBlocks (i : ℕ) (f g : Frame) : Type 0 where
  pub kept : (a : ℕ) → IsFreeBlock f a → IsFreeBlock g a
  pub freed : (p : Place) → f.address i p ≢ 0 → IsFreeBlock g (f.address i p)
  pub only : (a : ℕ) → IsFreeBlock g a → ((p : Place) → f.address i p ≢ a) → IsFreeBlock f a

-- Inode i became n: other i-numbers are free as before, and i is free where n is, with a generation that can go up.
pub record ChangesNumber (old new : Image) (i : ℕ) (n : Inode) : Type 0 where
  pub kept : (j : ℕ) → j ≢ i → IsFreeNumber (frame old) (view old).generations j → IsFreeNumber (frame new) (view new).generations j
  pub only : (j : ℕ) → j ≢ i → IsFreeNumber (frame new) (view new).generations j → IsFreeNumber (frame old) (view old).generations j
  pub freed : (head_of n).is_used ≡ false → n.generation < 2 ^ 32 - 1 → IsFreeNumber (frame new) (view new).generations i
  pub if_free : IsFreeNumber (frame new) (view new).generations i → ((head_of n).is_used ≡ false) × (n.generation < 2 ^ 32 - 1)
