-- What is free on a volume.
use Rattle.std.specs.Prelude.{◌≡◌, ◌≢◌, ℕ, ◌+◌, ◌-◌, ◌^◌, ◌<◌, ◌≤◌, Bool, true, false, List, length, Some}
use Rattle.std.specs.Ordering.{nat_cmp}
use Rattle.std.specs.FinMap.{FinMap, get}
use Rattle.index_sets.specs.Free.{is_free}
use Rattle.stable.specs.Store.{Image}
use Rattle.v7_map.specs.Frame.{Frame, Place, frame}
use Rattle.v7_map.specs.Image.{inodes_before}
use Rattle.v7_map.specs.View.{view}

-- a data block that stands at no place
pub record IsFreeBlock (f : Frame) (b : ℕ) : Type 0 where
  pub low : f.isize ≤ b
  pub high : b < f.fsize
  pub nowhere : (i : ℕ) (p : Place) → f.address i p ≢ b

-- An i-number that a new file may have: past the root, free, and its generation can go up. An inode of the greatest generation stays free for good.
pub record IsFreeNumber (f : Frame) (generations : FinMap nat_cmp ℕ) (i : ℕ) : Type 0 where
  pub past : 3 ≤ i
  pub within : i ≤ inodes_before f.isize
  pub unused : (f.head i).is_used ≡ false
  pub fresh : (g : ℕ) → get generations i ≡ Some g → g < 2 ^ 32 - 1

-- The sets have what is free of a frame with these generations, and nothing else, and room for each block and each i-number.
pub record AreSets (f : Frame) (generations : FinMap nat_cmp ℕ) (blocks inodes : List Bool) : Type 0 where
  pub blocks_room : length blocks ≡ f.fsize
  pub inodes_room : length inodes ≡ inodes_before f.isize + 1
  pub free : (b : ℕ) → is_free blocks b ≡ true → IsFreeBlock f b
  pub all_free : (b : ℕ) → IsFreeBlock f b → is_free blocks b ≡ true
  pub numbers : (i : ℕ) → is_free inodes i ≡ true → IsFreeNumber f generations i
  pub all_numbers : (i : ℕ) → IsFreeNumber f generations i → is_free inodes i ≡ true

-- the sets are those of an image
abbrev pub AreSetsOf : Image → List Bool → List Bool → Type 0
AreSetsOf image blocks inodes = AreSets (frame image) (view image).generations blocks inodes
