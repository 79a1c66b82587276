-- Which sectors a repair changes.
use Rattle.std.specs.Prelude.{◌≡◌, ◌≢◌, ◌⊎◌, ◌<◌, ◌≤◌, ℕ, zero, suc, List, [], ◌∷◌, length}
use Rattle.std.specs.List.{AllByRecursion}
use Rattle.stable.specs.Store.{Image}
use Rattle.v7_map.specs.Image.{sector_at, isize_of}
use Rattle.v7_map.specs.Frame.{Single, frame}

-- no put, or one put of this sector, which it changes
abbrev pub PutsSome : ℕ → Image → Image → ℕ → Type 0
PutsSome zero old new sector = new ≡ old
PutsSome (suc n) old new sector = (n ≡ 0) × (sector_at new sector ≢ sector_at old sector) × ((s : ℕ) → s ≢ sector → sector_at new s ≡ sector_at old s)

-- each stands once in the list
abbrev pub NoneTwice : List ℕ → Type 0
NoneTwice [] = Unit {0}
NoneTwice (s ∷ ss) = AllByRecursion (λ q. q ≢ s) ss × NoneTwice ss

-- Exactly n sectors differ, and each of them has P.
pub record Differ (P : ℕ → Type 0) (old new : Image) (n : ℕ) : Type 0 where
  pub sectors : List ℕ
  pub count : length sectors ≡ n
  pub each : AllByRecursion (λ s. sector_at new s ≢ sector_at old s) sectors
  pub once : NoneTwice sectors
  pub within : AllByRecursion P sectors
  pub others : (s : ℕ) → AllByRecursion (λ q. q ≢ s) sectors → sector_at new s ≡ sector_at old s

-- a sector past the inodes
abbrev pub IsDataBlock : Image → ℕ → Type 0
IsDataBlock image s = isize_of image ≤ s

-- the block of addresses of an inode from one number up to another
abbrev pub IsMapIn : Image → ℕ → ℕ → ℕ → Type 0
IsMapIn image from to s = (j : ℕ) × (from ≤ j) × (j < to) × (s ≢ 0) × ((frame image).address j Single ≡ s)

-- a sector of inodes, where the list of them ends at this block
abbrev pub HasInodes : ℕ → ℕ → Type 0
HasInodes isize s = (2 ≤ s) × (s < isize)

-- a sector that a repair may change: one of inodes, or the block of addresses of an inode
abbrev pub MayChange : Image → ℕ → Type 0
MayChange image s = HasInodes (isize_of image) s ⊎ ((j : ℕ) × (s ≢ 0) × ((frame image).address j Single ≡ s))
