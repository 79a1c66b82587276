-- Inodes stand past the super-block and before the data blocks, and all of them in the image.
use Rattle.std.proofs.Common.{◌≡◌, ◌≢◌, ℕ, ◌<◌, ◌≤◌, true, length, arith}
use Rattle.stable.specs.Store.{Image}
use Rattle.v7_map.specs.Image.{isize_of, is_inode, inode_sector}
use Rattle.v7_map.specs.Frame.{Place, frame}
use Rattle.v7_map.specs.Weak.{IsWeak}
use Rattle.v7_map.proofs.Data.{inode_below}

module _ (image : Image) (weak : IsWeak (frame image)) where
  -- the sector of an inode
  pub inode_sector-inside : (i : ℕ) → is_inode image i ≡ true → (2 ≤ inode_sector i) × (inode_sector i < isize_of image) × (inode_sector i < length image)
  unfolding frame
  inode_sector-inside i is =
      let above = weak.sizes.above in
      let within = weak.sizes.within in
      let below : inode_sector i < isize_of image = inode_below (isize_of image) i is in
      (omega arith, below, omega arith)

  -- a block
  pub address-inside : (i : ℕ) (p : Place) → (frame image).address i p ≢ 0 → (3 ≤ (frame image).address i p) × (isize_of image ≤ (frame image).address i p) × ((frame image).address i p < length image)
  unfolding frame
  address-inside i p nonzero =
      let low = weak.sizes.low in
      let within = weak.sizes.within in
      let d = weak.data_block i p nonzero in
      let from : isize_of image ≤ (frame image).address i p = d.0 in
      let to : (frame image).address i p < (frame image).fsize = d.1 in
      (omega arith, from, omega arith)
