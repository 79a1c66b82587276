-- What is free once new blocks and a new i-number are taken.
use Rattle.std.specs.Prelude.{◌≡◌, ◌≢◌, ℕ, Bool, true, false, List, [], ◌∷◌, set}
use Rattle.files_model.specs.Among.{is_among}
use Rattle.stable.specs.Store.{Image}
use Rattle.v7_layout.specs.declared.inode.Inode.{Inode}
use Rattle.v7_map.specs.Frame.{Frame, Place, head_of, address_of}

-- a set without these
abbrev pub taken : List ℕ → List Bool → List Bool
taken [] free = free
taken (a ∷ rest) free = taken rest (set free a false)

-- these are the new ones among the blocks where those of directory d are to stand
pub record AreNewBlocks (f : Frame) (d : ℕ) (target : Place → ℕ) (blocks : List ℕ) : Type 0 where
  pub each : (p : Place) → f.address d p ≡ 0 → target p ≢ 0 → is_among (target p) blocks ≡ true
  pub only : (b : ℕ) → ((p : Place) → target p ≢ b) → is_among b blocks ≡ false

-- the inode has no blocks
abbrev pub HasNoBlocks : Image → Inode → Type 0
HasNoBlocks image n = (p : Place) → address_of image (head_of n) p ≡ 0
