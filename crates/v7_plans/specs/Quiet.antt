-- Puts that an image takes without a change of what it stands for: of blocks that stand nowhere yet, and of slots past a directory's size.
use Rattle.std.specs.Prelude.{◌≡◌, ◌≢◌, ℕ, ◌<◌, ◌≤◌, List, [], ◌∷◌, length, set}
use Rattle.stable.specs.Store.{Image}
use Rattle.v7_map.specs.Frame.{Place, frame}
use Rattle.v7_map.specs.Tree.{tree}
use Rattle.v7_map.specs.Weak.{IsWeak}
use Rattle.v7_map.specs.Image.{sector_at, inode_at}
use Rattle.v7_map.specs.View.{body_at}

-- a put that changes neither the frame nor what is read of an inode or a body
pub record IsQuiet (image : Image) (put : ℕ × List ℕ) : Type 0 where
  pub past : 2 ≤ put.0
  pub inside : put.0 < length image
  pub whole : length put.1 ≡ 512
  pub same_frame : frame (set image put.0 put.1) ≡ frame image
  pub same_first : sector_at (set image put.0 put.1) 1 ≡ sector_at image 1
  pub same_inodes : (j : ℕ) → inode_at (set image put.0 put.1) j ≡ inode_at image j
  pub same_bodies : (j : ℕ) → body_at (set image put.0 put.1) (frame (set image put.0 put.1)) j ≡ body_at image (frame image) j

-- each of these is, on the image after those before it
abbrev pub AllQuiet : List (ℕ × List ℕ) → Image → Type 0
AllQuiet [] image = Unit {0}
AllQuiet (put ∷ puts) image = IsQuiet image put × AllQuiet puts (set image put.0 put.1)

-- A put that changes nothing but where the sectors of file or directory p past its size stand: a quiet one, or that of its block of addresses.
pub record IsMuted (p : ℕ) (image : Image) (put : ℕ × List ℕ) : Type 0 where
  pub past : 2 ≤ put.0
  pub inside : put.0 < length image
  pub whole : length put.1 ≡ 512
  pub weak : IsWeak (frame (set image put.0 put.1))
  pub same_first : sector_at (set image put.0 put.1) 1 ≡ sector_at image 1
  pub same_tree : tree (frame (set image put.0 put.1)) ≡ tree (frame image)
  pub same_heads : (j : ℕ) → (frame (set image put.0 put.1)).head j ≡ (frame image).head j
  pub same_addresses : (j : ℕ) → j ≢ p → (q : Place) → (frame (set image put.0 put.1)).address j q ≡ (frame image).address j q
  pub same_inodes : (j : ℕ) → inode_at (set image put.0 put.1) j ≡ inode_at image j
  pub same_bodies : (j : ℕ) → body_at (set image put.0 put.1) (frame (set image put.0 put.1)) j ≡ body_at image (frame image) j

-- each of these is, on the image after those before it
abbrev pub AllMuted : ℕ → List (ℕ × List ℕ) → Image → Type 0
AllMuted p [] image = Unit {0}
AllMuted p (put ∷ puts) image = IsMuted p image put × AllMuted p puts (set image put.0 put.1)
