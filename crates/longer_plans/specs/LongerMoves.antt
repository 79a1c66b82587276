-- The puts of a RENAME that moves a name into another directory, which gets longer by new blocks.
use Rattle.std.specs.Prelude.{◌≡◌, ℕ, ◌/◌, ◌≤◌, List, [], ◌∷◌, ◌++◌, length, Some, None}
use Rattle.files_model.specs.Files.{Node}
use Rattle.files_model.specs.Names.{place_for}
use Rattle.name_plans.specs.Lengthening.{PutsLonger}
use Rattle.stable.specs.Puts.{put_all}
use Rattle.stable.specs.Store.{Image}
use Rattle.v7_map.specs.Frame.{Place, Body}
use Rattle.v7_map.specs.Image.{sector_at, inode_at}
use Rattle.v7_map.specs.Plan.{PutsInode}
use Rattle.v7_plans.specs.Setting.{put_inode}
use Rattle.v7_strokes.specs.Entries.{entry_sector, inode_put, put_entry}
use Rattle.v7_strokes.specs.Inodes.{longer_inode, timed_inode}
use Rattle.v7_strokes.specs.Slots.{PutsSlot}

-- the image after the puts of the new slot's sector and a block of addresses
abbrev pub grown_image : Image → Node → (Place → ℕ) → List ℕ → List (ℕ × List ℕ) → Image
grown_image image dq target b maps = put_all ((target (Body (length dq.slots / 32)), b) ∷ maps) image

-- The name of node i comes at the end of directory `to`, whose blocks are to stand at these places: the new slot's sector, the block of addresses if it changes, that directory's inode, the old slot, the times of the directory of the old name.
pub record MovesLonger (image : Image) (now from to : ℕ) (new_name : List ℕ) (dq : Node) (k i : ℕ) (target : Place → ℕ) (b : List ℕ) (maps : List (ℕ × List ℕ)) (direct : List ℕ) (single : ℕ) (b1 b2 b3 : List ℕ) : Type 0 where
  pub full : length dq.slots ≤ place_for dq.slots
  pub longer : PutsLonger image to (length dq.slots) (Some (i, new_name)) target b maps direct single
  pub directory : PutsInode (grown_image image dq target b maps) to b1 (longer_inode (inode_at (grown_image image dq target b maps) to) direct single now)
  pub old : PutsSlot (sector_at (put_inode (grown_image image dq target b maps) to b1) (entry_sector (put_inode (grown_image image dq target b maps) to b1) from k)) k b2 None
  pub last : PutsInode (put_entry (put_inode (grown_image image dq target b maps) to b1) from k b2) from b3 (timed_inode (inode_at (put_entry (put_inode (grown_image image dq target b maps) to b1) from k b2) from) now)

-- the puts of such a move
abbrev pub moving_longer_puts : Image → ℕ → ℕ → ℕ → Node → (Place → ℕ) → List ℕ → List (ℕ × List ℕ) → List ℕ → List ℕ → List ℕ → List (ℕ × List ℕ)
moving_longer_puts image from to k dq target b maps b1 b2 b3 =
    ((target (Body (length dq.slots / 32)), b) ∷ maps) ++ inode_put to b1 ∷ (entry_sector (put_inode (grown_image image dq target b maps) to b1) from k, b2) ∷ inode_put from b3 ∷ []
