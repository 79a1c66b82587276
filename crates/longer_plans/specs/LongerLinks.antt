-- The puts of a LINK whose name makes its directory longer by new blocks.
use Rattle.std.specs.Prelude.{ℕ, ◌≤◌, List, length, Some}
use Rattle.files_model.specs.Files.{Node}
use Rattle.files_model.specs.Names.{place_for}
use Rattle.name_plans.specs.CreatingPuts.{longer_image}
use Rattle.name_plans.specs.Lengthening.{PutsLonger}
use Rattle.stable.specs.Store.{Image}
use Rattle.v7_map.specs.Frame.{Place}
use Rattle.v7_map.specs.Image.{inode_at}
use Rattle.v7_map.specs.Plan.{PutsInode}
use Rattle.v7_plans.specs.Setting.{put_inode}
use Rattle.v7_strokes.specs.Inodes.{linked_inode, longer_inode}

-- Node i gets a name at the end of directory p, whose blocks are to stand at these places: the node's inode, the new slot's sector, the block of addresses if it changes, the directory's inode.
pub record LinksLonger (image : Image) (now p : ℕ) (name : List ℕ) (d : Node) (i : ℕ) (target : Place → ℕ) (b1 b2 : List ℕ) (maps : List (ℕ × List ℕ)) (direct : List ℕ) (single : ℕ) (b3 : List ℕ) : Type 0 where
  pub full : length d.slots ≤ place_for d.slots
  pub node : PutsInode image i b1 (linked_inode (inode_at image i) now)
  pub longer : PutsLonger (put_inode image i b1) p (length d.slots) (Some (i, name)) target b2 maps direct single
  pub directory : PutsInode (longer_image image d i target b1 b2 maps) p b3 (longer_inode (inode_at (longer_image image d i target b1 b2 maps) p) direct single now)
