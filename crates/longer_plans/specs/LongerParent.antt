-- When MKDIR makes the parent longer by new blocks.
use Rattle.std.specs.Prelude.{ℕ, ◌+◌, ◌≤◌, List, length, Some}
use Rattle.files_model.specs.Files.{Node}
use Rattle.files_model.specs.Names.{place_for}
use Rattle.files_model.specs.Space.{size_limit}
use Rattle.stable.specs.Store.{Image}
use Rattle.v7_layout.specs.declared.inode.Inode.{Inode}
use Rattle.v7_map.specs.Frame.{Place}
use Rattle.v7_map.specs.Image.{inode_at}
use Rattle.v7_map.specs.Plan.{PutsInode}
use Rattle.v7_plans.specs.Setting.{put_inode}
use Rattle.name_plans.specs.CreatingPuts.{longer_image}
use Rattle.name_plans.specs.Lengthening.{PutsLonger}

-- a parent's inode with one directory more, longer by one slot, with these blocks
abbrev pub longer_parent : Inode → List ℕ → ℕ → ℕ → Inode
longer_parent n direct single now = record n { nlink = n.nlink + 1; size = n.size + 16; direct = direct; single = single; mtime = now; ctime = now }

-- The name of new directory i, whose inode is put, makes directory p longer, where the blocks of p are to stand at these places: the new slot's sector, the block of addresses if it changes, and the parent's inode with one link more.
pub record EntersLonger (image : Image) (now p : ℕ) (name : List ℕ) (d : Node) (i : ℕ) (target : Place → ℕ) (b1 b2 : List ℕ) (maps : List (ℕ × List ℕ)) (direct : List ℕ) (single : ℕ) (b3 : List ℕ) : Type 0 where
  pub full : length d.slots ≤ place_for d.slots
  pub room : d.size + 16 ≤ size_limit
  pub longer : PutsLonger (put_inode image i b1) p (length d.slots) (Some (i, name)) target b2 maps direct single
  pub parent : PutsInode (longer_image image d i target b1 b2 maps) p b3 (longer_parent (inode_at (longer_image image d i target b1 b2 maps) p) direct single now)
