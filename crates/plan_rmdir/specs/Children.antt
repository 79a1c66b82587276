-- What a name in a directory leads to.
use Rattle.std.specs.Prelude.{◌≡◌, ◌<◌, ◌≤◌, ℕ, true, not, ◌==◌, List, Option, Some, None}
use Rattle.std.specs.List.{position}
use Rattle.files_model.specs.Names.{has_name, number_at}
use Rattle.stable.specs.Store.{Image}
use Rattle.v7_map.specs.Image.{is_inode, inode_at, inode_sector}
use Rattle.v7_map.specs.View.{node_at}
use Rattle.v7_strokes.specs.Entries.{entry_sector}
use Rattle.plan_rmdir.specs.declared.child.Child.{Child}

-- the first slot of this name in directory d, the sector where it stands, and the used inode of its number
pub record IsChild (image : Image) (d : ℕ) (name : List ℕ) (child : Child) : Type 0 where
  pub first : position (has_name name) (node_at image d).slots ≡ Some child.entry.slot
  pub number : number_at (node_at image d).slots child.entry.slot ≡ child.entry.ino
  pub sector : child.entry.sector ≡ entry_sector image d child.entry.slot
  pub stands : is_inode image child.entry.ino ≡ true
  pub inode : child.inode ≡ inode_at image child.entry.ino
  pub used : not ((inode_at image child.entry.ino).mode == 0) ≡ true

-- what the name leads to, or no slot has it
abbrev pub FindsChild : Image → ℕ → List ℕ → Option Child → Type 0
FindsChild image d name None = position (has_name name) (node_at image d).slots ≡ None
FindsChild image d name (Some child) = IsChild image d name child

-- the sectors of the slot and of the inode are among so many, and the slot's is past the super-block
pub record ChildWithin (sectors : ℕ) (child : Child) : Type 0 where
  pub past : 2 ≤ child.entry.sector
  pub slot : child.entry.sector < sectors
  pub inode : inode_sector child.entry.ino < sectors
