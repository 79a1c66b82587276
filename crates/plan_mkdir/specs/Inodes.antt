-- The inode of a new directory.
use Rattle.std.specs.Prelude.{◌≡◌, ℕ}
use Rattle.files_model.specs.declared.attributes.Sattr.{Sattr}
use Rattle.files_model.specs.declared.credential.Cred.{Cred}
use Rattle.files_model.specs.NameRows.{new_directory}
use Rattle.v7_layout.specs.declared.inode.Inode.{Inode}
use Rattle.v7_strokes.specs.Inodes.{placed_inode}

-- the inode of a new directory in this block, whatever its number and its parent's are
abbrev pub IsDirectoryInode : Inode → Sattr → Cred → ℕ → ℕ → ℕ → Type 0
IsDirectoryInode inode wanted cred now generation block = (i p : ℕ) → inode ≡ placed_inode (new_directory wanted cred i p now) generation block
