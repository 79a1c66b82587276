-- The body of a directory, as its inode has it.
use Rattle.std.specs.Prelude.{◌≡◌, ◌≢◌, ◌<◌, ◌≤◌, ℕ, ◌+◌, true, List, length, get_or, nat_lt, if◌then◌else◌}
use Rattle.v7_layout.specs.declared.inode.Inode.{Inode}
use Rattle.files_model.specs.Files.{Slot, sectors_of}
use Rattle.files_model.specs.Space.{size_limit}
use Rattle.stable.specs.Store.{Image}
use Rattle.v7_map.specs.Frame.{Body, head_of, is_directory, address_of, slots_of}

-- the slots of a directory, as its inode has them
abbrev pub slots_at : Image → Inode → List Slot
slots_at image n = slots_of image (head_of n)

-- the sector where sector k of its body stands, 0 for none
abbrev pub block_at : Image → Inode → ℕ → ℕ
block_at image n k = address_of image (head_of n) (Body k)

-- the inode is that of a directory of a size that one can have, whose sectors all stand in the image
pub record HasBody (image : Image) (n : Inode) : Type 0 where
  pub directory : is_directory (head_of n) ≡ true
  pub short : n.size ≤ size_limit
  pub some : (k : ℕ) → k < sectors_of n.size → block_at image n k ≢ 0
  pub within : (k : ℕ) → k < sectors_of n.size → block_at image n k < length image

-- the block of sector k of a body whose blocks stand at these 140 places
abbrev pub body_at : List ℕ → ℕ → ℕ
body_at places k = get_or places (if nat_lt k 10 then k else k + 1) 0
