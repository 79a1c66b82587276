-- Where an entry of a directory stands, and puts of its sector and of an inode's.
use Rattle.std.specs.Prelude.{ℕ, ◌/◌, List, set}
use Rattle.stable.specs.Store.{Image}
use Rattle.v7_map.specs.Image.{inode_sector}
use Rattle.v7_map.specs.Frame.{Body, frame}

-- the sector in which slot k of directory p stands
abbrev pub entry_sector : Image → ℕ → ℕ → ℕ
entry_sector image p k = (frame image).address p (Body (k / 32))

-- the put of these bytes into the sector of inode i
abbrev pub inode_put : ℕ → List ℕ → ℕ × List ℕ
inode_put i bytes = (inode_sector i, bytes)

-- the image with these bytes in the sector of slot k of directory p
abbrev pub put_entry : Image → ℕ → ℕ → List ℕ → Image
put_entry image p k bytes = set image (entry_sector image p k) bytes
