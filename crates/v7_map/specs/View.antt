-- The files that an image stands for.
use Rattle.std.specs.Prelude.{ℕ, ◌+◌, ◌-◌, ◌/◌, ◌%◌, Bool, List, Option, Some, None, ◌==◌, if◌then◌else◌}
use Rattle.std.specs.FinMap.{empty}
use Rattle.v7_layout.specs.declared.inode.Inode.{Inode}
use Rattle.files_model.specs.declared.attributes.Kind.{Kind}
use Rattle.files_model.specs.declared.attributes.Kind.TheVariants.{Regular, Directory, Link}
use Rattle.files_model.specs.Files.{Node, Files, Sectors, sectors_of, clipped, tabulated}
use Rattle.stable.specs.Store.{Image}
use Rattle.v7_map.specs.Image.{sector_at, inode_at, is_read_only}
use Rattle.v7_map.specs.Frame.{Frame, Head, Place, Body, is_directory, frame}
use Rattle.v7_map.specs.Tree.{Tree, tree, seen_slots, links, is_named}

-- the kind of a type, the four highest bits of a mode
abbrev pub kind_of : ℕ → Kind
kind_of type = if type == 4 then Directory else if type == 10 then Link else Regular

-- sector k of a body whose block is a, none where a is 0
abbrev pub held : Image → ℕ → ℕ → ℕ → Option (List ℕ)
held image size k a = if a == 0 then None else Some (clipped size k (sector_at image a))

-- the body of a file or link
unfoldable pub body_of : Image → Head → (Place → ℕ) → Sectors
body_of image h address = if is_directory h then empty else tabulated (λ k. held image h.size k (address (Body k))) (sectors_of h.size)

-- the body of inode i
abbrev pub body_at : Image → Frame → ℕ → Sectors
body_at image f i = body_of image (f.head i) (f.address i)

-- the node of inode i, whose links are counted and not those that it stores
abbrev pub node_of : Tree → ℕ → Inode → Sectors → Node
node_of t i n sectors = record {
  kind = kind_of (n.mode / 4096);
  mode = n.mode % 4096;
  uid = n.uid;
  gid = n.gid;
  nlink = links t i;
  size = n.size;
  atime = n.atime;
  mtime = n.mtime;
  ctime = n.ctime;
  sectors = sectors;
  slots = seen_slots t i;
}

-- the files of a tree, a number of data blocks, and these inodes and bodies
unfoldable pub files_of : Tree → ℕ → (ℕ → Inode) → (ℕ → Sectors) → Bool → Files
files_of t blocks inode body read_only = record {
  nodes = tabulated (λ i. if is_named t i then Some (node_of t i (inode i) (body i)) else None) (t.inodes + 1);
  generations = tabulated (λ i. if i == 0 then None else Some (inode i).generation) (t.inodes + 1);
  inodes = t.inodes;
  blocks = blocks;
  read_only = read_only;
}

-- The files that an image stands for: the nodes that are walked or named, with the bytes below their sizes.
unfoldable pub view : Image → Files
view image = files_of (tree (frame image)) ((frame image).fsize - (frame image).isize) (inode_at image) (body_at image (frame image)) (is_read_only (sector_at image 1))

-- the node of inode i of an image
abbrev pub node_at : Image → ℕ → Node
node_at image i = node_of (tree (frame image)) i (inode_at image i) (body_at image (frame image) i)
