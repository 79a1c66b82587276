-- Inodes that are made, ended, linked and unlinked.
use Rattle.std.specs.Prelude.{ℕ, ◌<◌, ◌^◌, ◌+◌, ◌-◌, ◌*◌, ◌==◌, List, ◌∷◌, replicate, All, if◌then◌else◌}
use Rattle.v7_layout.specs.declared.inode.Inode.{Inode}
use Rattle.v7_strokes.specs.declared.records.Blocks.{Blocks}
use Rattle.files_model.specs.declared.attributes.Kind.{Kind}
use Rattle.files_model.specs.declared.attributes.Kind.TheVariants.{Regular, Directory, Link}
use Rattle.files_model.specs.Files.{Node}

-- the type in the mode of an inode
abbrev pub type_of : Kind → ℕ
type_of Regular = 8
type_of Directory = 4
type_of Link = 10

-- the inode of a node that holds no sectors
unfoldable pub made_inode : Node → ℕ → Inode
made_inode n generation = record {
  mode = 4096 * type_of n.kind + n.mode;
  nlink = n.nlink;
  uid = n.uid;
  gid = n.gid;
  size = n.size;
  direct = replicate 10 0;
  single = 0;
  double = 0;
  generation = generation;
  atime = n.atime;
  mtime = n.mtime;
  ctime = n.ctime;
}

-- a free inode keeps its generation alone
unfoldable pub ended_inode : ℕ → Inode
ended_inode generation = record {
  mode = 0;
  nlink = 0;
  uid = 0;
  gid = 0;
  size = 0;
  direct = replicate 10 0;
  single = 0;
  double = 0;
  generation = generation;
  atime = 0;
  mtime = 0;
  ctime = 0;
}

-- an inode that lost a link
abbrev pub unlinked_inode : Inode → ℕ → Inode
unlinked_inode n now = record n { nlink = n.nlink - 1; ctime = now }

-- the inode of a node that lost a name: one that has no other ends
abbrev pub loser_inode : Node → Inode → ℕ → Inode
loser_inode n old now = if n.nlink == 1 then ended_inode old.generation else unlinked_inode old now

-- an inode with its mtime and ctime now
abbrev pub timed_inode : Inode → ℕ → Inode
timed_inode n now = record n { mtime = now; ctime = now }

-- an inode with times now, longer by one slot, with these blocks
abbrev pub longer_inode : Inode → List ℕ → ℕ → ℕ → Inode
longer_inode n direct single now = record n { size = n.size + 16; direct = direct; single = single; mtime = now; ctime = now }

-- an inode with one link more
abbrev pub linked_inode : Inode → ℕ → Inode
linked_inode n now = record n { nlink = n.nlink + 1; ctime = now }

-- a parent's inode with one directory more
abbrev pub parent_inode : Inode → ℕ → Inode
parent_inode n now = record n { nlink = n.nlink + 1; mtime = now; ctime = now }

-- a parent's inode with one directory less
abbrev pub left_inode : Inode → ℕ → Inode
left_inode n now = record n { nlink = n.nlink - 1; mtime = now; ctime = now }

-- the inode of a new directory whose one sector stands at block a
unfoldable pub placed_inode : Node → ℕ → ℕ → Inode
placed_inode n generation a = record (made_inode n generation) { direct = a ∷ replicate 9 0 }

-- each of these addresses fits its three bytes
pub record BlocksFit (blocks : Blocks) : Type 0 where
  pub direct : All (λ address. address < 2 ^ 24) blocks.direct
  pub single : blocks.single < 2 ^ 24
