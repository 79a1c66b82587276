-- When LINK makes a name, and its puts.
use Rattle.std.specs.Prelude.{◌≡◌, ℕ, ◌<◌, ◌≤◌, List, [], ◌∷◌, ◌++◌, length, Some, None, not, ◌||◌, nat_le}
use Rattle.std.specs.List.{position}
use Rattle.files_model.specs.declared.attributes.FileId.{FileId}
use Rattle.files_model.specs.declared.credential.Cred.{Cred}
use Rattle.files_model.specs.declared.reply.Stat.TheVariants as stat
use Rattle.files_model.specs.Answers.{first_of}
use Rattle.files_model.specs.Files.{Node, Files, live}
use Rattle.files_model.specs.NameRows.{entry_tests, is_full_for, most_links}
use Rattle.files_model.specs.Names.{name_tests, has_name, place_for, with_entry}
use Rattle.files_model.specs.Permission.{is_directory}
use Rattle.stable.specs.Puts.{put_all}
use Rattle.stable.specs.Store.{Image}
use Rattle.v7_layout.specs.declared.inode.Inode.{Inode}
use Rattle.v7_map.specs.Image.{sector_at, inode_at}
use Rattle.v7_map.specs.Plan.{PutsInode}
use Rattle.v7_plans.specs.Quiet.{AllMuted}
use Rattle.v7_plans.specs.Setting.{put_inode}
use Rattle.v7_strokes.specs.Entries.{entry_sector, put_entry}
use Rattle.v7_strokes.specs.Inodes.{linked_inode, timed_inode}
use Rattle.v7_strokes.specs.Slots.{PutsSlot, GrowsBy}

-- LINK gives node n one name more, by a new entry of d
pub record IsLink (files : Files) (file dir : FileId) (name : List ℕ) (cred : Cred) (now : ℕ) (n d : Node) : Type 0 where
  pub live_file : live files file ≡ Some n
  pub live : live files dir ≡ Some d
  pub tests : first_of ((files.read_only, stat.Rofs) ∷ (is_directory n.kind, stat.Isdir) ∷ (not (is_directory d.kind), stat.Notdir) ∷ name_tests name) ≡ None
  pub absent : position (has_name name) d.slots ≡ None
  pub room : first_of (entry_tests dir.ino d cred 0 ++ (nat_le most_links n.nlink || is_full_for files d (with_entry d (Some (file.ino, name)) now), stat.Nospc) ∷ []) ≡ None

-- The name takes an empty slot: the node's inode, the slot's sector, the directory's times.
pub record LinksInPlace (image : Image) (now p : ℕ) (name : List ℕ) (d : Node) (i : ℕ) (b1 b2 b3 : List ℕ) : Type 0 where
  pub inside : place_for d.slots < length d.slots
  pub node : PutsInode image i b1 (linked_inode (inode_at image i) now)
  pub entry : PutsSlot (sector_at (put_inode image i b1) (entry_sector (put_inode image i b1) p (place_for d.slots))) (place_for d.slots) b2 (Some (i, name))
  pub times : PutsInode (put_entry (put_inode image i b1) p (place_for d.slots) b2) p b3 (timed_inode (inode_at (put_entry (put_inode image i b1) p (place_for d.slots) b2) p) now)

-- The name makes the directory longer: the node's inode, puts that don't show yet, the directory's inode.
pub record LinksAtEnd (image : Image) (now p : ℕ) (name : List ℕ) (d : Node) (i : ℕ) (g : Inode) (b1 b3 : List ℕ) (inner : List (ℕ × List ℕ)) : Type 0 where
  pub full : length d.slots ≤ place_for d.slots
  pub node : PutsInode image i b1 (linked_inode (inode_at image i) now)
  pub muted : AllMuted p inner (put_inode image i b1)
  pub grows : GrowsBy (put_all inner (put_inode image i b1)) p (length d.slots) g (Some (i, name))
  pub times : g ≡ record (inode_at (put_all inner (put_inode image i b1)) p) { size = g.size; direct = g.direct; single = g.single; mtime = now; ctime = now }
  pub directory : PutsInode (put_all inner (put_inode image i b1)) p b3 g
