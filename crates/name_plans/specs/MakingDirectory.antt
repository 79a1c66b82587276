-- When MKDIR makes a directory, and its puts.
use Rattle.std.specs.Prelude.{◌≡◌, ℕ, ◌+◌, ◌-◌, ◌<◌, ◌≤◌, List, [], ◌∷◌, length, set, Some, None, ◌||◌, nat_le, nat_lt}
use Rattle.std.specs.List.{position}
use Rattle.std.specs.Option.{unwrap_or}
use Rattle.std.specs.FinMap.{get}
use Rattle.files_model.specs.declared.attributes.FileId.{FileId}
use Rattle.files_model.specs.declared.attributes.Sattr.{Sattr}
use Rattle.files_model.specs.declared.credential.Cred.{Cred}
use Rattle.files_model.specs.declared.reply.Stat.TheVariants as stat
use Rattle.files_model.specs.Answers.{first_of}
use Rattle.files_model.specs.Files.{Node, Files, live, sectors_of}
use Rattle.files_model.specs.NameRows.{place_tests, entry_tests, most_links, new_directory}
use Rattle.files_model.specs.Names.{has_name, lowest_usable, place_for, with_entry}
use Rattle.files_model.specs.Space.{node_usage, free}
use Rattle.stable.specs.Puts.{put_all}
use Rattle.stable.specs.Store.{Image}
use Rattle.v7_layout.specs.Numbers.{part}
use Rattle.v7_layout.specs.declared.inode.Inode.{Inode}
use Rattle.v7_map.specs.Image.{sector_at, inode_at}
use Rattle.v7_map.specs.Frame.{Body, head_of, address_of, slot_in, slot_of, frame}
use Rattle.v7_map.specs.Plan.{PutsInode}
use Rattle.v7_map.specs.View.{view}
use Rattle.v7_plans.specs.Placed.{IsPlaced}
use Rattle.v7_plans.specs.Quiet.{AllMuted}
use Rattle.v7_plans.specs.Setting.{put_inode}
use Rattle.v7_sets.specs.Sets.{IsFreeBlock}
use Rattle.v7_strokes.specs.Entries.{entry_sector, put_entry}
use Rattle.v7_strokes.specs.Inodes.{placed_inode, parent_inode}
use Rattle.v7_strokes.specs.Slots.{PutsSlot}

-- MKDIR makes a new directory at i-number i, by a new entry of d
pub record IsMkdir (files : Files) (dir : FileId) (name : List ℕ) (wanted : Sattr) (cred : Cred) (now : ℕ) (d : Node) (i : ℕ) : Type 0 where
  pub live : live files dir ≡ Some d
  pub tests : first_of (place_tests files d name) ≡ None
  pub absent : position (has_name name) d.slots ≡ None
  pub entry : first_of (entry_tests dir.ino d cred 0) ≡ None
  pub usable : lowest_usable files ≡ Some i
  pub room : first_of ((nat_le most_links d.nlink || nat_lt (free files) (node_usage (new_directory wanted cred i dir.ino now) + (node_usage (with_entry d (Some (i, name)) now) - node_usage d)), stat.Nospc) ∷ []) ≡ None

-- the bytes are the first sector of directory i under p: `.` and `..`
pub record AreDots (bytes : List ℕ) (i p : ℕ) : Type 0 where
  pub long : length bytes ≡ 512
  pub self : slot_of (part bytes 0 16) ≡ Some (i, 46 ∷ [])
  pub up : slot_of (part bytes 16 16) ≡ Some (p, 46 ∷ 46 ∷ [])

-- The first sector of the new directory m, in free block a, and then its inode.
pub record PutsDots (image : Image) (p i : ℕ) (m : Node) (a : ℕ) (b0 b1 : List ℕ) : Type 0 where
  pub free : IsFreeBlock (frame image) a
  pub dots : AreDots b0 i p
  pub inode : PutsInode (set image a b0) i b1 (placed_inode m (unwrap_or (get (view image).generations i) 0 + 1) a)

-- After these two its name takes an empty slot of directory p: the slot's sector, and the parent's inode with one link more.
pub record EntersInPlace (image : Image) (now p : ℕ) (name : List ℕ) (d : Node) (i : ℕ) (b1 b2 b3 : List ℕ) : Type 0 where
  pub inside : place_for d.slots < length d.slots
  pub entry : PutsSlot (sector_at (put_inode image i b1) (entry_sector (put_inode image i b1) p (place_for d.slots))) (place_for d.slots) b2 (Some (i, name))
  pub parent : PutsInode (put_entry (put_inode image i b1) p (place_for d.slots) b2) p b3 (parent_inode (inode_at (put_entry (put_inode image i b1) p (place_for d.slots) b2) p) now)

-- Its name makes directory p longer: puts that don't show yet, and the parent's inode with one link more.
pub record EntersAtEnd (image : Image) (now p : ℕ) (name : List ℕ) (d : Node) (i : ℕ) (g : Inode) (b1 b3 : List ℕ) (inner : List (ℕ × List ℕ)) : Type 0 where
  pub full : length d.slots ≤ place_for d.slots
  pub muted : AllMuted p inner (put_inode image i b1)
  pub longer : g.size ≡ d.size + 16
  pub placed : IsPlaced (put_all inner (put_inode image i b1)) p (head_of g)
  pub kept : (l : ℕ) → l < sectors_of d.size → address_of (put_all inner (put_inode image i b1)) (head_of g) (Body l) ≡ (frame (put_all inner (put_inode image i b1))).address p (Body l)
  pub content : slot_in (put_all inner (put_inode image i b1)) (head_of g) (length d.slots) ≡ Some (i, name)
  pub times : g ≡ record (inode_at (put_all inner (put_inode image i b1)) p) { nlink = (inode_at (put_all inner (put_inode image i b1)) p).nlink + 1; size = g.size; direct = g.direct; single = g.single; mtime = now; ctime = now }
  pub directory : PutsInode (put_all inner (put_inode image i b1)) p b3 g
