-- When SYMLINK makes a link, and its puts.
use Rattle.std.specs.Prelude.{◌≡◌, ℕ, ◌+◌, ◌-◌, ◌<◌, ◌≤◌, List, [], ◌∷◌, ◌++◌, length, get_or, replicate, Some, None, nat_lt}
use Rattle.std.specs.List.{AllByRecursion, position}
use Rattle.std.specs.Option.{unwrap_or}
use Rattle.std.specs.FinMap.{get}
use Rattle.files_model.specs.declared.attributes.FileId.{FileId}
use Rattle.files_model.specs.declared.attributes.Sattr.{Sattr}
use Rattle.files_model.specs.declared.credential.Cred.{Cred}
use Rattle.files_model.specs.declared.reply.Stat.TheVariants as stat
use Rattle.files_model.specs.Answers.{first_of, spliced, zeros}
use Rattle.files_model.specs.Files.{Node, Files, live, sectors_of}
use Rattle.files_model.specs.NameRows.{place_tests, entry_tests, new_link}
use Rattle.files_model.specs.Names.{has_name, lowest_usable, place_for, with_entry}
use Rattle.files_model.specs.Space.{size_limit, node_usage, free}
use Rattle.stable.specs.Puts.{put_all}
use Rattle.stable.specs.Store.{Image}
use Rattle.v7_layout.specs.declared.inode.Inode.{Inode}
use Rattle.v7_map.specs.Image.{sector_at, inode_at}
use Rattle.v7_map.specs.Frame.{Place, frame}
use Rattle.v7_map.specs.Plan.{PutsInode}
use Rattle.v7_map.specs.View.{view}
use Rattle.v7_plans.specs.Setting.{put_inode}
use Rattle.v7_sets.specs.Sets.{IsFreeBlock}
use Rattle.v7_strokes.specs.Entries.{entry_sector, put_entry}
use Rattle.v7_strokes.specs.Inodes.{made_inode, longer_inode, timed_inode}
use Rattle.v7_strokes.specs.Slots.{PutsSlot}
use Rattle.name_plans.specs.CreatingPuts.{longer_image}
use Rattle.name_plans.specs.Lengthening.{PutsLonger}

-- SYMLINK makes a new link at i-number i, by a new entry of d
pub record IsSymlink (files : Files) (dir : FileId) (name text : List ℕ) (wanted : Sattr) (cred : Cred) (now : ℕ) (d : Node) (i : ℕ) : Type 0 where
  pub live : live files dir ≡ Some d
  pub tests : first_of (place_tests files d name) ≡ None
  pub absent : position (has_name name) d.slots ≡ None
  pub entry : first_of (entry_tests dir.ino d cred 0) ≡ None
  pub usable : lowest_usable files ≡ Some i
  pub room : first_of ((nat_lt (free files) (node_usage (new_link wanted cred text now) + (node_usage (with_entry d (Some (i, name)) now) - node_usage d)), stat.Nospc) ∷ []) ≡ None

-- the whole sector k of a text: its bytes, and zeros after them
abbrev pub text_sector : List ℕ → ℕ → List ℕ
text_sector text k = spliced 0 text k zeros

-- the puts of the sectors of a text from sector k on, in these blocks
abbrev pub text_puts : List ℕ → ℕ → List ℕ → List (ℕ × List ℕ)
text_puts text k [] = []
text_puts text k (a ∷ rest) = (a, text_sector text k) ∷ text_puts text (k + 1) rest

-- the inode of a node whose first sectors stand in these blocks, and which holds no others
unfoldable pub held_inode : Node → ℕ → List ℕ → Inode
held_inode m generation blocks = record (made_inode m generation) { direct = blocks ++ replicate (10 - length blocks) 0 }

-- free blocks for the sectors of a text that a link may have, each another
pub record AreTextBlocks (image : Image) (text blocks : List ℕ) : Type 0 where
  pub short : length text ≤ 1024
  pub each : length blocks ≡ sectors_of (length text)
  pub free : AllByRecursion (λ a. IsFreeBlock (frame image) a) blocks
  pub apart : (j k : ℕ) → j < length blocks → k < length blocks → get_or blocks j 0 ≡ get_or blocks k 0 → j ≡ k

-- The sectors of the new link m, in these free blocks, and then its inode.
pub record PutsText (image : Image) (i : ℕ) (m : Node) (text blocks b1 : List ℕ) : Type 0 where
  pub blocks_are : AreTextBlocks image text blocks
  pub inode : PutsInode (put_all (text_puts text 0 blocks) image) i b1 (held_inode m (unwrap_or (get (view image).generations i) 0 + 1) blocks)

-- After these its name takes an empty slot of directory p: the slot's sector, and the directory's inode with its times.
pub record TakesSlot (image : Image) (now p : ℕ) (name : List ℕ) (d : Node) (i : ℕ) (b1 b2 b3 : List ℕ) : Type 0 where
  pub inside : place_for d.slots < length d.slots
  pub entry : PutsSlot (sector_at (put_inode image i b1) (entry_sector (put_inode image i b1) p (place_for d.slots))) (place_for d.slots) b2 (Some (i, name))
  pub times : PutsInode (put_entry (put_inode image i b1) p (place_for d.slots) b2) p b3 (timed_inode (inode_at (put_entry (put_inode image i b1) p (place_for d.slots) b2) p) now)

-- Its name makes directory p longer, whose blocks are to stand at these places: the slot's sector, the block of addresses if it changes, and the directory's inode.
pub record AddsSlot (image : Image) (now p : ℕ) (name : List ℕ) (d : Node) (i : ℕ) (target : Place → ℕ) (b1 b2 : List ℕ) (maps : List (ℕ × List ℕ)) (direct : List ℕ) (single : ℕ) (b3 : List ℕ) : Type 0 where
  pub full : length d.slots ≤ place_for d.slots
  pub room : d.size + 16 ≤ size_limit
  pub longer : PutsLonger (put_inode image i b1) p (length d.slots) (Some (i, name)) target b2 maps direct single
  pub directory : PutsInode (longer_image image d i target b1 b2 maps) p b3 (longer_inode (inode_at (longer_image image d i target b1 b2 maps) p) direct single now)
