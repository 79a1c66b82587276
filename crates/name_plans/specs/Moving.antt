-- When RENAME moves a name into another directory, where its new name is free, and the puts of it.
use Rattle.std.specs.Prelude.{◌≡◌, ◌≢◌, ℕ, ◌<◌, ◌≤◌, List, [], ◌∷◌, ◌++◌, length, Some, None, not}
use Rattle.std.specs.List.{position}
use Rattle.std.specs.FinMap.{get}
use Rattle.files_model.specs.declared.attributes.FileId.{FileId}
use Rattle.files_model.specs.declared.credential.Cred.{Cred}
use Rattle.files_model.specs.declared.reply.Stat.TheVariants as stat
use Rattle.files_model.specs.Answers.{first_of}
use Rattle.files_model.specs.Files.{Node, Files, live}
use Rattle.files_model.specs.NameRows.{rename_tests}
use Rattle.files_model.specs.Names.{name_tests, has_name, number_at, place_for}
use Rattle.files_model.specs.Permission.{is_directory}
use Rattle.stable.specs.Puts.{put_all}
use Rattle.stable.specs.Store.{Image}
use Rattle.v7_layout.specs.declared.inode.Inode.{Inode}
use Rattle.v7_map.specs.Image.{sector_at, inode_at}
use Rattle.v7_map.specs.Plan.{PutsInode}
use Rattle.v7_plans.specs.Quiet.{AllMuted}
use Rattle.v7_plans.specs.Setting.{put_inode}
use Rattle.v7_strokes.specs.Entries.{entry_sector, inode_put, put_entry}
use Rattle.v7_strokes.specs.Inodes.{timed_inode}
use Rattle.v7_strokes.specs.Slots.{PutsSlot, GrowsBy}
use Rattle.name_plans.specs.Replacement.{MovesSlots, moved_slots}

-- RENAME takes slot k of dp, which names node i, away, and makes a new entry of dq, another directory, for it
pub record IsMoving (files : Files) (from to : FileId) (name new_name : List ℕ) (cred : Cred) (now i k : ℕ) (n dp dq : Node) : Type 0 where
  pub live_from : live files from ≡ Some dp
  pub live_to : live files to ≡ Some dq
  pub tests : first_of ((files.read_only, stat.Rofs) ∷ (not (is_directory dp.kind), stat.Notdir) ∷ (not (is_directory dq.kind), stat.Notdir) ∷ name_tests name ++ name_tests new_name) ≡ None
  pub slot : position (has_name name) dp.slots ≡ Some k
  pub number : number_at dp.slots k ≡ i
  pub node : get files.nodes i ≡ Some n
  pub absent : position (has_name new_name) dq.slots ≡ None
  pub apart : to.ino ≢ from.ino
  pub allowed : first_of (rename_tests files from dp to dq None new_name i n cred now) ≡ None

-- first the times of directory p, and then those of q
pub record PutsTimes (image : Image) (now p q : ℕ) (b3 b4 : List ℕ) : Type 0 where
  pub first : PutsInode image p b3 (timed_inode (inode_at image p) now)
  pub second : PutsInode (put_inode image p b3) q b4 (timed_inode (inode_at (put_inode image p b3) q) now)

-- The new entry takes an empty slot: the new slot, the old slot, and then the times of these two directories.
pub record MovesInPlace (image : Image) (now from to k i : ℕ) (new_name : List ℕ) (dq : Node) (b1 b2 : List ℕ) (p q : ℕ) (b3 b4 : List ℕ) : Type 0 where
  pub inside : place_for dq.slots < length dq.slots
  pub slots : MovesSlots image from to k (place_for dq.slots) i new_name b1 b2
  pub times : PutsTimes (moved_slots image from to k (place_for dq.slots) b1 b2) now p q b3 b4

-- the puts of a move
abbrev pub moving_puts : Image → ℕ → ℕ → ℕ → Node → List ℕ → List ℕ → ℕ → ℕ → List ℕ → List ℕ → List (ℕ × List ℕ)
moving_puts image from to k dq b1 b2 p q b3 b4 =
    (entry_sector image to (place_for dq.slots), b1) ∷ (entry_sector (put_entry image to (place_for dq.slots) b1) from k, b2) ∷ inode_put p b3 ∷ inode_put q b4 ∷ []

-- The new entry makes the other directory longer: puts that don't show yet, that directory's inode, the old slot, the times of the directory of the old name.
pub record MovesAtEnd (image : Image) (now from to : ℕ) (new_name : List ℕ) (dq : Node) (k i : ℕ) (g : Inode) (b1 b2 b3 : List ℕ) (inner : List (ℕ × List ℕ)) : Type 0 where
  pub full : length dq.slots ≤ place_for dq.slots
  pub muted : AllMuted to inner image
  pub grows : GrowsBy (put_all inner image) to (length dq.slots) g (Some (i, new_name))
  pub times : g ≡ record (inode_at (put_all inner image) to) { size = g.size; direct = g.direct; single = g.single; mtime = now; ctime = now }
  pub directory : PutsInode (put_all inner image) to b1 g
  pub old : PutsSlot (sector_at (put_inode (put_all inner image) to b1) (entry_sector (put_inode (put_all inner image) to b1) from k)) k b2 None
  pub last : PutsInode (put_entry (put_inode (put_all inner image) to b1) from k b2) from b3 (timed_inode (inode_at (put_entry (put_inode (put_all inner image) to b1) from k b2) from) now)
