-- When RMDIR takes a directory away, and its puts.
use Rattle.std.specs.Prelude.{◌≡◌, ℕ, List, [], ◌∷◌, None, Some, not}
use Rattle.std.specs.List.{position}
use Rattle.std.specs.FinMap.{get}
use Rattle.files_model.specs.declared.attributes.FileId.{FileId}
use Rattle.files_model.specs.declared.credential.Cred.{Cred}
use Rattle.files_model.specs.declared.reply.Stat.TheVariants as stat
use Rattle.files_model.specs.Answers.{first_of}
use Rattle.files_model.specs.Files.{Node, Files, live}
use Rattle.files_model.specs.NameRows.{place_tests, has_entries}
use Rattle.files_model.specs.Names.{has_name, number_at, may_change}
use Rattle.files_model.specs.Permission.{is_directory}
use Rattle.stable.specs.Store.{Image}
use Rattle.v7_map.specs.Image.{sector_at, inode_at}
use Rattle.v7_map.specs.Plan.{PutsInode}
use Rattle.v7_plans.specs.Setting.{put_inode}
use Rattle.v7_strokes.specs.Entries.{entry_sector, inode_put, put_entry}
use Rattle.v7_strokes.specs.Inodes.{ended_inode, left_inode}
use Rattle.v7_strokes.specs.Slots.{PutsSlot}

-- RMDIR takes away slot k of d, which names directory i, in which there is no name
pub record IsRmdir (files : Files) (dir : FileId) (name : List ℕ) (cred : Cred) (d : Node) (k i : ℕ) (n : Node) : Type 0 where
  pub live : live files dir ≡ Some d
  pub tests : first_of (place_tests files d name) ≡ None
  pub slot : position (has_name name) d.slots ≡ Some k
  pub number : number_at d.slots k ≡ i
  pub node : get files.nodes i ≡ Some n
  pub loss : first_of ((not (is_directory n.kind), stat.Notdir) ∷ (has_entries n, stat.Notempty) ∷ (not (may_change cred dir.ino d), stat.Acces) ∷ []) ≡ None

-- The slot's sector, then the parent's inode, with one link less, then that of directory i, which ends.
pub record TakesFromParent (image : Image) (now p k i : ℕ) (b1 b2 b3 : List ℕ) : Type 0 where
  pub entry : PutsSlot (sector_at image (entry_sector image p k)) k b1 None
  pub parent : PutsInode (put_entry image p k b1) p b2 (left_inode (inode_at (put_entry image p k b1) p) now)
  pub own : PutsInode (put_inode (put_entry image p k b1) p b2) i b3 (ended_inode (inode_at (put_inode (put_entry image p k b1) p b2) i).generation)

-- The same, with the inode of directory i before its parent's.
pub record TakesOwnFirst (image : Image) (now p k i : ℕ) (b1 b2 b3 : List ℕ) : Type 0 where
  pub entry : PutsSlot (sector_at image (entry_sector image p k)) k b1 None
  pub own : PutsInode (put_entry image p k b1) i b2 (ended_inode (inode_at (put_entry image p k b1) i).generation)
  pub parent : PutsInode (put_inode (put_entry image p k b1) i b2) p b3 (left_inode (inode_at (put_inode (put_entry image p k b1) i b2) p) now)

-- the slot's sector, and the sectors of these two inodes in this order
abbrev pub taking_puts : Image → ℕ → ℕ → ℕ → ℕ → List ℕ → List ℕ → List ℕ → List (ℕ × List ℕ)
taking_puts image p k one other b1 b2 b3 = (entry_sector image p k, b1) ∷ inode_put one b2 ∷ inode_put other b3 ∷ []
