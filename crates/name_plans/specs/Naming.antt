-- When RENAME changes a name in its directory, where the new name is free, and the puts of it.
use Rattle.std.specs.Prelude.{◌≡◌, ℕ, List, [], ◌∷◌, ◌++◌, Some, None, not}
use Rattle.std.specs.List.{position}
use Rattle.std.specs.FinMap.{get}
use Rattle.files_model.specs.declared.attributes.FileId.{FileId}
use Rattle.files_model.specs.declared.credential.Cred.{Cred}
use Rattle.files_model.specs.declared.reply.Stat.TheVariants as stat
use Rattle.files_model.specs.Answers.{first_of}
use Rattle.files_model.specs.Files.{Node, Files, live}
use Rattle.files_model.specs.NameRows.{rename_tests}
use Rattle.files_model.specs.Names.{name_tests, has_name, number_at}
use Rattle.files_model.specs.Permission.{is_directory}
use Rattle.stable.specs.Store.{Image}
use Rattle.v7_map.specs.Image.{sector_at, inode_at}
use Rattle.v7_map.specs.Plan.{PutsInode}
use Rattle.v7_strokes.specs.Entries.{entry_sector, inode_put, put_entry}
use Rattle.v7_strokes.specs.Inodes.{timed_inode}
use Rattle.v7_strokes.specs.Slots.{PutsSlot}

-- RENAME gives slot k of d, which names node i, another name; both handles are those of d
pub record IsNaming (files : Files) (from to : FileId) (name new_name : List ℕ) (cred : Cred) (now i k : ℕ) (n d : Node) : Type 0 where
  pub live_from : live files from ≡ Some d
  pub live_to : live files to ≡ Some d
  pub one_directory : from.ino ≡ to.ino
  pub tests : first_of ((files.read_only, stat.Rofs) ∷ (not (is_directory d.kind), stat.Notdir) ∷ (not (is_directory d.kind), stat.Notdir) ∷ name_tests name ++ name_tests new_name) ≡ None
  pub slot : position (has_name name) d.slots ≡ Some k
  pub number : number_at d.slots k ≡ i
  pub node : get files.nodes i ≡ Some n
  pub absent : position (has_name new_name) d.slots ≡ None
  pub allowed : first_of (rename_tests files from d to d None new_name i n cred now) ≡ None

-- The slot's sector, and then the directory's times.
pub record PutsName (image : Image) (now p k i : ℕ) (new_name : List ℕ) (b1 b2 : List ℕ) : Type 0 where
  pub entry : PutsSlot (sector_at image (entry_sector image p k)) k b1 (Some (i, new_name))
  pub times : PutsInode (put_entry image p k b1) p b2 (timed_inode (inode_at (put_entry image p k b1) p) now)

-- the puts of a new name in the old one's slot
abbrev pub naming_puts : Image → ℕ → ℕ → List ℕ → List ℕ → List (ℕ × List ℕ)
naming_puts image p k b1 b2 = (entry_sector image p k, b1) ∷ inode_put p b2 ∷ []
