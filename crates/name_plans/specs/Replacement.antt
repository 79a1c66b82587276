-- When RENAME replaces a name, and its puts.
use Rattle.std.specs.Prelude.{◌≡◌, ◌≢◌, ◌⊎◌, ℕ, true, List, ◌∷◌, ◌++◌, Some, None, ◌==◌, not}
use Rattle.std.specs.List.{AllByRecursion, list_any, position}
use Rattle.std.specs.FinMap.{get}
use Rattle.files_model.specs.declared.attributes.FileId.{FileId}
use Rattle.files_model.specs.declared.credential.Cred.{Cred}
use Rattle.files_model.specs.declared.reply.Stat.TheVariants as stat
use Rattle.files_model.specs.Answers.{first_of}
use Rattle.files_model.specs.Files.{Node, Files, live}
use Rattle.files_model.specs.NameRows.{rename_tests}
use Rattle.files_model.specs.Names.{name_tests, has_name, number_at}
use Rattle.files_model.specs.Permission.{is_directory}
use Rattle.stable.specs.Puts.{put_all}
use Rattle.stable.specs.Store.{Image}
use Rattle.v7_map.specs.Image.{sector_at, inode_at}
use Rattle.v7_map.specs.Plan.{PutsInode}
use Rattle.v7_plans.specs.Setting.{put_inode}
use Rattle.v7_strokes.specs.Entries.{entry_sector, inode_put, put_entry}
use Rattle.v7_strokes.specs.Inodes.{loser_inode}
use Rattle.v7_strokes.specs.Last.{inode_puts, AreTimes}
use Rattle.v7_strokes.specs.Slots.{PutsSlot}

-- RENAME takes slot k of dp, which names node i, away, and gives slot l of dq to i, in place of node r
pub record IsReplacement (files : Files) (from to : FileId) (name new_name : List ℕ) (cred : Cred) (now i r k l : ℕ) (n w dp dq : Node) : Type 0 where
  pub live_from : live files from ≡ Some dp
  pub live_to : live files to ≡ Some dq
  pub tests : first_of ((files.read_only, stat.Rofs) ∷ (not (is_directory dp.kind), stat.Notdir) ∷ (not (is_directory dq.kind), stat.Notdir) ∷ name_tests name ++ name_tests new_name) ≡ None
  pub slot : position (has_name name) dp.slots ≡ Some k
  pub number : number_at dp.slots k ≡ i
  pub node : get files.nodes i ≡ Some n
  pub standing : position (has_name new_name) dq.slots ≡ Some l
  pub target : number_at dq.slots l ≡ r
  pub replaced : get files.nodes r ≡ Some w
  pub differ : r ≢ i
  pub allowed : first_of (rename_tests files from dp to dq (Some l) new_name i n cred now) ≡ None

-- The new slot names i, and then the old slot is empty.
pub record MovesSlots (image : Image) (from to k l i : ℕ) (new_name : List ℕ) (b1 b2 : List ℕ) : Type 0 where
  pub new : PutsSlot (sector_at image (entry_sector image to l)) l b1 (Some (i, new_name))
  pub old : PutsSlot (sector_at (put_entry image to l b1) (entry_sector (put_entry image to l b1) from k)) k b2 None

-- The inodes after the slots, in any order: times of directories, node r that lost a name, times of directories. Each of the two directories is among them.
pub record Finishes (image : Image) (now from to r : ℕ) (w : Node) (before after : List ℕ) (bs cs : List (List ℕ)) (b : List ℕ) : Type 0 where
  pub first : AreTimes image now before bs
  pub node : PutsInode (put_all (inode_puts before bs) image) r b (loser_inode w (inode_at (put_all (inode_puts before bs) image) r) now)
  pub last : AreTimes (put_inode (put_all (inode_puts before bs) image) r b) now after cs
  pub has_from : list_any (λ d. d == from) (before ++ after) ≡ true
  pub has_to : list_any (λ d. d == to) (before ++ after) ≡ true
  pub only_before : AllByRecursion (λ d. (d ≡ from) ⊎ (d ≡ to)) before
  pub only_after : AllByRecursion (λ d. (d ≡ from) ⊎ (d ≡ to)) after

-- the image after the two slots
abbrev pub moved_slots : Image → ℕ → ℕ → ℕ → ℕ → List ℕ → List ℕ → Image
moved_slots image from to k l b1 b2 = put_entry (put_entry image to l b1) from k b2

-- the puts of a replacement
abbrev pub replacing_puts : Image → ℕ → ℕ → ℕ → ℕ → ℕ → List ℕ → List ℕ → List ℕ → List ℕ → List (List ℕ) → List (List ℕ) → List ℕ → List (ℕ × List ℕ)
replacing_puts image from to k l r b1 b2 before after bs cs b =
    (entry_sector image to l, b1) ∷ (entry_sector (put_entry image to l b1) from k, b2) ∷ (inode_puts before bs ++ inode_put r b ∷ inode_puts after cs)
