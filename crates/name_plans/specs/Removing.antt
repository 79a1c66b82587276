-- When REMOVE takes a name away, and its puts.
use Rattle.std.specs.Prelude.{◌≡◌, ℕ, List, [], ◌∷◌, ◌++◌, None, Some}
use Rattle.std.specs.List.{position}
use Rattle.std.specs.FinMap.{get}
use Rattle.files_model.specs.declared.attributes.FileId.{FileId}
use Rattle.files_model.specs.declared.credential.Cred.{Cred}
use Rattle.files_model.specs.Answers.{first_of}
use Rattle.files_model.specs.Files.{Node, Files, live}
use Rattle.files_model.specs.NameRows.{remove_tests, loss_tests}
use Rattle.files_model.specs.Names.{has_name, number_at}
use Rattle.stable.specs.Puts.{put_all}
use Rattle.stable.specs.Store.{Image}
use Rattle.v7_map.specs.Image.{sector_at, inode_at}
use Rattle.v7_map.specs.Plan.{PutsInode}
use Rattle.v7_plans.specs.Setting.{put_inode}
use Rattle.v7_strokes.specs.Entries.{entry_sector, inode_put, put_entry}
use Rattle.v7_strokes.specs.Inodes.{loser_inode}
use Rattle.v7_strokes.specs.Last.{inode_puts, AreTimes}
use Rattle.v7_strokes.specs.Slots.{PutsSlot}

-- REMOVE takes away slot k of d, which names node i
pub record IsRemoval (files : Files) (dir : FileId) (name : List ℕ) (cred : Cred) (d : Node) (k i : ℕ) (n : Node) : Type 0 where
  pub live : live files dir ≡ Some d
  pub tests : first_of (remove_tests files d name) ≡ None
  pub slot : position (has_name name) d.slots ≡ Some k
  pub number : number_at d.slots k ≡ i
  pub node : get files.nodes i ≡ Some n
  pub loss : first_of (loss_tests dir.ino d n cred) ≡ None

-- A name is taken away: the slot's sector, then the inodes of the directory and of the node that lost it, in either order: the directory is the one of `before` and `after`.
pub record TakesName (image : Image) (now p k i : ℕ) (n : Node) (before after : List ℕ) (b1 : List ℕ) (bs cs : List (List ℕ)) (b : List ℕ) : Type 0 where
  pub entry : PutsSlot (sector_at image (entry_sector image p k)) k b1 None
  pub one : before ++ after ≡ p ∷ []
  pub first : AreTimes (put_entry image p k b1) now before bs
  pub node : PutsInode (put_all (inode_puts before bs) (put_entry image p k b1)) i b (loser_inode n (inode_at (put_all (inode_puts before bs) (put_entry image p k b1)) i) now)
  pub last : AreTimes (put_inode (put_all (inode_puts before bs) (put_entry image p k b1)) i b) now after cs

-- the puts of a removal
abbrev pub removing_puts : Image → ℕ → ℕ → ℕ → List ℕ → List ℕ → List ℕ → List (List ℕ) → List (List ℕ) → List ℕ → List (ℕ × List ℕ)
removing_puts image p k i before after b1 bs cs b = (entry_sector image p k, b1) ∷ (inode_puts before bs ++ inode_put i b ∷ inode_puts after cs)
