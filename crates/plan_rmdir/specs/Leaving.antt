-- What an RMDIR comes to before it is planned, and its plan.
use Rattle.std.specs.Prelude.{◌≡◌, ◌<◌, ◌≤◌, ◌/◌, ℕ, Bool, true, not, ◌&&◌, List, [], ◌∷◌}
use Rattle.files_model.specs.declared.attributes.Attr.{Attr}
use Rattle.files_model.specs.declared.attributes.FileId.{FileId}
use Rattle.files_model.specs.declared.call.Call.TheVariants.{Rmdir}
use Rattle.files_model.specs.declared.credential.Cred.{Cred}
use Rattle.files_model.specs.declared.permission.Want.TheVariants as want
use Rattle.files_model.specs.declared.reply.Reply.TheVariants as reply
use Rattle.files_model.specs.declared.reply.Stat.{Stat}
use Rattle.files_model.specs.declared.reply.Stat.TheVariants as stat
use Rattle.files_model.specs.Files.{Node}
use Rattle.files_model.specs.Permission.{allows, is_directory}
use Rattle.files_model.specs.Step.{step}
use Rattle.name_plans.specs.RemovingDirectory.{IsRmdir}
use Rattle.stable.specs.Puts.{put_all}
use Rattle.stable.specs.Store.{Image}
use Rattle.v7_entries.specs.Found.{any_entry}
use Rattle.v7_layout.specs.declared.inode.Inode.{Inode}
use Rattle.v7_map.specs.Frame.{frame}
use Rattle.v7_map.specs.Image.{inode_at, inode_sector}
use Rattle.v7_map.specs.Plans.{IsPlanOf}
use Rattle.v7_map.specs.View.{view, kind_of}
use Rattle.v7_strokes.specs.Entries.{entry_sector}
use Rattle.v7_strokes.specs.Freed.{IsFreed}
use Rattle.plan_rmdir.specs.declared.judging.Judged.{Judged}
use Rattle.plan_rmdir.specs.declared.judging.Judged.TheVariants as judged
use Rattle.plan_rmdir.specs.declared.puts.Leaving.{Leaving}

-- the tests of what is to be taken away, by its inode and the attributes of its parent
abbrev pub leaving_tests : Image → Attr → Inode → Cred → List (Bool × Stat)
leaving_tests image parent inode cred =
    (not (is_directory (kind_of (inode.mode / 4096))), stat.Notdir) ∷ (any_entry image inode, stat.Notempty)
    ∷ (not (allows cred parent want.Write && allows cred parent want.Search), stat.Acces) ∷ []

-- The RMDIR takes away this directory, node n, whose name stands in directory d.
pub record Leaves (image : Image) (dir : FileId) (name : List ℕ) (cred : Cred) (d n : Node) (leaving : Leaving) : Type 0 where
  pub parent : leaving.parent ≡ dir.ino
  pub rmdir : IsRmdir (view image) dir name cred d leaving.index leaving.directory n
  pub sector : leaving.sector ≡ entry_sector image dir.ino leaving.index

-- The puts are the plan of the call, and afterwards the blocks of the directory stand nowhere.
pub record IsPlannedRmdir (image : Image) (dir : FileId) (name : List ℕ) (cred : Cred) (now : ℕ) (leaving : Leaving) (puts : List (ℕ × List ℕ)) : Type 0 where
  pub plan : IsPlanOf image ((Rmdir dir name, cred) ∷ []) now puts
  pub freed : IsFreed true leaving.directory (frame image) (frame (put_all puts image))

-- the sectors of the slot and of the two inodes are among so many, and the slot's is past the super-block
pub record LeavingWithin (sectors : ℕ) (leaving : Leaving) : Type 0 where
  pub past : 2 ≤ leaving.sector
  pub slot : leaving.sector < sectors
  pub parent : inode_sector leaving.parent < sectors
  pub directory : inode_sector leaving.directory < sectors

-- the call is refused so, at whatever time
abbrev pub Refuses : Image → FileId → List ℕ → Cred → Stat → Type 0
Refuses image dir name cred status = (now : ℕ) → step (view image) (Rmdir dir name) cred now ≡ (reply.Refused status, view image)

-- a directory is taken away, whose inode is this one
pub record IsLeaving (image : Image) (dir : FileId) (name : List ℕ) (cred : Cred) (leaving : Leaving) (inode : Inode) : Type 0 where
  pub parent : Node
  pub node : Node
  pub leaves : Leaves image dir name cred parent node leaving
  pub inode_is : inode ≡ inode_at image leaving.directory

-- what an RMDIR comes to before it is planned
abbrev pub JudgesRmdir : Image → FileId → List ℕ → Cred → Judged → Type 0
JudgesRmdir image dir name cred (judged.Refused status) = Refuses image dir name cred status
JudgesRmdir image dir name cred (judged.Leaves leaving inode) = IsLeaving image dir name cred leaving inode

-- a directory that is taken away stands within so many sectors, with its name and its parent
abbrev pub JudgedWithin : ℕ → Judged → Type 0
JudgedWithin sectors (judged.Refused status) = Unit {0}
JudgedWithin sectors (judged.Leaves leaving inode) = LeavingWithin sectors leaving
