-- What a builder is told of a removal, and what its plan comes to.
use Rattle.std.specs.Prelude.{◌≡◌, ◌<◌, ◌≤◌, ℕ, ◌==◌, Bool, List, [], ◌∷◌}
use Rattle.files_model.specs.declared.attributes.FileId.{FileId}
use Rattle.files_model.specs.declared.call.Call.TheVariants.{Remove}
use Rattle.files_model.specs.declared.credential.Cred.{Cred}
use Rattle.files_model.specs.Files.{Node}
use Rattle.name_plans.specs.Removed.{AreFreed, frees_number, number_given}
use Rattle.name_plans.specs.Removing.{IsRemoval}
use Rattle.stable.specs.Puts.{put_all}
use Rattle.stable.specs.Store.{Image}
use Rattle.v7_map.specs.Frame.{frame}
use Rattle.v7_map.specs.Image.{inode_sector}
use Rattle.v7_map.specs.Plans.{IsPlanOf}
use Rattle.v7_map.specs.View.{view}
use Rattle.v7_sets.specs.Given.{given}
use Rattle.v7_sets.specs.Sets.{AreSetsOf}
use Rattle.v7_strokes.specs.Entries.{entry_sector}
use Rattle.files_model.specs.declared.reply.Reply.TheVariants as reply
use Rattle.files_model.specs.declared.reply.Stat.{Stat}
use Rattle.files_model.specs.Step.{step}
use Rattle.v7_layout.specs.declared.inode.Inode.{Inode}
use Rattle.v7_map.specs.Image.{inode_at}
use Rattle.plan_name.specs.declared.judging_removal.Judged.{Judged}
use Rattle.plan_name.specs.declared.judging_removal.Judged.TheVariants as judged
use Rattle.plan_name.specs.declared.removing_puts.Taking.{Taking}

-- The REMOVE takes away this name of node n, which stands in directory d.
pub record Takes (image : Image) (dir : FileId) (name : List ℕ) (cred : Cred) (d n : Node) (taking : Taking) : Type 0 where
  pub directory : taking.directory ≡ dir.ino
  pub removal : IsRemoval (view image) dir name cred d taking.index taking.node n
  pub sector : taking.sector ≡ entry_sector image dir.ino taking.index
  pub last : taking.last ≡ (n.nlink == 1)

-- The puts are the plan of the call, and afterwards the sets are exact once they are given the blocks of a node that ended, and its number if it can be used again.
pub record IsPlannedRemoval (image : Image) (dir : FileId) (name : List ℕ) (cred : Cred) (now : ℕ) (n : Node) (taking : Taking) (puts : List (ℕ × List ℕ)) : Type 0 where
  pub plan : IsPlanOf image ((Remove dir name, cred) ∷ []) now puts
  pub sets : (freed : List ℕ) → AreFreed (n.nlink == 1) (frame image) taking.node freed → (blocks inodes : List Bool) → AreSetsOf image blocks inodes
      → AreSetsOf (put_all puts image) (given freed blocks) (number_given (frees_number (view image) taking.node n) taking.node inodes)

-- the sectors of the slot and of the two inodes are among so many, and the slot's is past the super-block
pub record TakenWithin (sectors : ℕ) (taking : Taking) : Type 0 where
  pub past : 2 ≤ taking.sector
  pub slot : taking.sector < sectors
  pub directory : inode_sector taking.directory < sectors
  pub node : inode_sector taking.node < sectors

-- the call is refused so, at whatever time
abbrev pub Refuses : Image → FileId → List ℕ → Cred → Stat → Type 0
Refuses image dir name cred status = (now : ℕ) → step (view image) (Remove dir name) cred now ≡ (reply.Refused status, view image)

-- a node is taken away, whose inode is this one
pub record IsTaken (image : Image) (dir : FileId) (name : List ℕ) (cred : Cred) (taking : Taking) (inode : Inode) : Type 0 where
  pub directory : Node
  pub node : Node
  pub takes : Takes image dir name cred directory node taking
  pub inode_is : inode ≡ inode_at image taking.node

-- what a REMOVE comes to before it is planned
abbrev pub JudgesRemoval : Image → FileId → List ℕ → Cred → Judged → Type 0
JudgesRemoval image dir name cred (judged.Refused status) = Refuses image dir name cred status
JudgesRemoval image dir name cred (judged.Takes taking inode) = IsTaken image dir name cred taking inode

-- a name that is taken away stands within so many sectors, with its two inodes
abbrev pub JudgedWithin : ℕ → Judged → Type 0
JudgedWithin sectors (judged.Refused status) = Unit {0}
JudgedWithin sectors (judged.Takes taking inode) = TakenWithin sectors taking
