-- What a batch of writes to one file does to a volume on a store.
use Rattle.std.specs.Prelude.{◌≡◌, ℕ, ◌≤◌, Bool, true, false, List, length}
use Rattle.std.specs.List.{AllByRecursion}
use Rattle.files_model.specs.declared.attributes.FileId.{FileId}
use Rattle.files_model.specs.declared.call.WriteItem.{WriteItem}
use Rattle.files_model.specs.Batch.{calls_of, replies_of}
use Rattle.files_model.specs.Files.{Files}
use Rattle.files_model.specs.Torn.{Torn, after_calls}
use Rattle.plan_file.specs.Planned.{IsWriteReply}
use Rattle.stable.specs.Counts.{Rose}
use Rattle.stable.specs.Moments.{LeavesOnly}
use Rattle.stable.specs.Store.{Image}
use Rattle.stable.specs.declared.store.Stable.{Ghosts}
use Rattle.v7_map.specs.Plans.{IsTornImage}
use Rattle.v7_map.specs.View.{view}
use Rattle.volume.specs.declared.outcome.Commit.{Commit}
use Rattle.volume.specs.declared.outcome.Commit.TheVariants as commit
use Rattle.volume.specs.Applied.{IsUntouched}
use Rattle.volume.specs.Keeps.{SameName}

-- What each outcome leaves of the files: those after the writes in order, each answered by its step; torn ones; those before.
abbrev pub LeavesBatch : Files → FileId → List WriteItem → ℕ → Commit → Files → Type 0
LeavesBatch files file ws now (commit.Replies replies) new = (replies.items ≡ replies_of files (calls_of file ws) now) × (new ≡ after_calls files (calls_of file ws) now)
LeavesBatch files file ws now commit.Io new = Torn files (calls_of file ws) now new
LeavesBatch files file ws now commit.NoMemory new = new ≡ files

-- there are as many replies as writes, each a refusal or attributes, whatever the rig tells
abbrev pub HasReplies : ℕ → Commit → Type 0
HasReplies count (commit.Replies replies) = (length replies.items ≡ count) × AllByRecursion IsWriteReply replies.items
HasReplies count commit.Io = Unit {0}
HasReplies count commit.NoMemory = Unit {0}

-- the count of faults doesn't fall, and Io has a cause
abbrev pub HasFaultOf : Commit → ℕ → ℕ → Type 0
HasFaultOf (commit.Replies replies) before now = before ≤ now
HasFaultOf commit.Io before now = (before ≤ now) × Rose before now
HasFaultOf commit.NoMemory before now = before ≤ now

-- whether a batch that ended so hurts its volume
abbrev pub hurts_so : Commit → Bool
hurts_so (commit.Replies replies) = false
hurts_so commit.Io = true
hurts_so commit.NoMemory = false

-- The volume is hurt exactly from an Io on to the next mend that is done, which each later call begins with.
abbrev pub HurtsSo : Commit → Bool → Bool → Type 0
HurtsSo (commit.Replies replies) was is = is ≡ false
HurtsSo commit.Io was is = is ≡ true
HurtsSo commit.NoMemory was is = was ≡ false → is ≡ false

-- What a crash in the batch may leave: torn files; and where there was no memory, the files before it.
abbrev pub CrashLeavesBatch : Files → FileId → List WriteItem → ℕ → Commit → Image → Type 0
CrashLeavesBatch files file ws now (commit.Replies replies) image = IsTornImage files (calls_of file ws) now image
CrashLeavesBatch files file ws now commit.Io image = IsTornImage files (calls_of file ws) now image
CrashLeavesBatch files file ws now commit.NoMemory image = IsUntouched files image

-- A moment of a batch: what a crash leaves of the files, and the volume's name.
pub record IsMomentOfBatch (old : Image) (file : FileId) (ws : List WriteItem) (now : ℕ) (result : Commit) (image : Image) : Type 0 where
  pub files : CrashLeavesBatch (view old) file ws now result image
  pub name : SameName old image

-- A batch was made on a volume at rest, hurt or not: its files are the view that it found. `s` is what the store's type tells.
pub record Commits {S : Type 0} (s : Ghosts S) (old new : S) (was is : Bool) (file : FileId) (ws : List WriteItem) (now : ℕ) (result : Commit) : Type 0 where
  pub leaves : s.tells → LeavesBatch (view (s.image old)) file ws now result (view (s.image new))
  pub hurts : HurtsSo result was is
  pub replies : HasReplies (length ws) result
  pub cause : HasFaultOf result (s.faults old) (s.faults new)
  pub crash : LeavesOnly s.moment s.left_since old new (IsMomentOfBatch (s.image old) file ws now result)
