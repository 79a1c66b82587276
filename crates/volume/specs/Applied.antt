-- What a call does to a volume on a store.
use Rattle.std.specs.Prelude.{◌≡◌, ℕ, ◌+◌, ◌≤◌, Bool, true, false, length, [], ◌∷◌}
use Rattle.std.specs.List.{sum_by}
use Rattle.files_model.specs.declared.call.Call.{Call}
use Rattle.files_model.specs.declared.credential.Cred.{Cred}
use Rattle.files_model.specs.declared.reply.Reply.{Reply}
use Rattle.files_model.specs.declared.reply.Reply.TheVariants as reply
use Rattle.files_model.specs.declared.call.Call.TheVariants as call
use Rattle.files_model.specs.Files.{Files}
use Rattle.files_model.specs.ReadingRows.{entry_size}
use Rattle.files_model.specs.Step.{step, most_read, is_change}
use Rattle.files_model.specs.Torn.{Torn}
use Rattle.stable.specs.Counts.{Rose}
use Rattle.stable.specs.Moments.{LeavesOnly}
use Rattle.stable.specs.Store.{Image}
use Rattle.stable.specs.declared.store.Stable.{Ghosts}
use Rattle.v7_map.specs.Frame.{frame}
use Rattle.v7_map.specs.View.{view}
use Rattle.v7_map.specs.Weak.{IsWeak, IsStrong}
use Rattle.v7_map.specs.Plans.{IsTornImage}
use Rattle.volume.specs.declared.outcome.Outcome.{Outcome}
use Rattle.volume.specs.declared.outcome.Outcome.TheVariants as outcome
use Rattle.volume.specs.Keeps.{SameName}

-- the reply and the files are those of the step
pub record IsDone (files : Files) (call : Call) (cred : Cred) (now : ℕ) (reply : Reply) (image : Image) : Type 0 where
  pub reply_is : reply ≡ (step files call cred now).0
  pub view_is : view image ≡ (step files call cred now).1
  pub strong : IsStrong (frame image)

-- nothing has changed
pub record IsKept (files : Files) (image : Image) : Type 0 where
  pub view_is : view image ≡ files
  pub strong : IsStrong (frame image)

-- what each outcome leaves
abbrev pub Leaves : Files → Call → Cred → ℕ → Outcome → Image → Type 0
Leaves files call cred now (outcome.Reply reply) image = IsDone files call cred now reply image
Leaves files call cred now outcome.Io image = IsTornImage files ((call, cred) ∷ []) now image
Leaves files call cred now outcome.NoMemory image = IsKept files image

-- the count of faults doesn't fall, and Io has a cause
abbrev pub HasFault : Outcome → ℕ → ℕ → Type 0
HasFault (outcome.Reply reply) before now = before ≤ now
HasFault outcome.Io before now = (before ≤ now) × Rose before now
HasFault outcome.NoMemory before now = before ≤ now

-- What a crash in the call may leave: torn files; and where there was no memory, the files before it.
pub record IsUntouched (files : Files) (image : Image) : Type 0 where
  pub weak : IsWeak (frame image)
  pub view_is : view image ≡ files

abbrev pub CrashLeaves : Files → Call → Cred → ℕ → Outcome → Image → Type 0
CrashLeaves files call cred now (outcome.Reply reply) image = IsTornImage files ((call, cred) ∷ []) now image
CrashLeaves files call cred now outcome.Io image = IsTornImage files ((call, cred) ∷ []) now image
CrashLeaves files call cred now outcome.NoMemory image = IsUntouched files image

-- the form of the replies to a call: a refusal, or what its procedure gives
abbrev pub HasForm : Call → Reply → Type 0
HasForm c (reply.Refused status) = Unit {0}
HasForm (call.Getattr file) (reply.Attr attr) = Unit {0}
HasForm (call.Setattr file set) (reply.Attr attr) = Unit {0}
HasForm (call.Read file offset count) (reply.Data attr bytes) = length bytes ≤ most_read
HasForm (call.Write file offset bytes) (reply.Attr attr) = Unit {0}
HasForm (call.Lookup dir name) (reply.Handle file attr) = Unit {0}
HasForm (call.Create dir name wanted) (reply.Handle file attr) = Unit {0}
HasForm (call.Remove dir name) reply.Done = Unit {0}
HasForm (call.Readlink file) (reply.Text text) = length text ≤ 1024
HasForm (call.Readdir dir cookie count) (reply.Entries list end) = 12 + sum_by entry_size list ≤ 8192
HasForm (call.Statfs file) (reply.Space blocks free) = Unit {0}
HasForm (call.Mkdir dir name wanted) (reply.Handle file attr) = Unit {0}
HasForm (call.Rmdir dir name) reply.Done = Unit {0}
HasForm (call.Link file dir name) reply.Done = Unit {0}
HasForm (call.Symlink dir name text wanted) reply.Done = Unit {0}
HasForm (call.Rename from name to new_name) reply.Done = Unit {0}
HasForm c r = ⊥

-- the calls that take memory
abbrev pub TakesMemory : Call → Type 0
TakesMemory (call.Getattr file) = ⊥
TakesMemory (call.Lookup dir name) = ⊥
TakesMemory (call.Statfs file) = ⊥
TakesMemory c = Unit {0}

-- a reply has the form of its call's, and only what takes memory finds none, whatever the rig tells
abbrev pub HasFormOf : Call → Outcome → Type 0
HasFormOf call (outcome.Reply reply) = HasForm call reply
HasFormOf call outcome.Io = Unit {0}
HasFormOf call outcome.NoMemory = TakesMemory call

-- A call was made on a volume with nothing to mend. `s` is what the store's type tells.
pub record IsApplied {S : Type 0} (s : Ghosts S) (old new : S) (call : Call) (cred : Cred) (now : ℕ) (result : Outcome) : Type 0 where
  pub leaves : s.tells → IsStrong (frame (s.image old)) → Leaves (view (s.image old)) call cred now result (s.image new)
  pub form : HasFormOf call result
  pub cause : HasFault result (s.faults old) (s.faults new)
  pub crash : LeavesOnly s.moment s.left_since old new (λ i. IsStrong (frame (s.image old)) → CrashLeaves (view (s.image old)) call cred now result i)

-- ---- hurt or not

-- whether a call that ended so hurts its volume
abbrev pub hurts : Call → Outcome → Bool
hurts call (outcome.Reply reply) = false
hurts call outcome.Io = is_change call
hurts call outcome.NoMemory = false

-- What each outcome leaves of the files: those of the step; torn ones; those before.
abbrev pub LeavesFiles : Files → Call → Cred → ℕ → Outcome → Files → Type 0
LeavesFiles files call cred now (outcome.Reply r) new = (r ≡ (step files call cred now).0) × (new ≡ (step files call cred now).1)
LeavesFiles files call cred now outcome.Io new = Torn files ((call, cred) ∷ []) now new
LeavesFiles files call cred now outcome.NoMemory new = new ≡ files

-- The volume is hurt exactly from an Io of a change on to the next mend that is done, which each later call begins with.
abbrev pub Hurts : Call → Outcome → Bool → Bool → Type 0
Hurts call (outcome.Reply r) was is = is ≡ false
Hurts call outcome.Io was is = (is_change call ≡ true → is ≡ true) × (is_change call ≡ false → was ≡ false → is ≡ false)
Hurts call outcome.NoMemory was is = was ≡ false → is ≡ false

-- a reply has the form of its call's; without a mend only what takes memory finds none
abbrev pub HasFormAt : Bool → Call → Outcome → Type 0
HasFormAt hurt call (outcome.Reply r) = HasForm call r
HasFormAt hurt call outcome.Io = Unit {0}
HasFormAt hurt call outcome.NoMemory = hurt ≡ false → TakesMemory call

-- A moment of a call: what a crash leaves of the files, and the volume's name.
pub record IsMomentOf (old : Image) (call : Call) (cred : Cred) (now : ℕ) (result : Outcome) (image : Image) : Type 0 where
  pub files : CrashLeaves (view old) call cred now result image
  pub name : SameName old image

-- A call was made on a volume at rest, hurt or not: its files are the view that it found. `s` is what the store's type tells.
pub record Applies {S : Type 0} (s : Ghosts S) (old new : S) (was is : Bool) (call : Call) (cred : Cred) (now : ℕ) (result : Outcome) : Type 0 where
  pub leaves : s.tells → LeavesFiles (view (s.image old)) call cred now result (view (s.image new))
  pub hurts : Hurts call result was is
  pub form : HasFormAt was call result
  pub cause : HasFault result (s.faults old) (s.faults new)
  pub crash : LeavesOnly s.moment s.left_since old new (IsMomentOf (s.image old) call cred now result)
