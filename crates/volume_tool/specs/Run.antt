-- What a run of the tool does.
use Rattle.std.specs.Prelude.{◌≡◌, ℕ, Bool, true, false, [], ◌∷◌, Option, None, Some, IsSome, Ok, Err}
use Rattle.stable.specs.Counts.{Rose}
use Rattle.stable.specs.Store.{Same}
use Rattle.rig.specs.Hosts.{SameLoans}
use Rattle.rig.specs.declared.host.Host.{Ghosts}
use Rattle.rig.specs.declared.rig.Rig.{Ghosts as RigGhosts}
use Rattle.rig.specs.declared.say.Say.{Ghosts as SayGhosts}
use Rattle.v7_make.specs.Sizes.{fitting}
use Rattle.v7_make.specs.declared.fault.MakeFault.{MakeFault}
use Rattle.run_lines.specs.Naming.{Named}
use Rattle.run_lines.specs.Told.{Loan}
use Rattle.volume_tool.specs.Checked.{ChecksAs}
use Rattle.volume_tool.specs.Course.{Course, Usage, Unfit, NoRig, status_of, line_of, has_rig}
use Rattle.volume_tool.specs.Kept.{Keeps, SameFiles}
use Rattle.volume_tool.specs.Made.{MakesAs}
use Rattle.volume_tool.specs.Recovered.{RecoversAs}
use Rattle.volume_tool.specs.Told.{Answers}
use Rattle.volume_tool.specs.Words.{Asked, Make, Check, Recover}

-- ---- what the words have to do with it

-- the volume that was asked for
abbrev pub volume_of : Asked → Named
volume_of (Make volume plan) = volume
volume_of (Check volume) = volume
volume_of (Recover volume accept_loss) = volume

-- the sizes that were asked for are refused so
abbrev pub IsUnfit : Asked → MakeFault → Type 0
IsUnfit (Make volume plan) fault = fitting plan.size plan.inodes ≡ Err fault
IsUnfit (Check volume) fault = ⊥
IsUnfit (Recover volume accept_loss) fault = ⊥

-- the sizes that were asked for, if any were, aren't refused
abbrev pub IsFit : Asked → Type 0
IsFit (Make volume plan) = fitting plan.size plan.inodes ≡ Ok tt
IsFit (Check volume) = Unit {0}
IsFit (Recover volume accept_loss) = Unit {0}

-- the course by the words
abbrev pub Understood : Option Asked → Course → Type 0
Understood asked Usage = asked ≡ None
Understood asked (Unfit fault) = (given : Asked) × (asked ≡ Some given) × IsUnfit given fault
Understood asked (NoRig word fault) = (given : Asked) × (asked ≡ Some given) × IsFit given × ((volume_of given).word ≡ word)
Understood asked _ = IsSome asked

-- ---- what is found on a rig

-- what the course says of it, by what was asked for
abbrev pub FoundAs : {R : Type 0} → RigGhosts R → Asked → R → R → Course → Type 0
FoundAs r (Make volume plan) rig back course = MakesAs r plan rig back course
FoundAs r (Check volume) rig back course = ChecksAs r rig back course
FoundAs r (Recover volume accept_loss) rig back course = RecoversAs r accept_loss rig back course

-- What is kept of it at each moment: where a volume is inspected, each sector that disk and board stand for; where one is recovered, its files.
abbrev pub KeptAs : {R : Type 0} → RigGhosts R → Asked → R → R → Type 0
KeptAs r (Make volume plan) rig back = Unit {0}
KeptAs r (Check volume) rig back = Keeps r Same rig back
KeptAs r (Recover volume accept_loss) rig back = Keeps r SameFiles rig back

-- A rig was given for what was asked, and came back as that of volume 0. The status says that a device failed only where its count of faults rose.
pub record OneRig {S R L C P : Type 0} (h : Ghosts S R L C P) (r : RigGhosts R) (asked : Option Asked) (old new : S) (course : Course) : Type 0 where
  pub rig : R
  pub back : R
  pub loan : Loan h.rigs_left h.rigs_back old new (rig ∷ []) ((0, back) ∷ [])
  pub given : Asked
  pub asked_for : asked ≡ Some given
  pub found : FoundAs r given rig back course
  pub kept : KeptAs r given rig back
  pub device : status_of course ≡ 74 → Rose (r.faults rig) (r.faults back)

-- the rigs that were lent: none, or one
abbrev pub Lends : {S R L C P : Type 0} → Ghosts S R L C P → RigGhosts R → Option Asked → S → S → Course → Bool → Type 0
Lends h r asked old new course false = SameLoans h.rigs_left h.rigs_back h.rigs_out old new
Lends h r asked old new course true = OneRig h r asked old new course

-- What a run did, by what it was asked for.
pub record Outcome {S R L C P : Type 0} (h : Ghosts S R L C P) (say : SayGhosts S) (r : RigGhosts R) (asked : Option Asked) (old new : S) (result : ℕ) : Type 0 where
  pub course : Course
  pub understood : Understood asked course
  -- the rig that the host gave, if it gave one, came back
  pub rigs : Lends h r asked old new course (has_rig course)
  pub posts : SameLoans h.posts_left h.posts_back h.posts_out old new
  -- the status and the line
  pub answers : Answers say (status_of course) (line_of course) old new result
  pub host : result ≡ 66 → Rose (h.host_faults old) (h.host_faults new)
