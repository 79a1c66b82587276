-- What a run of the tool says, and how that decides on its status.
use Rattle.std.specs.Prelude.{◌≡◌, ℕ, zero, suc, List, [], ◌∷◌}
use Rattle.rig.specs.declared.host.Host.{Ghosts}
use Rattle.rig.specs.declared.say.Say.{Ghosts as SayGhosts}
use Rattle.run_lines.specs.Told.{Said, Prints, SameHost}
use Rattle.volume_tool.specs.Course.{Course, status_of, line_of}

-- The status and the line of a run: a line that can't be said decides on the status of a run that was done, and is passed over where a run was refused.
abbrev pub Answers : {S : Type 0} → SayGhosts S → ℕ → List ℕ → S → S → ℕ → Type 0
Answers say zero line old new result = Prints say 0 line old new result
Answers say (suc n) line old new result = (result ≡ suc n) × Said say old new (line ∷ [])

-- This was said with that status, and nothing else was asked of the host.
pub record Tells {S R L C P : Type 0} (h : Ghosts S R L C P) (say : SayGhosts S) (status : ℕ) (line : List ℕ) (old new : S) (result : ℕ) : Type 0 where
  pub same : SameHost h old new
  pub answers : Answers say status line old new result

-- A run came so far, of which this is found, and answered by its course.
pub record Runs {S R L C P : Type 0} (h : Ghosts S R L C P) (say : SayGhosts S) (Found : Course → Type 0) (old new : S) (result : ℕ) : Type 0 where
  pub course : Course
  pub found : Found course
  pub tells : Tells h say (status_of course) (line_of course) old new result
