-- What a run does.
use Rattle.std.specs.Prelude.{◌≡◌, ℕ, [], ◌∷◌, Option, Some, None}
use Rattle.files_model.specs.declared.address.Address.{Address}
use Rattle.rig.specs.declared.link.Link.{Ghosts}
use Rattle.rig.specs.declared.say.Say.{Ghosts as SayGhosts}
use Rattle.presto_rpc.specs.declared.control.Control.{Control}
use Rattle.run_lines.specs.Told.{Said, Prints}
use Rattle.presto_control.specs.declared.waiting.Ending.{Ending}
use Rattle.presto_control.specs.declared.waiting.Ending.TheVariants as ending
use Rattle.presto_control.specs.Asking.{Asks}
use Rattle.presto_control.specs.Lines.{usage_line, silent_line, broken_line, answer_line, answer_status}

-- the status and the line of an ending
abbrev pub Closes : {S : Type 0} → SayGhosts S → Ending → S → S → ℕ → Type 0
Closes say (ending.Replied answer) old new result = Prints say (answer_status answer) (answer_line answer) old new result
Closes say ending.Silent old new result = Prints say 3 silent_line old new result
Closes say ending.Broken old new result = (result ≡ 66) × Said say old new (broken_line ∷ [])

-- Words that aren't of the grammar: the link isn't touched.
pub record IsUsage {L S : Type 0} (say : SayGhosts S) (link link' : L) (out out' : S) (result : ℕ) : Type 0 where
  pub same : link' ≡ link
  pub status : result ≡ 64
  pub said : Said say out out' (usage_line ∷ [])

-- The server was asked, and the run answered by how that ended.
pub record IsRun {L S : Type 0} (l : Ghosts L) (say : SayGhosts S) (asked : Control) (to : Address) (link link' : L) (out out' : S) (result : ℕ) : Type 0 where
  pub ended : Ending
  pub asks : Asks l asked to link link' ended
  pub closes : Closes say ended out out' result

abbrev pub Outcome : {L S : Type 0} → Ghosts L → SayGhosts S → Option Control → Address → L → L → S → S → ℕ → Type 0
Outcome l say None to link link' out out' result = IsUsage say link link' out out' result
Outcome l say (Some asked) to link link' out out' result = IsRun l say asked to link link' out out' result
