-- The lines that are said of a volume, by its number (docs/CALLS.md, "Lines and statuses").
use Rattle.std.specs.Prelude.{ℕ, Bool, if◌then◌else◌, List, [], ◌∷◌, ◌+◌, ◌++◌, map, codes}
use Rattle.std.specs.Fmt.{decimal}
use Rattle.stable.specs.declared.state.State.{State}
use Rattle.stable.specs.declared.state.State.TheVariants.{Up, Down, Error}
use Rattle.run_lines.specs.Lines.{printed}
use Rattle.server_volumes.specs.Starts.{Start}

abbrev pub state_word : State → List ℕ
state_word Up = codes "up"
state_word Down = codes "down"
state_word (Error why) = codes "error"

-- it was opened and started
abbrev pub opened_line : ℕ → List ℕ → State → ℕ → List ℕ
opened_line volume name state recovered = codes "volume " ++ decimal volume ++ codes " " ++ map printed name ++ codes " " ++ state_word state ++ codes " recovered " ++ decimal recovered

-- the loss of its board was accepted
abbrev pub loss_line : ℕ → List ℕ
loss_line volume = codes "volume " ++ decimal volume ++ codes ": lost board accepted"

-- it was stopped
abbrev pub stopped_line : ℕ → State → ℕ → List ℕ
stopped_line volume state dirty = codes "volume " ++ decimal volume ++ codes " " ++ state_word state ++ codes " dirty " ++ decimal dirty

-- ---- starting

-- an accepted loss, and how the volume was started
abbrev pub loss_lines : ℕ → Bool → List (List ℕ)
loss_lines volume lost = if lost then loss_line volume ∷ [] else []

abbrev pub start_lines : ℕ → Start → List (List ℕ)
start_lines volume start = loss_lines volume start.lost ++ opened_line volume start.name start.state start.recovered ∷ []

-- those of the volumes that were started, the first of which has this number
abbrev pub starts_lines : ℕ → List Start → List (List ℕ)
starts_lines n [] = []
starts_lines n (start ∷ starts) = start_lines n start ++ starts_lines (n + 1) starts
