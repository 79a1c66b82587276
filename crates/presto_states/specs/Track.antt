-- A state with its last changes.
use Rattle.std.specs.Prelude.{◌≡◌, ◌≢◌, ◌⊎◌, List, [], ◌∷◌, ◌++◌}
use Rattle.circular_buffer.specs.Buffer.{keep_last}
use Rattle.stable.specs.declared.state.State.{State}

-- a change from one state to another
abbrev pub Change : Type 0
Change = State × State

-- the last 64 of them
abbrev pub last_64 : List Change → List Change
last_64 changes = keep_last 64 changes

-- a state that stays adds nothing, and a change is added as the last
abbrev pub IsNoted : State → State → List Change → List Change → Type 0
IsNoted from to old new = ((to ≡ from) × (new ≡ old)) ⊎ ((to ≢ from) × (new ≡ last_64 (old ++ (from, to) ∷ [])))
