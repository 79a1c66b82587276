-- The account of a volume: what its holds did, and what crashes since may leave (docs/DEVICES.md, docs/CALLS.md).
use Rattle.std.specs.Prelude.{◌≡◌, ◌⊎◌, ℕ, ◌≤◌, List, [], ◌∷◌}
use Rattle.std.specs.List.{flat_map}
use Rattle.files_model.specs.Files.{Files}
use Rattle.files_model.specs.Torn.{Torn}
use Rattle.files_model.specs.History.{Event, after, IsLegal, failures, calls_of, time_of}
use Rattle.stable.specs.Counts.{RoseBy}
use Rattle.stable.specs.Moments.{LeavesOnly}
use Rattle.stable.specs.Store.{Image, StaysOpenable}
use Rattle.stable.specs.declared.store.Stable.{Ghosts}
use Rattle.v7_map.specs.Frame.{frame}
use Rattle.v7_map.specs.View.{view}
use Rattle.v7_map.specs.Weak.{IsWeak}
use Rattle.volume.specs.Keeps.{SameName}

-- One hold of a volume: the events that it appended, those of a call or of a batch, and its mark, the rig's moment at its end.
pub record Hold : Type 0 where
  pub events : List Event
  pub mark : ℕ

-- the history: the events of the holds, one hold after the other
abbrev pub history : List Hold → List Event
history holds = flat_map (λ (hold : Hold). hold.events) holds

-- the time of the calls of a hold, which is one
abbrev pub time_at : List Event → ℕ
time_at [] = 0
time_at (event ∷ events) = time_of event

-- The files found are those after the first of these holds, none skipped; the calls of the next one may be torn.
abbrev pub StandsFor : Files → List Hold → Files → Type 0
StandsFor files [] found = found ≡ files
StandsFor files (hold ∷ holds) found =
    Torn files (flat_map calls_of hold.events) (time_at hold.events) found ⊎ StandsFor (after files hold.events) holds found

-- what recovery finds in an image after a crash
pub record IsRecovered (files : Files) (holds : List Hold) (image : Image) : Type 0 where
  pub weak : IsWeak (frame image)
  pub stands : StandsFor files holds (view image)

-- A crash since the mark of a hold leaves the files after that hold at least: each later hold is there, absent, or torn as the next one.
abbrev pub Lasts : (ℕ → Image → Type 0) → Files → List Hold → Type 0
Lasts since files [] = Unit {0}
Lasts since files (hold ∷ holds) =
    ((d : Image) → since hold.mark d → IsRecovered (after files hold.events) holds d) × Lasts since (after files hold.events) holds

-- the marks lie in order between two moments
abbrev pub MarksWithin : ℕ → ℕ → List Hold → Type 0
MarksWithin from now [] = from ≤ now
MarksWithin from now (hold ∷ holds) = (from ≤ hold.mark) × MarksWithin hold.mark now holds

-- the image can be mended, and stands for the files after the events, which are a legal history
pub record HasGrown (files : Files) (image : Image) (events : List Event) : Type 0 where
  pub legal : IsLegal files events
  pub view_is : view image ≡ after files events
  pub weak : IsWeak (frame image)

-- A store that a volume stands on has gone on by these holds, from the view that was found, where it could be mended.
pub record Grew {S : Type 0} (s : Ghosts S) (old new : S) (holds : List Hold) : Type 0 where
  -- the history is legal, and the store has the view after it
  pub grown : s.tells → IsWeak (frame (s.image old)) → HasGrown (view (s.image old)) (s.image new) (history holds)
  -- no more events failed than the count of faults rose by
  pub io : RoseBy (failures (history holds)) (s.faults old) (s.faults new)
  pub marked : MarksWithin (s.moment old) (s.moment new) holds
  -- a crash at any moment since the start leaves the files after the first of these holds, the next one torn or not
  pub crash : LeavesOnly s.moment s.left_since old new (λ d. IsWeak (frame (s.image old)) → IsRecovered (view (s.image old)) holds d)
  -- and one since a hold's mark has that hold
  pub lasts : s.tells → IsWeak (frame (s.image old)) → Lasts (s.left_since new) (view (s.image old)) holds
  -- the volume's name stays
  pub named : s.tells → SameName (s.image old) (s.image new)
  -- what could be opened again still can
  pub opens : s.tells → StaysOpenable s.opens_since s.moment old new
