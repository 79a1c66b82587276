-- The flags by which workers wait for one another, and what a pauser knows of them.
use Rattle.std.specs.Prelude.{◌≡◌, ◌≢◌, ◌⊎◌, ◌+◌, ◌*◌, ◌<◌, ◌≤◌, ℕ, Bool, true, false, not, if◌then◌else◌, min, nat_eq, List, [], ◌∷◌, ◌++◌, length, slice_index, Contains, Option, Some}
use mathlib.Core.Option.{some}
use lib.ListN.{get_elem?}
use Rattle.atomic_table.specs.Table.{State, Me, Step}
use Rattle.atomic_table.specs.declared.shared.Seat.{Seat}
use Rattle.rig.specs.declared.pauser.Point.{Point}
use Rattle.rig.specs.declared.pauser.Point.TheVariants as point
use Rattle.rig_mem.specs.declared.hold.Hold.{Hold}
use Rattle.rig_mem.specs.declared.flags.Known.{Known}

-- which of a worker's eight flags is a point's: volumes from 4 on share the last one
abbrev pub flag_number : Point → ℕ
flag_number point.Entered = 0
flag_number point.Left = 1
flag_number point.Answered = 2
flag_number (point.Holding volume) = 3 + min volume 4

-- where the flag of a worker's point stands among all flags
abbrev pub place_of : ℕ → Point → ℕ
place_of worker p = worker * 8 + flag_number p

-- no flag was raised or seen, nor looked at
abbrev pub nothing_known : Known
nothing_known = record { reached = []; seen = []; looks = 0 }

-- what a pauser knows
abbrev pub known : Seat (Unit {0}) Known → Known
known seat = seat.me.0

-- and that it raised a flag
abbrev pub with_reached : Known → ℕ → Known
with_reached k place = record k { reached = k.reached ++ place ∷ [] }

-- and that it saw a flag raised
abbrev pub with_seen : Known → ℕ → Known
with_seen k place = record k { seen = k.seen ++ place ∷ [] }

-- and that it looked so many times
abbrev pub with_looks : Known → ℕ → Known
with_looks k n = record k { looks = k.looks + n }

-- after a look at a flag, which was raised or not
abbrev pub after_look : Bool → Known → ℕ → Known
after_look raised k place = if raised then with_seen (with_looks k 1) place else with_looks k 1

-- the flags at these places are raised: their words are not 0
abbrev pub AreRaised : List ℕ → List ℕ → Type 0
AreRaised words [] = Unit {0}
AreRaised words (place ∷ places) = (0 < slice_index words place) × AreRaised words places

-- what a pauser knows is so
abbrev pub IsSo : List ℕ → Known → Type 0
IsSo words k = AreRaised words k.reached × AreRaised words k.seen

-- some pauser raised the flag
abbrev pub WasReached : List Known → ℕ → Type 0
WasReached views place = (id : ℕ) × (k : Known) × (get_elem? views id ≡ some k) × Contains k.reached place

-- There are so many flags. What each pauser knows is so, and stays so. A flag is raised only where a pauser reached its point.
pub record FlagsStay (count : ℕ) (s : State (Unit {0}) Known) : Type 0 where
  pub size : length s.words ≡ count
  pub each : (id : ℕ) (k : Known) → get_elem? s.views id ≡ some k → IsSo s.words k
  pub only : (place : ℕ) → 0 < slice_index s.words place → WasReached s.views place

-- what the steps of a pauser tell it: that it begins, that it raised a flag, and that it looked at one
abbrev pub begins : Step (Unit {0}) → Me (Unit {0}) Known → ℕ → Me (Unit {0}) Known → Type 0
begins step before found after = after.0 ≡ nothing_known

abbrev pub raises : Step (Unit {0}) → Me (Unit {0}) Known → ℕ → Me (Unit {0}) Known → Type 0
raises step before found after = after.0 ≡ with_reached before.0 step.word

abbrev pub looks : Step (Unit {0}) → Me (Unit {0}) Known → ℕ → Me (Unit {0}) Known → Type 0
looks step before found after = after.0 ≡ after_look (not (nat_eq found 0)) before.0 step.word

-- a flag was seen raised at one of 10,000 looks
pub record SawIt (place : ℕ) (old new : Known) : Type 0 where
  pub reached : new.reached ≡ old.reached
  pub seen : new.seen ≡ old.seen ++ place ∷ []
  pub looked : old.looks < new.looks
  pub looks : new.looks ≤ old.looks + 10000

-- a wait for a flag: it was seen raised, or wasn't at any of 10,000 looks
abbrev pub Waits : Bool → ℕ → Known → Known → Type 0
Waits true place old new = SawIt place old new
Waits false place old new = new ≡ with_looks old 10000

-- A worker came to a point, and raised its flag. Where it is held there it waited for the other's flag, and it is exhausted where that came to nothing.
pub record Reaches (worker : ℕ) (hold : Option Hold) (p : Point) (old new : Known) (before now : Bool) : Type 0 where
  pub free : ((h : Hold) → hold ≡ Some h → h.at ≢ p) → (new ≡ with_reached old (place_of worker p)) × (now ≡ before)
  pub held : (h : Hold) → hold ≡ Some h → h.at ≡ p
      → (Waits true (place_of h.worker h.until) (with_reached old (place_of worker p)) new × (now ≡ before)) ⊎ (Waits false (place_of h.worker h.until) (with_reached old (place_of worker p)) new × (now ≡ true))
