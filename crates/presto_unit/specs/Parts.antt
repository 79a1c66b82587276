-- The parts of a unit.
use Rattle.std.specs.Prelude.{List}
use Rattle.stable.specs.declared.state.State.{State}
use Rattle.rig.specs.declared.rig.Rig.{Ghosts}
use Rattle.presto_cache.specs.declared.cache.Cache.{Cache}
use Rattle.presto_states.specs.Track.{Change}
use Rattle.presto_unit.specs.declared.presto.Presto.{Presto}
use Rattle.presto_unit.specs.declared.tally.Tally.{Tally}

module _ {R : Type 0} {r : Ghosts R} where
  -- the rig that it stands on
  abbrev pub rig_of : Presto R r → R
  rig_of unit = unit.rig

  -- what it knows of the board's entries
  abbrev pub cache_of : Presto R r → Cache
  cache_of unit = unit.cache

  abbrev pub state_of : Presto R r → State
  state_of unit = unit.track.state

  -- the last changes of its state
  abbrev pub changes_of : Presto R r → List Change
  changes_of unit = unit.track.changes

  -- what it counted
  abbrev pub tally_of : Presto R r → Tally
  tally_of unit = unit.tally
