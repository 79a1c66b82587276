-- What a device call that changes something leaves.
use Rattle.std.specs.Prelude.{◌≡◌, ◌++◌, [], ◌∷◌, Bool, if◌then◌else◌, Result, OnOk, OnErr}
use Rattle.rig_mem.specs.declared.change.Change.{Change}
use Rattle.rig_mem.specs.declared.history.History.{History}

-- a change is kept last in the history, or nothing of it where the call fails
pub record IsRecorded {T E : Type 0} (change : Change) (result : Result T E) (old new : History) : Type 0 where
  pub start : new.start ≡ old.start
  pub kept : OnOk result (new.changes.items ≡ old.changes.items ++ change ∷ [])
  pub lost : OnErr result (new.changes.items ≡ old.changes.items)

-- what holds a value takes another or not, and keeps its own where the call fails
pub record IsTaken {T E X : Type 0} (takes : Bool) (result : Result T E) (old other new : X) : Type 0 where
  pub done : OnOk result (new ≡ (if takes then other else old))
  pub failed : OnErr result (new ≡ old)
