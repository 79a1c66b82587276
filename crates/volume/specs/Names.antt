-- The calls that make, take away and change names: each is planned first, and then its plan is put.
use Rattle.std.specs.Prelude.{ℕ, Bool, true, false}
use Rattle.files_model.specs.declared.call.Call.{Call}
use Rattle.files_model.specs.declared.call.Call.TheVariants as call
use Rattle.plan_name.specs.Creating.{CanBePut}
use Rattle.plan_name.specs.declared.planned.Planned.{Planned}
use Rattle.volume.specs.Applied.{HasForm}
use Rattle.volume.specs.Costs.{most_puts}

-- the calls on names
abbrev pub changes_names : Call → Bool
changes_names (call.Create dir name wanted) = true
changes_names (call.Remove dir name) = true
changes_names (call.Rmdir dir name) = true
changes_names (call.Link file dir name) = true
changes_names (call.Symlink dir name text wanted) = true
changes_names (call.Rename from name to new_name) = true
changes_names (call.Mkdir dir name wanted) = true
changes_names _ = false

-- what such a call comes to can be put on a store of so many sectors, by as many puts as it costs at most, and answers the call
pub record CanBeDone (sectors : ℕ) (call : Call) (made : Planned) : Type 0 where
  pub fits : CanBePut sectors (most_puts call) made.plan.puts
  pub form : HasForm call made.reply
