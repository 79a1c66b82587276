-- What a call on names comes to.
use Rattle.std.specs.Prelude.{◌≡◌, ◌≤◌, ℕ, Bool, true, List, [], ◌∷◌, length, set, Option, Some, None, Result, IfOk, OnErr, IsErrOf}
use Rattle.files_model.specs.declared.reply.Reply.{Reply}
use Rattle.files_model.specs.Step.{step}
use Rattle.files_model.specs.Torn.{Asked}
use Rattle.index_sets.specs.Free.{is_free}
use Rattle.plan_file.specs.declared.fault.PlanFault.{PlanFault}
use Rattle.plan_file.specs.declared.fault.PlanFault.TheVariants as fault
use Rattle.stable.specs.Counts.{Rose}
use Rattle.stable.specs.Looked.{Looked}
use Rattle.stable.specs.Puts.{put_all}
use Rattle.stable.specs.Store.{Image}
use Rattle.stable.specs.declared.store.Stable.{Ghosts}
use Rattle.v7_map.specs.Plans.{IsPlanOf}
use Rattle.v7_map.specs.View.{view}
use Rattle.v7_sets.specs.Given.{given}
use Rattle.v7_sets.specs.Sets.{AreSetsOf}
use Rattle.v7_sets.specs.declared.sets.Sets.{Sets}
use Rattle.plan_name.specs.Creating.{CanBePut}
use Rattle.plan_name.specs.declared.planned.Planned.{Planned}

-- the free i-numbers, once this one is given if there is one
abbrev pub number_back : Option ℕ → List Bool → List Bool
number_back None inodes = inodes
number_back (Some i) inodes = set inodes i true

-- no block comes to those that are free, and there are as many i-numbers
pub record TakesFrom (old new : Sets) : Type 0 where
  pub blocks : (b : ℕ) → is_free new.blocks b ≡ true → is_free old.blocks b ≡ true
  pub numbers : length new.inodes ≡ length old.inodes

-- What a call on names comes to: its plan, its answer, and the sets of what is free once the plan is put, which are those that its planning left once they are given what it frees.
pub record IsPlannedCall (image : Image) (asked : Asked) (now : ℕ) (left : Sets) (made : Planned) : Type 0 where
  pub plan : IsPlanOf image (asked ∷ []) now made.plan.puts
  pub answered : made.reply ≡ (step (view image) asked.0 asked.1 now).0
  pub sets : AreSetsOf (put_all made.plan.puts image) (given made.freed.blocks.items left.blocks) (number_back made.freed.inode left.inodes)

-- What each planner says of its run: a plan of at most so many puts, with room for no more, a reply of this form, and nothing but looks at the store, which failed where the plan did. `s` is what the store's type tells.
pub record HasShape {S : Type 0} (s : Ghosts S) (old new : S) (most : ℕ) (Answers : Reply → Type 0) (result : Result Planned PlanFault) : Type 0 where
  pub fits : IfOk result (λ made. CanBePut (s.sector_count old) most made.plan.puts)
  pub form : IfOk result (λ made. Answers made.reply)
  pub room : IfOk result (λ made. made.plan.room ≤ most)
  pub cause : IsErrOf result fault.Failed → Rose (s.faults old) (s.faults new)
  pub looked : Looked s old new

-- What is new leaves the sets of what is free, and after a fault they are as they were.
pub record TakesOnly (old new : Sets) (result : Result Planned PlanFault) : Type 0 where
  pub takes : TakesFrom old new
  pub kept : OnErr result (new ≡ old)
