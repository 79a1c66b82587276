-- What turns do for the store of a volume, beside the calls on it: its battery is polled, and its dirty sectors are tried (docs/CALLS.md, "A turn").
use Rattle.std.specs.Prelude.{◌≡◌, ◌≤◌, ℕ, Bool, false, if◌then◌else◌, not, nat_eq}
use Rattle.stable.specs.Counts.{one_more}
use Rattle.stable.specs.declared.snapshot.Snapshot.{Snapshot}
use Rattle.stable.specs.declared.state.State.{State}
use Rattle.stable.specs.declared.state.State.TheVariants.{Up, Down, Error}

-- the state is an error
abbrev pub IsError : State → Type 0
IsError Up = ⊥
IsError Down = ⊥
IsError (Error why) = Unit {0}

-- Nothing was polled nor tried, and no command was carried out.
pub record IsUntended (old new : Snapshot) : Type 0 where
  pub battery : new.battery ≡ old.battery
  pub polls : new.polls ≡ old.polls
  pub ups : new.ups ≡ old.ups
  pub tries : new.tries ≡ old.tries

-- the count of polls, with one more or not
abbrev pub polls_after : Bool → ℕ → ℕ
polls_after polled n = if polled then one_more n else n

-- The battery was polled, or nothing was done. An error with something dirty stays one.
pub record IsPolledAt (polled : Bool) (old new : Snapshot) : Type 0 where
  pub polls : new.polls ≡ polls_after polled old.polls
  pub unpolled : polled ≡ false → new ≡ old
  pub error : IsError old.state → 1 ≤ old.dirty → IsError new.state
  pub dirty : new.dirty ≡ old.dirty
  pub ups : new.ups ≡ old.ups
  pub tries : new.tries ≡ old.tries

-- The oldest dirty sector was tried where the store was in error and something was dirty; else nothing was done.
pub record IsTried (old new : Snapshot) : Type 0 where
  pub tried : IsError old.state → 1 ≤ old.dirty → new.tries ≡ one_more old.tries
  pub idle : (IsError old.state → 1 ≤ old.dirty → ⊥) → new ≡ old
  pub battery : new.battery ≡ old.battery
  pub polls : new.polls ≡ old.polls
  pub ups : new.ups ≡ old.ups

-- A store was tended: its battery was polled or not, and where it was in error with something dirty, the oldest dirty sector was tried.
pub record IsTended (polled : Bool) (old new : Snapshot) : Type 0 where
  pub polls : new.polls ≡ polls_after polled old.polls
  pub tries : IsError old.state → 1 ≤ old.dirty → new.tries ≡ one_more old.tries
  pub ups : new.ups ≡ old.ups

-- the second is another than the one before
abbrev pub is_new : ℕ → ℕ → Bool
is_new before second = not (nat_eq second before)
