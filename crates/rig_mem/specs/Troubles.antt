-- Which device calls of a rig in memory fail (docs/DEVICES.md).
use Rattle.std.specs.Prelude.{◌≡◌, ◌⊎◌, ◌+◌, ◌^◌, ℕ, Bool, true, false, ◌||◌, if◌then◌else◌, nat_eq, nat_le, nat_lt, List, [], ◌∷◌, ◌++◌, Option, Some, None, option_map, Result, Ok, Err}
use Rattle.std.specs.List.{list_any, find}
use Rattle.std.specs.Option.{option_or}
use Rattle.stable.specs.Counts.{one_more}
use Rattle.rig.specs.Devices.{Devices}
use Rattle.stable.specs.declared.failure.Failed.{Failed}
use Rattle.rig_mem.specs.declared.fault.Fault.{Fault}
use Rattle.rig_mem.specs.declared.fault.Fault.TheVariants.{Leaves, Nothing}
use Rattle.rig_mem.specs.declared.trouble.Planned.{Planned}
use Rattle.rig_mem.specs.declared.trouble.Trouble.{Trouble}

-- how many device calls were made, and what was asked of those to come
pub record Plan : Type 0 where
  pub made : ℕ
  pub failing : List Planned
  pub broken : List ℕ
  pub stop : Option Planned

-- the plan that the trouble keeps
abbrev pub plan_of : Trouble → Plan
plan_of t = record { made = t.made; failing = t.failing.items; broken = t.broken.items; stop = t.stop }

-- nothing was asked
abbrev pub no_plan : Plan
no_plan = record { made = 0; failing = []; broken = []; stop = None }

-- after one more device call
abbrev pub called : Plan → Plan
called plan = record plan { made = one_more plan.made }

-- that call is to fail, unless it was made already
abbrev pub with_failure : Plan → ℕ → Bool → Plan
with_failure plan number newer = if nat_le number plan.made then plan else record plan { failing = plan.failing ++ (record { number = number; newer = newer }) ∷ [] }

-- each write of that sector is to fail
abbrev pub with_broken : Plan → ℕ → Plan
with_broken plan sector = record plan { broken = plan.broken ++ sector ∷ [] }

-- no sector is broken any more
abbrev pub healed : Plan → Plan
healed plan = record plan { broken = [] }

-- one of so many calls was cut
abbrev pub is_over : Option Planned → ℕ → Bool
is_over None made = false
is_over (Some stop) made = nat_le stop.number made

-- that call is to be cut, unless it was made already or another was cut
abbrev pub with_stop : Plan → ℕ → Bool → Plan
with_stop plan number newer = if nat_le number plan.made || is_over plan.stop plan.made then plan else record plan { stop = Some (record { number = number; newer = newer }) }

-- the call after so many more is to be cut, where its number has 64 bits
abbrev pub with_stop_after : Plan → ℕ → Bool → Plan
with_stop_after plan calls newer = if nat_lt (plan.made + calls + 1) (2 ^ 64) then with_stop plan (plan.made + calls + 1) newer else plan

-- the call of that number is cut
abbrev pub cut_at : Option Planned → ℕ → Option Fault
cut_at None number = None
cut_at (Some stop) number = if nat_eq stop.number number then Some (Leaves stop.newer) else None

-- a write of a broken sector leaves it old
abbrev pub broken_at : List ℕ → Option ℕ → Option Fault
broken_at broken None = None
broken_at broken (Some sector) = if list_any (λ b. nat_eq b sector) broken then Some (Leaves false) else None

-- the call of that number is to fail, by the first that was asked of it
abbrev pub failing_at : List Planned → ℕ → Option Fault
failing_at failing number = option_map (λ p. Leaves p.newer) (find (λ p. nat_eq p.number number) failing)

-- what is wrong with the next call, perhaps a write of a sector: after a cut it does nothing; a broken sector stays old, whatever else was asked
abbrev pub fault_of : Plan → Option ℕ → Option Fault
fault_of plan sector = if is_over plan.stop plan.made then Some Nothing else option_or (option_or (broken_at plan.broken sector) (cut_at plan.stop (one_more plan.made))) (failing_at plan.failing (one_more plan.made))

-- nothing, or that
abbrev pub fate_from : Option Fault → Result (Unit {0}) Fault
fate_from None = Ok tt
fate_from (Some fault) = Err fault

-- what becomes of the next call
abbrev pub fate_of : Plan → Option ℕ → Result (Unit {0}) Fault
fate_of plan sector = fate_from (fault_of plan sector)

-- whether a change is made, where the call is made at all
abbrev pub taken : Result (Unit {0}) Fault → Option Bool
taken (Ok _) = Some true
taken (Err (Leaves newer)) = Some newer
taken (Err Nothing) = None

-- A call that changes the devices does what its fate says. Where there is no memory to record it, it fails without effect.
abbrev pub Obeys : Result (Unit {0}) Fault → Devices → Devices → Result (Unit {0}) Failed → Devices → Type 0
Obeys (Ok _) old changed (Ok _) new = new ≡ changed
Obeys (Ok _) old changed (Err _) new = new ≡ old
Obeys (Err fault) old changed (Ok _) new = ⊥
Obeys (Err (Leaves newer)) old changed (Err _) new = (new ≡ old) ⊎ (new ≡ (if newer then changed else old))
Obeys (Err Nothing) old changed (Err _) new = new ≡ old
