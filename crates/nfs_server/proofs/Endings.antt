-- How a run ends, by whether a device failed in stopping.
use Rattle.std.proofs.Common.{arith, ◌≡◌, ◌≢◌, ◌⊎◌, inl, inr, ℕ, zero, suc, ◌≤◌, ◌||◌, Bool, true, false, List, Option, Some, None, nat_lt, refl, sym}
use Rattle.nfs_worker.specs.declared.turning.Ended.{Ended}
use Rattle.nfs_worker.specs.declared.turning.Ended.TheVariants as ended
use Rattle.run_lines.proofs.Statuses.{host_not, unit_not, volume_not}
use Rattle.server_volumes.specs.Obstacles.{Obstacle, NoRig, NoUnit, NoVolume, obstacle_status}
use Rattle.server_volumes.specs.Stopped.{fails}
use Rattle.server_volumes.specs.declared.stopping.Stopped.{Stopped}
use Rattle.server_words.specs.Words.{Words}
use Rattle.nfs_server.specs.Course.{Course, Unread, Usage, Served, Ending, Unopened, NoPost, Ran, closing_status, end_status, ending_status, first_failed, status_of}
use Rattle.nfs_server.specs.Outcome.{Understood}

end_not : (way : Ended) (n : ℕ) → n ≢ 0 → n ≢ 72 → end_status way ≢ n
end_not ended.Closed n p q is = p (sym is)
end_not ended.Halted n p q is = p (sym is)
end_not ended.Spent n p q is = q (sym is)

-- the status is that of a failed device only where one failed
pub closing_failed : (way : Ended) (failed : Option ℕ) → closing_status way failed ≡ 74 → (number : ℕ) × (failed ≡ Some number)
closing_failed way (Some number) is = (number, refl)
closing_failed way None is = absurd (end_not way 74 (λ e. omega (arith, e)) (λ e. omega (arith, e)) is)

pub closing_not : (way : Ended) (failed : Option ℕ) (n : ℕ) → n ≢ 0 → n ≢ 72 → n ≢ 74 → closing_status way failed ≢ n
closing_not way None n p q r is = end_not way n p q is
closing_not way (Some number) n p q r is = r (sym is)

some_left : (n : ℕ) → nat_lt 0 n ≡ true → 1 ≤ n
some_left zero is = cc
some_left (suc n) is = omega arith

-- where one failed the chain isn't written, or something is left dirty
pub fails_by : (stopped : Stopped) → fails stopped ≡ true → (stopped.unwritten ≡ true) ⊎ (1 ≤ stopped.dirty)
fails_by stopped is = case stopped.unwritten refl is
  where
    case : (unwritten : Bool) → stopped.unwritten ≡ unwritten → (unwritten || nat_lt 0 stopped.dirty) ≡ true → (stopped.unwritten ≡ true) ⊎ (1 ≤ stopped.dirty)
    case true e failed = inl e
    case false e failed = inr (some_left stopped.dirty failed)

obstacle_not : (why : Obstacle) → obstacle_status why ≢ 64
obstacle_not (NoRig word fault) is = host_not fault 64 (λ e. omega (arith, e)) (λ e. omega (arith, e)) is
obstacle_not (NoUnit fault) is = unit_not fault 64 (omega arith) is
obstacle_not (NoVolume fault) is = volume_not fault 64 (omega arith) is

-- a run over volumes isn't one without words
pub ending_not_64 : (ending : Ending) (all : List Stopped) → ending_status ending all ≢ 64
ending_not_64 (Unopened why) all is = obstacle_not why is
ending_not_64 (NoPost port fault) all is = host_not fault 64 (λ e. omega (arith, e)) (λ e. omega (arith, e)) is
ending_not_64 (Ran way did) all is = closing_not way (first_failed 0 all) 64 (λ e. omega (arith, e)) (λ e. omega (arith, e)) (λ e. omega (arith, e)) is

-- a run that was asked for isn't one without words
pub asked_not_64 : (given : Words) (course : Course) → Understood (Some given) course → status_of course ≢ 64
asked_not_64 given Unread understood is = absurd (omega (arith, is))
asked_not_64 given Usage understood is = cc
asked_not_64 given (Served starts ending all) understood is = ending_not_64 ending all is

pub not_none : {A : Type 0} (x : A) → Some x ≡ None → ⊥
not_none x is = cc
