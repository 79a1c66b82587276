-- Counted puts, one run after the other.
use Rattle.std.proofs.Common.{◌≡◌, ℕ, ◌+◌, ◌^◌, ◌<◌, ◌≤◌, Result, Ok, Err, IfOk, OnErr, refl, sym, subst, ◌∙◌, arith}
use Rattle.std.specs.Result.{IsErr}
use Rattle.stable.specs.Counts.{HasCause, Rose}
use Rattle.stable.specs.Looked.{Looked}
use Rattle.stable.specs.Moments.{IsClocked}
use Rattle.stable.specs.States.{ArePuts, SomePuts}
use Rattle.stable.specs.Store.{Image}
use Rattle.stable.specs.declared.store.Stable.{Ghosts}
use Rattle.stable.proofs.Clocked.{goes_on, weaker}
use Rattle.stable.proofs.Counted.{made_then, none_made, wider_made}
use Rattle.stable.proofs.Looking.{no_look}
use Rattle.v7_mend.specs.Runs.{HasPut, CountsPuts}

-- a cause since later is one since before
rose_before : {E : Type 0} (result : Result ℕ E) (before later now : ℕ) → before ≤ later → OnErr result (Rose later now) → OnErr result (Rose before now)
rose_before (Ok n) before later now le cause = tt
rose_before (Err e) before later now le cause = omega (arith, le, cause)

rose_failed : {E : Type 0} (result : Result ℕ E) (before later now : ℕ) → before ≤ later → Rose later now → OnErr result (Rose before now)
rose_failed (Ok n) before later now le rose = tt
rose_failed (Err e) before later now le rose = omega (arith, le, rose)

-- what fails has no answer
none_answered : {E : Type 0} (result : Result ℕ E) (count : ℕ) → IsErr result → IfOk result (λ changed. changed ≡ count)
none_answered (Ok n) count failed = absurd (cc)
none_answered (Err e) count failed = tt

module _ {S : Type 0} (s : Ghosts S) where
  -- a weaker claim on each moment
  pub weaker_put : {P Q : Image → Type 0} {n : ℕ} {old new : S} → HasPut s P n old new → ((d : Image) → s.left_since new (s.moment old) d → P d → Q d) → HasPut s Q n old new
  weaker_put h here = record { crash = weaker h.crash here; opens = h.opens; later = h.later; sectors = h.sectors; snapshot = h.snapshot }

  -- puts and then others
  pub puts_then : {P Q : Image → Type 0} {n m : ℕ} {old mid new : S} → HasPut s P n old mid → HasPut s Q m mid new
      → ((d : Image) → s.left_since new (s.moment mid) d → Q d → P d) → HasPut s P (n + m) old new
  puts_then {P} {Q} {n} {m} {old} {mid} {new} a b here = record {
    crash = goes_on a.crash b.crash here;
    opens = λ t le opens. b.opens t (omega (arith, le, a.crash.later)) (a.opens t le opens);
    later = omega (arith, a.later, b.later);
    sectors = b.sectors ∙ a.sectors;
    snapshot = made_then n m (s.snapshot_of old) (s.snapshot_of mid) (s.snapshot_of new) (s.faults old) (s.faults mid) (s.faults new) a.later b.later a.snapshot b.snapshot;
  }

  -- what a run answers
  pub answers : {E : Type 0} {P : Image → Type 0} {n : ℕ} {old new : S} → (most : ℕ) → n ≤ most → HasPut s P n old new → CountsPuts {E = E} s P most old new (Ok n)
  answers {E} {P} {n} most few puts = record { count = n; few = few; puts = puts; answer = refl; cause = tt }

  -- what a run that answered did
  pub answered : {E : Type 0} {P : Image → Type 0} {most n : ℕ} {old new : S} → CountsPuts {E = E} s P most old new (Ok n) → HasPut s P n old new
  answered {P = P} {old = old} {new = new} c = subst (λ n. HasPut s P n old new) (sym c.answer) c.puts

  pub few_answered : {E : Type 0} {P : Image → Type 0} {most n : ℕ} {old new : S} → CountsPuts {E = E} s P most old new (Ok n) → n ≤ most
  few_answered c = let few = c.few in let is = c.answer in omega (arith, few, is)

  -- puts, and then a run that fails
  pub fails : {E : Type 0} {P Q : Image → Type 0} {n most : ℕ} {old mid new : S} {e : E} → (all : ℕ) → n + most ≤ all → HasPut s P n old mid → CountsPuts s Q most mid new (Err e)
      → ((d : Image) → s.left_since new (s.moment mid) d → Q d → P d) → (result : Result ℕ E) → IsErr result → CountsPuts s P all old new result
  fails {n = n} {old = old} {mid = mid} {new = new} all room a b here result failed = let few = b.few in record {
    count = n + b.count;
    few = omega (arith, few, room);
    puts = puts_then a b.puts here;
    answer = none_answered result (n + b.count) failed;
    cause = rose_failed result (s.faults old) (s.faults mid) (s.faults new) a.later b.cause;
  }

  -- so many puts at most, whatever is answered
  pub some_puts : {E : Type 0} {P : Image → Type 0} {most : ℕ} {old new : S} {result : Result ℕ E} → CountsPuts s P most old new result → SomePuts most (s.faults old) (s.faults new) (s.snapshot_of old) (s.snapshot_of new)
  some_puts c = record { count = c.count; few = c.few; made = c.puts.snapshot }

  -- and a failure has a cause
  pub has_cause : {E : Type 0} {P : Image → Type 0} {most : ℕ} {old new : S} {result : Result ℕ E} → CountsPuts s P most old new result → HasCause (s.faults old) (s.faults new) result
  has_cause c = record { later = c.puts.later; failed = c.cause }

  -- a run of which more could be, and less is claimed
  pub counts_weaker : {E : Type 0} {P Q : Image → Type 0} {most : ℕ} {old new : S} {result : Result ℕ E} → CountsPuts s P most old new result
      → ((d : Image) → s.left_since new (s.moment old) d → P d → Q d) → CountsPuts s Q most old new result
  counts_weaker c here = record { count = c.count; few = c.few; puts = weaker_put c.puts here; answer = c.answer; cause = c.cause }

  module _ (clocked : IsClocked s.tells s.image s.moment s.left_since) (counted : (x : S) → (s.snapshot_of x).puts < 2 ^ 64) where
    -- a look puts nothing
    pub look_puts : {P : Image → Type 0} {old new : S} → Looked s old new → (s.tells → P (s.image old)) → HasPut s P 0 old new
    look_puts {P} {old} {new} look here = record {
      crash = weaker look.crash (λ d left same. subst P (sym same) (here (clocked.told new (s.moment old) d left)));
      opens = look.opens;
      later = look.later;
      sectors = look.sectors;
      snapshot = subst (λ x. ArePuts 0 (s.faults old) (s.faults new) (s.snapshot_of old) x) (sym look.snapshot)
          (wider_made 0 (s.snapshot_of old) (s.snapshot_of old) (s.faults old) (s.faults old) (s.faults old) (s.faults new) (omega arith) look.later (none_made (s.snapshot_of old) (s.faults old) (counted old)));
    }

    pub none_put : {P : Image → Type 0} (store : S) → (s.tells → P (s.image store)) → HasPut s P 0 store store
    none_put store here = look_puts (no_look s clocked store) here

    -- a look that fails
    pub look_fails : {E : Type 0} {P : Image → Type 0} {old new : S} → (most : ℕ) → Looked s old new → Rose (s.faults old) (s.faults new) → (s.tells → P (s.image old)) → (result : Result ℕ E) → IsErr result → CountsPuts s P most old new result
    look_fails {old = old} {new = new} most look rose here result failed =
        record { count = 0; few = omega arith; puts = look_puts look here; answer = none_answered result 0 failed; cause = rose_failed result (s.faults old) (s.faults old) (s.faults new) (omega arith) rose }

    -- a look before a run
    pub looks_first : {E : Type 0} {P Q : Image → Type 0} {most : ℕ} {old mid new : S} {result : Result ℕ E} → Looked s old mid → (s.tells → P (s.image old)) → CountsPuts s Q most mid new result
        → ((d : Image) → s.left_since new (s.moment mid) d → Q d → P d) → CountsPuts s P most old new result
    looks_first {P = P} {old = old} {mid = mid} {new = new} {result = result} look here c then_on = let none_more : 0 + c.count ≡ c.count = omega arith in record {
      count = c.count;
      few = c.few;
      puts = subst (λ n. HasPut s P n old new) none_more (puts_then (look_puts look here) c.puts then_on);
      answer = c.answer;
      cause = rose_before result (s.faults old) (s.faults mid) (s.faults new) look.later c.cause;
    }
