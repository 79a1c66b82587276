-- At most so many puts, one after the other.
use Rattle.std.proofs.Common.{◌≡◌, ℕ, ◌+◌, ◌^◌, ◌<◌, ◌≤◌, sym, subst, arith}
use Rattle.stable.specs.States.{ArePuts, SomePuts}
use Rattle.stable.specs.declared.snapshot.Snapshot.{Snapshot}
use Rattle.stable.proofs.Counted.{none_made, made_then, wider_made}

pub some_none : (s : Snapshot) (most n : ℕ) → s.puts < 2 ^ 64 → SomePuts most n n s s
some_none s most n fits = record { count = 0; few = omega arith; made = none_made s n fits }

pub some_one : (a b : Snapshot) (k l : ℕ) → ArePuts 1 k l a b → SomePuts 1 k l a b
some_one a b k l made = record { count = 1; few = omega arith; made = made }

pub some_then : (n o most : ℕ) (a b c : Snapshot) (k l m : ℕ) → n + o ≤ most → k ≤ l → l ≤ m → SomePuts n k l a b → SomePuts o l m b c → SomePuts most k m a c
some_then n o most a b c k l m few low high first then_on = record {
  count = first.count + then_on.count;
  few = (let x = first.few in let y = then_on.few in omega (arith, few, x, y));
  made = made_then first.count then_on.count a b c k l m low high first.made then_on.made;
}

pub some_wider : (n most : ℕ) (a b : Snapshot) (k l : ℕ) → n ≤ most → SomePuts n k l a b → SomePuts most k l a b
some_wider n most a b k l few some = record { count = some.count; few = (let x = some.few in omega (arith, few, x)); made = some.made }

-- a look puts nothing
pub some_look : (a b : Snapshot) (k l : ℕ) → a.puts < 2 ^ 64 → k ≤ l → b ≡ a → SomePuts 0 k l a b
some_look a b k l fits le same = subst (SomePuts 0 k l a) (sym same) (record { count = 0; few = omega arith; made = wider_made 0 a a k k k l (omega arith) le (none_made a k fits) })
