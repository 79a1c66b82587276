-- Puts of a store whose states and counts are told, one after the other.
use Rattle.std.proofs.Common.{◌≢◌, inl, inr, ℕ, ◌+◌, ◌^◌, ◌<◌, ◌≤◌, refl, sym, ◌∙◌, arith, subst}
use Rattle.stable.specs.States.{StaysOrFails, IsDeviceError, ArePuts}
use Rattle.stable.specs.declared.state.State.{State}
use Rattle.stable.specs.declared.state.State.TheVariants.{Up}
use Rattle.stable.specs.declared.snapshot.Snapshot.{Snapshot}

-- none yet
pub none_made : (s : Snapshot) (n : ℕ) → s.puts < 2 ^ 64 → ArePuts 0 n n s s
none_made s n fits = record { puts = omega (arith, fits); state = inl refl; few = omega arith; dirty = λ up. omega arith; battery = refl; polls = refl; ups = refl; tries = refl }

-- the state over two calls
pub stays_again : (a b c : State) (k l m : ℕ) → k ≤ l → l ≤ m → StaysOrFails a b k l → StaysOrFails b c l m → StaysOrFails a c k m
stays_again a b c k l m low high (inl ab) (inl bc) = inl (bc ∙ ab)
stays_again a b c k l m low high (inl ab) (inr failed) = inr (sym ab ∙ failed.0, (failed.1.0, omega (arith, failed.1.1, low)))
stays_again a b c k l m low high (inr failed) (inl bc) = inr (failed.0, (subst IsDeviceError (sym bc) failed.1.0, omega (arith, failed.1.1, high)))
stays_again a b c k l m low high (inr failed) (inr again) = inr (failed.0, (again.1.0, omega (arith, failed.1.1, high)))

-- no call leads back to UP
pub still_not_up : (a b : State) (k l : ℕ) → StaysOrFails a b k l → a ≢ Up → b ≢ Up
still_not_up a b k l (inl ab) not = λ up. not (sym ab ∙ up)
still_not_up a b k l (inr failed) not = absurd (not failed.0)

-- puts and then others
pub made_then : (n o : ℕ) (a b c : Snapshot) (k l m : ℕ) → k ≤ l → l ≤ m → ArePuts n k l a b → ArePuts o l m b c → ArePuts (n + o) k m a c
made_then n o a b c k l m low high so_far made = record {
  puts = omega (arith, so_far.puts, made.puts);
  state = stays_again a.state b.state c.state k l m low high so_far.state made.state;
  few = omega (arith, so_far.few, made.few);
  dirty = λ not. omega (arith, so_far.dirty not, made.dirty (still_not_up a.state b.state k l so_far.state not));
  battery = made.battery ∙ so_far.battery;
  polls = made.polls ∙ so_far.polls;
  ups = made.ups ∙ so_far.ups;
  tries = made.tries ∙ so_far.tries;
}

-- one more
pub one_made : (n : ℕ) (a b c : Snapshot) (k l m : ℕ) → k ≤ l → l ≤ m → ArePuts n k l a b → ArePuts 1 l m b c → ArePuts (n + 1) k m a c
one_made n = made_then n 1

stays_wider : (a b : State) (k l m n : ℕ) → k ≤ l → m ≤ n → StaysOrFails a b l m → StaysOrFails a b k n
stays_wider a b k l m n low high (inl same) = inl same
stays_wider a b k l m n low high (inr failed) = inr (failed.0, (failed.1.0, omega (arith, failed.1.1, low, high)))

-- while the count of faults rose by more
pub wider_made : (count : ℕ) (a b : Snapshot) (k l m n : ℕ) → k ≤ l → m ≤ n → ArePuts count l m a b → ArePuts count k n a b
wider_made count a b k l m n low high made =
    record { puts = made.puts; state = stays_wider a.state b.state k l m n low high made.state; few = made.few; dirty = made.dirty; battery = made.battery; polls = made.polls; ups = made.ups; tries = made.tries }
