-- How many sectors a call puts.
use Rattle.std.proofs.Common.{◌≡◌, ℕ, ◌+◌, ◌≤◌, ◌^◌, ◌<◌, Bool, false, refl, subst, sym, arith}
use Rattle.stable.specs.Looked.{Looked}
use Rattle.stable.specs.States.{ArePuts, SomePuts}
use Rattle.stable.specs.declared.snapshot.Snapshot.{Snapshot}
use Rattle.stable.specs.declared.store.Stable.{Ghosts}
use Rattle.stable.proofs.Counted.{made_then, none_made, wider_made}
use Rattle.volume.specs.Costs.{CostsAtMost}
use Rattle.volume.specs.Mends.{mend_puts}

-- none, where nothing was put
pub no_puts : (most : ℕ) (s t : Snapshot) (before now : ℕ) → s.puts < 2 ^ 64 → before ≤ now → t ≡ s → SomePuts most before now s t
no_puts most s t before now fits later same =
    subst (λ (x : Snapshot). SomePuts most before now s x) (sym same) (record { count = 0; few = omega arith; made = wider_made 0 s s before before before now (omega arith) later (none_made s before fits) })

-- those of a plan, before which nothing was put
pub puts_from : (n most : ℕ) (s t u : Snapshot) (before mid now : ℕ) → t ≡ s → before ≤ mid → n ≤ most → SomePuts n mid now t u → SomePuts most before now s u
puts_from n most s t u before mid now same later few puts = record {
  count = puts.count;
  few = let most_is = puts.few in omega (arith, most_is, few);
  made = wider_made puts.count s u before mid now now later (omega arith) (subst (λ (x : Snapshot). ArePuts puts.count mid now x u) same puts.made);
}

puts_then : (n p : ℕ) (a b c : Snapshot) (k l m : ℕ) → k ≤ l → l ≤ m → SomePuts n k l a b → SomePuts p l m b c → SomePuts (n + p) k m a c
puts_then n p a b c k l m low high first next = record {
  count = first.count + next.count;
  few = let x = first.few in let y = next.few in omega (arith, x, y);
  made = made_then first.count next.count a b c k l m low high first.made next.made;
}

puts_wider : (n m before now : ℕ) (a b : Snapshot) → n ≤ m → SomePuts n before now a b → SomePuts m before now a b
puts_wider n m before now a b le puts = record { count = puts.count; few = (let few = puts.few in omega (arith, le, few)); made = puts.made }

module _ {S : Type 0} (s : Ghosts S) where
  -- a look puts nothing
  pub cost_looked : ((store : S) → (s.snapshot_of store).puts < 2 ^ 64) → (old new : S) (most price : ℕ) → s.faults old ≤ s.faults new → s.snapshot_of new ≡ s.snapshot_of old → CostsAtMost s old new false most price
  cost_looked counted old new most price later same = record {
    puts = no_puts (mend_puts false + most) (s.snapshot_of old) (s.snapshot_of new) (s.faults old) (s.faults new) (counted old) later same;
    cheap = λ told sound. no_puts price (s.snapshot_of old) (s.snapshot_of new) (s.faults old) (s.faults new) (counted old) later same;
  }

  -- a plan after a look
  pub cost_planned : (n : ℕ) (old mid new : S) (most price : ℕ) → Looked s old mid → n ≤ most → (s.tells → n ≤ price)
      → SomePuts n (s.faults mid) (s.faults new) (s.snapshot_of mid) (s.snapshot_of new) → CostsAtMost s old new false most price
  cost_planned n old mid new most price looked few cheap made = record {
    puts = puts_from n (mend_puts false + most) (s.snapshot_of old) (s.snapshot_of mid) (s.snapshot_of new) (s.faults old) (s.faults mid) (s.faults new) looked.snapshot looked.later (omega (arith, few)) made;
    cheap = λ told sound. puts_from n price (s.snapshot_of old) (s.snapshot_of mid) (s.snapshot_of new) (s.faults old) (s.faults mid) (s.faults new) looked.snapshot looked.later (cheap told) made;
  }

  -- a mend, and then a call: where nothing was hurt the mend did nothing
  pub cost_then : (old mid new : S) (was : Bool) (most : ℕ) (price : S → ℕ) → (was ≡ false → mid ≡ old) → s.faults old ≤ s.faults mid → s.faults mid ≤ s.faults new
      → SomePuts (mend_puts was) (s.faults old) (s.faults mid) (s.snapshot_of old) (s.snapshot_of mid) → CostsAtMost s mid new false most (price mid) → CostsAtMost s old new was most (price old)
  cost_then old mid new was most price idle later last mended made = record {
    puts = puts_wider (mend_puts was + (mend_puts false + most)) (mend_puts was + most) (s.faults old) (s.faults new) (s.snapshot_of old) (s.snapshot_of new) (omega arith) (puts_then (mend_puts was) (mend_puts false + most) (s.snapshot_of old) (s.snapshot_of mid) (s.snapshot_of new) (s.faults old) (s.faults mid) (s.faults new) later last mended made.puts);
    cheap = λ told sound. subst (λ (x : S). SomePuts (price x) (s.faults x) (s.faults new) (s.snapshot_of x) (s.snapshot_of new)) (idle sound) (made.cheap told refl);
  }
