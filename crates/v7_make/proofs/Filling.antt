-- How full the record in hand is, and how many were put.
use Rattle.std.proofs.Common.{◌≡◌, ◌≢◌, ℕ, ◌+◌, ◌/◌, ◌<◌, Bool, true, false, cond, ap, arith, ⊎_elim, eq-eqb}
use Rattle.std.proofs.lemmas.Bool.{cases_eq, ne_eqb}
use Rattle.v7_layout.specs.declared.chain.Chain.{Chain}
use Rattle.v7_make.specs.Chains.{HasPlaces, IsFilled, IsGiven, given, record_puts}

pub puts_full : (c : Chain) → c.s_nfree ≡ 50 → record_puts true c ≡ 1
puts_full c full = ap (λ b. cond {A = ℕ} b 1 0) (eq-eqb c.s_nfree 50 full)

puts_room : (c : Chain) → c.s_nfree ≢ 50 → record_puts true c ≡ 0
puts_room c room = ap (λ b. cond {A = ℕ} b 1 0) (ne_eqb c.s_nfree 50 room)

-- a block more is on the records
pub fill_puts : (more : Bool) (c : Chain) (n : ℕ) → IsFilled c n → n / 50 + record_puts more c ≡ (given more + n) / 50
fill_puts false c n filled = omega arith
fill_puts true c n filled = ⊎_elim
    (λ (full : c.s_nfree ≡ 50). let p = puts_full c full in let e = filled.count_is in omega (arith, p, e, full))
    (λ (room : c.s_nfree ≢ 50). let p = puts_room c room in let e = filled.count_is in let most = filled.places.most in omega (arith, p, e, room, most))
    (cases_eq c.s_nfree 50)

pub fill_next : (more : Bool) (c d : Chain) (n : ℕ) → IsFilled c n → IsGiven more c d → IsFilled d (given more + n)
fill_next false c d n filled next = record { places = next.places; count_is = (let e = filled.count_is in let f = next.count in omega (arith, e, f)) }
fill_next true c d n filled next = record {
  places = next.places;
  count_is = ⊎_elim
      (λ (full : c.s_nfree ≡ 50). let p = puts_full c full in let e = filled.count_is in let f = next.count in omega (arith, p, e, f, full))
      (λ (room : c.s_nfree ≢ 50). let p = puts_room c room in let e = filled.count_is in let f = next.count in let most = filled.places.most in omega (arith, p, e, f, room, most))
      (cases_eq c.s_nfree 50);
}

pub given_full : (c d : Chain) → c.s_nfree ≡ 50 → d.s_nfree ≡ 1 → HasPlaces d → IsGiven true c d
given_full c d full one places = let p = puts_full c full in record { places = places; count = omega (arith, p, full, one) }

pub given_room : (c d : Chain) → c.s_nfree < 50 → d.s_nfree ≡ c.s_nfree + 1 → HasPlaces d → IsGiven true c d
given_room c d room more places = let p = puts_room c (λ e. omega (arith, e, room)) in record { places = places; count = omega (arith, p, more) }
