-- Polls, and what the clock counted.
use Rattle.std.proofs.Common.{arith, ◌≡◌, ℕ, zero, suc, ◌+◌, ◌-◌, ◌≤◌, ◌∙◌, Bool, true, false, if◌then◌else◌, not, Option, Some, None, refl, sym, ap, subst}
use Rattle.std.specs.Prelude.{nat_eq}
use Rattle.std.proofs.lemmas.Bool.{true≢false, eq-eqb, eqb-true}
use Rattle.rig.specs.Clocks.{changes_after}
use Rattle.stable.specs.Counts.{RoseBy, one_more}
use Rattle.nfs_worker.specs.Tending.{polls_after, is_new}

-- the count of changes rises by one at most
changes-few : (last : Option ℕ) (second n : ℕ) → changes_after last second n ≤ n + 1
changes-few None second n = omega arith
changes-few (Some before) second n = case (nat_eq before second)
  where
    case : (b : Bool) → (if b then n else one_more n) ≤ n + 1
    case true = omega arith
    case false = omega arith

polls-later : (polled : Bool) (a b : ℕ) → RoseBy 0 a b → RoseBy 0 a (polls_after polled b)
polls-later true a b p = omega (arith, p)
polls-later false a b p = p

-- a poll for each change
in_step : (before second x y z a b c : ℕ) → z ≡ changes_after (Some before) second y → c ≡ polls_after (is_new before second) b → RoseBy (y - x - 1) a b → RoseBy (z - x - 1) a c
in_step before second x y z a b c changed polled so_far = case (nat_eq before second) refl (nat_eq second before) refl
  where
    case : (p : Bool) → nat_eq before second ≡ p → (q : Bool) → nat_eq second before ≡ q → RoseBy (z - x - 1) a c
    case true e true f =
        let zed : z ≡ y = changed ∙ ap (λ (b : Bool). if b then y else one_more y) e in
        let cee : c ≡ b = polled ∙ ap (λ (b' : Bool). polls_after (not b') b) f in
        omega (arith, so_far, zed, cee)
    case false e false f =
        let zed : z ≡ one_more y = changed ∙ ap (λ (b : Bool). if b then y else one_more y) e in
        let cee : c ≡ one_more b = polled ∙ ap (λ (b' : Bool). polls_after (not b') b) f in
        omega (arith, so_far, zed, cee)
    case true e false f = absurd (true≢false (sym (eq-eqb second before (sym (eqb-true before second e))) ∙ f))
    case false e true f = absurd (true≢false (sym (eq-eqb before second (sym (eqb-true second before f))) ∙ e))

-- one turn more: the clock was asked, and the battery polled where the second is a new one
pub polls_more : (last : Option ℕ) (x y z before second a b c turns : ℕ) → (turns ≡ 0 → y ≡ x) → (1 ≤ turns → last ≡ Some before) → z ≡ changes_after last second y → c ≡ polls_after (is_new before second) b
    → RoseBy (y - x - 1) a b → RoseBy (z - x - 1) a c
polls_more last x y z before second a b c zero none some changed polled so_far =
    let few = changes-few last second y in
    let same = none refl in
    let none_yet : RoseBy 0 a b = omega (arith, so_far) in
    let still : RoseBy 0 a c = subst (λ (n : ℕ). RoseBy 0 a n) (sym polled) (polls-later (is_new before second) a b none_yet) in
    omega (arith, few, same, changed, still)
polls_more last x y z before second a b c (suc n) none some changed polled so_far =
    in_step before second x y z a b c (changed ∙ ap (λ (o : Option ℕ). changes_after o second y) (some (omega arith))) polled so_far
