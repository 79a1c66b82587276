-- How many puts a SETATTR takes.
use Rattle.std.proofs.Common.{◌≡◌, ◌≢◌, ℕ, ◌+◌, ◌<◌, ◌≤◌, Bool, true, false, cond, not, ◌==◌, Option, Some, None, unwrap_or, is_some, ltb, eqb, eq-eqb, refl, ap, sym, subst, ◌∙◌, arith, ⊎_elim}
use Rattle.std.proofs.lemmas.Bool.{cases_lt, ne_eqb, lt-ltb, le-ltb}
use Rattle.files_model.specs.Batch.{one_if}

-- one where something holds
one-true : (b : Bool) → b ≡ true → one_if b ≡ 1
one-true b e = ap one_if e

one-false : (b : Bool) → b ≡ false → one_if b ≡ 0
one-false b e = ap one_if e

one-few : (b : Bool) → one_if b ≤ 1
one-few true = omega arith
one-few false = omega arith

pub one-grows : (a b : ℕ) → a < b → one_if (ltb a b) ≡ 1
one-grows a b lt = one-true (ltb a b) (lt-ltb a b lt)

pub one-stays : (a b : ℕ) → b ≤ a → one_if (ltb a b) ≡ 0
one-stays a b le = one-false (ltb a b) (le-ltb a b le)

-- a size that shrinks or grows is another one
pub shrinks-two : (a b : ℕ) → b < a → 2 ≤ one_if (not (a == b)) + 1
shrinks-two a b lt = let one : one_if (not (eqb a b)) ≡ 1 = one-true (not (eqb a b)) (ap not (ne_eqb a b (λ e. omega (arith, lt, e)))) in omega (arith, one)

pub grows-few : (a b : ℕ) → one_if (ltb a b) + 1 ≤ one_if (not (a == b)) + 1
grows-few a b = ⊎_elim
    (λ (lt : a < b). let one = one-grows a b lt in let other : one_if (not (eqb a b)) ≡ 1 = one-true (not (eqb a b)) (ap not (ne_eqb a b (λ e. omega (arith, lt, e)))) in omega (arith, one, other))
    (λ (le : b ≤ a). let none = one-stays a b le in omega (arith, none))
    (cases_lt a b)

-- only a size that is set is another one
pub set-few : (o : Option ℕ) (a : ℕ) → one_if (not (a == unwrap_or o a)) + 1 ≤ cond (is_some o) 2 1
set-few None a = let none : one_if (not (eqb a a)) ≡ 0 = one-false (not (eqb a a)) (ap not (eq-eqb a a refl)) in omega (arith, none)
set-few (Some size) a = let few = one-few (not (eqb a size)) in omega (arith, few)
