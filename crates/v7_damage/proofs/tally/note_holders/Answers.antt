use Rattle.std.proofs.Common.{rules, arith, ◌≡◌, ◌≢◌, ◌||◌, ◌==◌, ◌∙◌, Bool, ℕ, [], true, false, cond, take, ap, sym, get_or, ⊎_elim, eq-eqb}
use Rattle.std.proofs.lemmas.Bool.{cases_eq, ne_eqb}
use Rattle.v7_damage.specs.Slots.{names}
use Rattle.v7_damage.proofs.Walking.{names_more, names_none}
use Rattle.v7_damage.proofs.tally.note_holders.Goals as goal

-- the last one that names it
last_holds : (a e : Bool) (x y : ℕ) → cond e x (cond a x y) ≡ cond (a || e) x y
last_holds true true x y = λ z. x
last_holds true false x y = λ z. x
last_holds false true x y = λ z. x
last_holds false false x y = λ z. y

pub loop-slot-init : goal.loop-slot-init
loop-slot-init c = record {
  each = λ i some lt. sym (ap (λ b. cond b c.args.holder (get_or c.args.holders.now.items i 0)) (names_none c.args.slots.now i));
  length = search rules;
}

same_eq : (i j : ℕ) → (i == j) ≡ (j == i)
same_eq i j = ⊎_elim (λ (e : i ≡ j). eq-eqb i j e ∙ sym (eq-eqb j i (sym e))) (λ (ne : i ≢ j). ne_eqb i j ne ∙ sym (ne_eqb j i (λ e. ne (sym e)))) (cases_eq i j)

pub loop-slot-preserved : goal.loop-slot-preserved
loop-slot-preserved c =
    let k : ℕ = c.loop-slot.slot-index in
    record {
      each = λ i some lt.
          let here : ℕ = (get_or c.args.slots.now k (record { ino = 0; name = [] })).ino in
          let x : ℕ = c.args.holder in
          let y : ℕ = get_or c.args.holders.now.items i 0 in
          let long = c.loop-slot.invariant.length in
          c.note_holder.ensures.each i (omega arith)
          ∙ ap (λ b. cond b x (get_or c.loop-slot.holders.items i 0)) (same_eq i here)
          ∙ ap (λ v. cond (here == i) x v) (c.loop-slot.invariant.each i some lt)
          ∙ last_holds (names (take k c.args.slots.now) i) (here == i) x y
          ∙ ap (λ b. cond b x y) (sym (names_more c.args.slots.now k (record { ino = 0; name = [] }) i c.loop-slot-test.true some));
      length = search rules;
    }
