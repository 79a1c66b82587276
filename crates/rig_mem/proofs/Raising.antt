-- Each step of a pauser keeps the rule of the flags.
use Rattle.std.proofs.Common.{◌≡◌, ◌≢◌, ⊎_elim, ℕ, zero, suc, ◌<◌, List, [], ◌∷◌, ◌++◌, get_or, set, refl, sym, ap, ◌∙◌, subst, arith, length-set, get_or-set_same, get_or-set_other, not, eq-eqb, ne_eqb}
use Rattle.std.proofs.lemmas.List.{set-get_or}
use Rattle.std.specs.List.{Contains}
use Rattle.std.proofs.lemmas.List.Elements.{Contains-append_left, Contains-append_right}
use mathlib.Core.Logic.{dite}
use mathlib.Core.Option.{none, some, some-injective, some-ne-none}
use native.Mathlib.Decide.{ℕ_discrete}
use lib.ListN.{get_elem?}
use Rattle.atomic_table.specs.Table.{State, Me, step, keeps, stepped, Allows, Enters}
use Rattle.atomic_table.proofs.Lists.{at_set, at_snoc, at_longer, set_else}
use Rattle.rig_mem.specs.declared.flags.Known.{Known}
use Rattle.rig_mem.specs.Gates.{FlagsStay, AreRaised, IsSo, WasReached, nothing_known, with_reached, with_seen, with_looks, after_look, begins, raises, looks}

-- a raised flag stays raised where another one, or it again, is raised
stays : (words : List ℕ) (i p : ℕ) → 0 < get_or words p 0 → 0 < get_or (set words i 1) p 0
stays [] i p e = e
stays (x ∷ xs) zero zero e = omega arith
stays (x ∷ xs) zero (suc p) e = e
stays (x ∷ xs) (suc i) zero e = e
stays (x ∷ xs) (suc i) (suc p) e = stays xs i p e

all_stay : (words : List ℕ) (i : ℕ) (places : List ℕ) → AreRaised words places → AreRaised (set words i 1) places
all_stay words i [] r = tt
all_stay words i (p ∷ places) r = (stays words i p r.0, all_stay words i places r.1)

-- one more of them
one_more_raised : (words places : List ℕ) (p : ℕ) → AreRaised words places → 0 < get_or words p 0 → AreRaised words (places ++ p ∷ [])
one_more_raised words [] p r e = (e, tt)
one_more_raised words (q ∷ places) p r e = (r.0, one_more_raised words places p r.1 e)

-- the view that a pauser has now
now_there : (views : List Known) (id : ℕ) (k w : Known) → get_elem? views id ≡ some k → get_elem? (set views id w) id ≡ some w
now_there [] id k w e = absurd (some-ne-none k (sym e))
now_there (x ∷ xs) zero k w e = refl
now_there (x ∷ xs) (suc id) k w e = now_there xs id k w e

last_of : (places : List ℕ) (p : ℕ) → Contains (places ++ p ∷ []) p
last_of places p = Contains-append_right places (p ∷ []) p (0, omega arith, refl)

-- what was reached stays so where a pauser's view grows
still_reached : (views : List Known) (id : ℕ) (k w : Known) (p : ℕ) → get_elem? views id ≡ some k → (Contains k.reached p → Contains w.reached p) → WasReached views p → WasReached (set views id w) p
still_reached views id k w p at grows (j, v, there, has) = dite (ℕ_discrete j id)
    (λ same. let e : k ≡ v = some-injective k v (sym at ∙ ap (get_elem? views) (sym same) ∙ there) in
    (id, w, now_there views id k w at, grows (subst (λ (x : Known). Contains x.reached p) (sym e) has)))
    (λ other. (j, v, set_else views id j w other ∙ there, has))

pub raised : (count slots id place : ℕ) (me : Me (Unit {0}) Known) → place < count
    → Allows (FlagsStay count) slots id me place (λ _. 1) (λ _. raises (step slots place 1 0 none) me 1)
raised count slots id place me inside s rule homes at fits =
    let k = me.0 in let w = with_reached k place in let words = set s.words place 1 in (
      w,
      keeps,
      tt,
      record {
        size = length-set s.words place 1 ∙ rule.size;
        each = λ j v e. ⊎_elim
            (λ (mine : (j ≡ id) × (w ≡ v)).
            let mine_so : IsSo s.words k = rule.each id k at in
            subst (λ (x : Known). IsSo words x) mine.1 (
              one_more_raised words k.reached place (all_stay s.words place k.reached mine_so.0) (let is = get_or-set_same s.words place 1 0 (subst (λ (n : ℕ). place < n) (sym rule.size) inside) in omega (arith, is)),
              all_stay s.words place k.seen mine_so.1,
            ))
            (λ (others : (j ≢ id) × (get_elem? s.views j ≡ some v)).
            let so : IsSo s.words v = rule.each j v others.1 in
            (all_stay s.words place v.reached so.0, all_stay s.words place v.seen so.1))
            (at_set s.views id j w v e);
        only = λ p up. dite (ℕ_discrete p place)
            (λ here. (id, w, now_there s.views id k w at, subst (λ (q : ℕ). Contains (k.reached ++ place ∷ []) q) (sym here) (last_of k.reached place)))
            (λ there. still_reached s.views id k w p at (Contains-append_left k.reached (place ∷ []) p) (rule.only p (subst (λ (n : ℕ). 0 < n) (get_or-set_other s.words place p 1 0 there) up)));
      },
      refl,
    )

-- a look that found no flag raised, or a raised one
looked_at : (count id place : ℕ) (s : State (Unit {0}) Known) (k w : Known) (c : List (ℕ × Unit {0})) → FlagsStay count s → get_elem? s.views id ≡ some k → w.reached ≡ k.reached → IsSo s.words w
    → FlagsStay count (stepped s place (get_or s.words place 0) id c w keeps)
looked_at count id place s k w c rule at same so =
    let back : s.words ≡ set s.words place (get_or s.words place 0) = sym (set-get_or s.words place 0) in
    let grown : FlagsStay count (record { words = s.words; homes = s.homes; views = set s.views id w }) = record {
      size = rule.size;
      each = λ j v e. ⊎_elim
          (λ (mine : (j ≡ id) × (w ≡ v)). subst (λ (x : Known). IsSo s.words x) mine.1 so)
          (λ (others : (j ≢ id) × (get_elem? s.views j ≡ some v)). rule.each j v others.1)
          (at_set s.views id j w v e);
      only = λ p up. still_reached s.views id k w p at (subst (λ (l : List ℕ). Contains l p) (sym same)) (rule.only p up);
    } in
    subst (λ (words : List ℕ). FlagsStay count (record { words = words; homes = s.homes; views = set s.views id w })) back grown

pub looked : (count slots id place : ℕ) (me : Me (Unit {0}) Known) → Allows (FlagsStay count) slots id me place (λ n. n) (looks (step slots place 0 0 none) me)
looked count slots id place me s rule homes at fits =
    let k = me.0 in let found : ℕ = get_or s.words place 0 in let so : IsSo s.words k = rule.each id k at in let one = with_looks k 1 in
    dite (ℕ_discrete found 0)
    (λ down. (one, keeps, tt, looked_at count id place s k one me.1 rule at refl so, ap (λ b. after_look (not b) k place) (sym (eq-eqb found 0 down))))
    (λ up. let w = with_seen one place in
    (w, keeps, tt, looked_at count id place s k w me.1 rule at refl (so.0, one_more_raised s.words k.seen place so.1 (omega (arith, up))), ap (λ b. after_look (not b) k place) (sym (ne_eqb found 0 up))))

still_there : (views : List Known) (w : Known) (p : ℕ) → WasReached views p → WasReached (views ++ w ∷ []) p
still_there views w p (j, v, there, has) = (j, v, at_longer views (w ∷ []) j v there, has)

pub begun : (count slots place : ℕ) (me : Me (Unit {0}) Known) → Enters (FlagsStay count) slots place (λ n w. begins (step slots place 0 0 none) me n (w, []))
begun count slots place me s rule homes fits = (
  nothing_known,
  record {
    size = rule.size;
    each = λ j v e. ⊎_elim (λ (old : get_elem? s.views j ≡ some v). rule.each j v old)
        (λ (new : nothing_known ≡ v). subst (λ (x : Known). IsSo s.words x) new (tt, tt))
        (at_snoc s.views nothing_known v j e);
    only = λ p up. still_there s.views nothing_known p (rule.only p up);
  },
  refl,
)
