-- How a run of device calls goes on.
use Rattle.std.proofs.Common.{◌≡◌, inl, inr, ⊎_elim, ℕ, sym, subst, arith}
use Rattle.stable.specs.Moments.{IsClocked, LeavesOnly, Shown}

module _ {R I : Type 0} {tells : Type 0} {contents : R → I} {moment : R → ℕ} {left_since : R → ℕ → I → Type 0} (clocked : IsClocked tells contents moment left_since) where
  -- before the first call
  pub started : (old : R) (P : I → Type 0) → (tells → P (contents old)) → LeavesOnly moment left_since old old P
  started old P here = record {
    later = omega arith;
    each = λ d left. subst P (sym (clocked.only old d left)) (here (clocked.told old (moment old) d left));
    before = λ t d le left. inl left;
    keeps = λ t d le left. left;
    wider = λ t d le left. clocked.wider old t (moment old) d le left;
  }

  -- what is there after a run is one of its images
  pub ends : {old new : R} {P : I → Type 0} → LeavesOnly moment left_since old new P → tells → P (contents new)
  ends {old} {new} run tells = run.each (contents new) (clocked.now new (moment old) tells run.later)

module _ {R I : Type 0} {moment : R → ℕ} {left_since : R → ℕ → I → Type 0} {old mid new : R} {P Q : I → Type 0} where
  -- one call more, after which a crash leaves what has P
  pub goes_on : LeavesOnly moment left_since old mid P → LeavesOnly moment left_since mid new Q
      → ((d : I) → left_since new (moment mid) d → Q d → P d) → LeavesOnly moment left_since old new P
  goes_on so_far call here = record {
    later = omega (arith, so_far.later, call.later);
    each = λ d left. ⊎_elim (so_far.each d) (λ now. here d now (call.each d now)) (call.before (moment old) d so_far.later left);
    before = λ t d le left. ⊎_elim
        (λ was. ⊎_elim (λ earlier. inl earlier) (λ since. inr (call.keeps (moment old) d so_far.later since)) (so_far.before t d le was))
        (λ now. inr (call.wider (moment old) d so_far.later now))
        (call.before t d (omega (arith, le, so_far.later)) left);
    keeps = λ t d le left. call.keeps t d (omega (arith, le, so_far.later)) (so_far.keeps t d le left);
    wider = λ t d le left. ⊎_elim
        (λ was. call.keeps t d (omega (arith, le, so_far.later)) (so_far.wider t d le was))
        (λ now. call.wider t d (omega (arith, le, so_far.later)) now)
        (call.before (moment old) d so_far.later left);
  }

module _ {R I : Type 0} {moment : R → ℕ} {left_since : R → ℕ → I → Type 0} {old new : R} {P Q : I → Type 0} where
  -- a weaker claim
  pub weaker : LeavesOnly moment left_since old new P → ((d : I) → left_since new (moment old) d → P d → Q d) → LeavesOnly moment left_since old new Q
  weaker call here = record { later = call.later; each = λ d left. here d left (call.each d left); before = call.before; keeps = call.keeps; wider = call.wider }

module _ {R I J : Type 0} {moment : R → ℕ} {left_since : R → ℕ → I → Type 0} {old new : R} {P : I → Type 0} where
  -- of what the images stand for
  pub shown : (shows : I → J → Type 0) (Q : J → Type 0) → LeavesOnly moment left_since old new P → ((i : I) (j : J) → P i → shows i j → Q j) → LeavesOnly moment (Shown shows left_since) old new Q
  shown shows Q call here = record {
    later = call.later;
    each = λ j left. here left.0 j (call.each left.0 left.1) left.2;
    before = λ t j le left. ⊎_elim (λ was. inl (left.0, was, left.2)) (λ now. inr (left.0, now, left.2)) (call.before t left.0 le left.1);
    keeps = λ t j le left. (left.0, call.keeps t left.0 le left.1, left.2);
    wider = λ t j le left. (left.0, call.wider t left.0 le left.1, left.2);
  }

module _ {R I : Type 0} {tells : Type 0} {contents : R → I} {moment : R → ℕ} {left_since : R → ℕ → I → Type 0} (clocked : IsClocked tells contents moment left_since) where
  -- one call more, which changes nothing
  pub idles : {old mid new : R} {P : I → Type 0} → LeavesOnly moment left_since old mid P → LeavesOnly moment left_since mid new (λ d. d ≡ contents mid) → LeavesOnly moment left_since old new P
  idles {old} {mid} {new} {P} so_far call = goes_on so_far call (λ d left same. subst P (sym same) (ends clocked so_far (clocked.told new (moment mid) d left)))

-- of what holds a rig
pub through : {R S I : Type 0} {moment : R → ℕ} {left_since : R → ℕ → I → Type 0} {P : I → Type 0} (rig : S → R) (old new : S) → LeavesOnly moment left_since (rig old) (rig new) P
    → LeavesOnly (λ s. moment (rig s)) (λ s. left_since (rig s)) old new P
through rig old new run = record { later = run.later; each = run.each; before = run.before; keeps = run.keeps; wider = run.wider }
