use Rattle.std.proofs.Common.{false, ◌≡◌, ◌∙◌, sym, ap, subst, ℕ, Bool, List, suc, take, ◌+◌, arith}
use Rattle.std.specs.List.Sorted.{IsStrictlyIncreasing}
use Rattle.presto_cache.specs.Slots.{at, is_dirty}
use Rattle.presto_cache.specs.Order.{listed, IsOrderOf, followed}
use Rattle.presto_cache.proofs.Listing.{looked, looked_new}
use Rattle.presto_cache.proofs.order.Order.by_index.Goals as goal

pub follow-requires-clause-other : goal.follow-requires-clause-other
follow-requires-clause-other c =
    let l = c.loop-index in
    λ was. looked_new c.args.slots.now l.index (listed l.order) (omega arith) l.invariant.0 l.invariant.1

pub loop-index-preserved : goal.loop-index-preserved
loop-index-preserved c =
    let l = c.loop-index in
    let slots = c.args.slots.now in
    let now_is : listed c.follow.new.self ≡ followed false (is_dirty (at slots l.index)) l.index (listed l.order) = c.follow.ensures.listed ∙ ap (λ (b : Bool). followed false b l.index (listed l.order)) (c.is_taken.ensures ∙ ap is_dirty c.slot_at.ensures) in
    let more = looked slots l.index (listed l.order) (omega arith) l.invariant.0 l.invariant.1 in
    let next : suc l.index ≡ l.index + 1 = omega arith in (
      subst (λ (xs : List ℕ). IsOrderOf (take (l.index + 1) slots) xs) (sym now_is) (subst (λ (n : ℕ). IsOrderOf (take n slots) (followed false (is_dirty (at slots l.index)) l.index (listed l.order))) next more.0),
      subst (λ (xs : List ℕ). IsStrictlyIncreasing xs) (sym now_is) more.1,
      c.follow.ensures.room ∙ l.invariant.2,
    )
