use Rattle.std.proofs.Common.{◌≤◌, ◌-◌, ◌∙◌, ap, sym, subst, ℕ, List, length}
use Rattle.std.specs.List.Sorted.{IsStrictlyIncreasing}
use Rattle.presto_cache.specs.Order.{listed, IsOrderOf}
use Rattle.presto_cache.specs.Spare.{IsSpareOf}
use Rattle.presto_cache.specs.declared.slot.Slot.{Slot}
use Rattle.presto_cache.proofs.Listing.{indices_in}
use Rattle.presto_cache.proofs.Making.{same_board, made_are, made_below, made_of, made_sure}
use Rattle.presto_cache.proofs.cache.Cache.new.Goals as goal

pub invariant_of-result : goal.invariant_of-result
invariant_of-result c =
    let slots = c.in_ok-slots.slots.items in
    let made = same_board slots c.list.ensures c.in_ok-slots.ensures.each in
    record {
      are = made_are c.requires.board slots made c.in_ok-slots.ensures.count c.requires.few c.in_ok-slots.ensures.sectors;
      ordered = subst (λ (l : List Slot). IsOrderOf l (listed c.in_ok-order.order)) c.deref.ensures.value c.in_ok-order.ensures.order;
      room = c.in_ok-order.ensures.room ∙ ap length c.deref.ensures.value;
      unused = subst (λ (l : List Slot). IsSpareOf c.args.buffers l c.in_ok-spare.spare) c.deref-2.ensures.value c.in_ok-spare.ensures;
    }

pub returns-clause-order : goal.returns-clause-order
returns-clause-order c = subst (λ (l : List ℕ). IsStrictlyIncreasing l) (sym (indices_in c.in_ok-slots.slots.items (listed c.in_ok-order.order))) c.in_ok-order.ensures.rising

pub returns-clause-suits : goal.returns-clause-suits
returns-clause-suits c =
    let slots = c.in_ok-slots.slots.items in
    let made = same_board slots c.list.ensures c.in_ok-slots.ensures.each in
    λ sizes same fit. record { buffers = same; below = made_below c.requires.board slots made sizes.sectors fit.on_disk }

pub returns-clause-is : goal.returns-clause-is
returns-clause-is c =
    let slots = c.in_ok-slots.slots.items in
    let made = same_board slots c.list.ensures c.in_ok-slots.ensures.each in
    λ sizes d same read. made_of (subst (λ (n : ℕ). n ≤ 2048) same c.requires.few) read slots made (c.in_ok-slots.ensures.count ∙ ap (λ n. n - 1) same)

pub returns-clause-sure : goal.returns-clause-sure
returns-clause-sure c = made_sure c.args.board.now.entries c.in_ok-slots.slots.items (same_board c.in_ok-slots.slots.items c.list.ensures c.in_ok-slots.ensures.each)
