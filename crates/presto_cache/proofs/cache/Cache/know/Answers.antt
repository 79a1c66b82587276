use Rattle.std.proofs.Common.{sym, ap, ◌∙◌, subst, ℕ, List, set, refl}
use Rattle.std.proofs.lemmas.List.{length-set}
use Rattle.presto_cache.specs.Slots.{at}
use Rattle.presto_cache.specs.Order.{listed, IsOrderOf}
use Rattle.presto_cache.specs.Entries.{entries_in}
use Rattle.presto_cache.specs.declared.slot.Slot.{Slot}
use Rattle.presto_cache.proofs.Slots.{taken_at}
use Rattle.presto_cache.proofs.Knowing.{followed_at}
use Rattle.presto_cache.proofs.Listing.{not_listed, still_ordered, entries_changed}
use Rattle.presto_cache.proofs.Sparing.{spare_after}
use Rattle.presto_cache.proofs.cache.Cache.know.Goals as goal

pub follow-requires-clause-other : goal.follow-requires-clause-other
follow-requires-clause-other c =
    let self = c.args.self.now in
    let was_is = taken_at c.args.index c.deref.ensures.value c.slot_at-was.ensures c.is_taken.ensures in
    λ was. not_listed self.slots.items (listed self.order) c.args.index (sym was_is ∙ was) self.ordered

pub invariant_of-self : goal.invariant_of-self
invariant_of-self c =
    let self = c.args.self.now in
    let i = c.args.index in
    let now_is = followed_at i (listed self.order) c.follow.ensures.listed (taken_at i c.deref.ensures.value c.slot_at-was.ensures c.is_taken.ensures) c.is_taken-2.ensures in
    record {
      are = c.requires.slots;
      ordered = subst (λ (l : List ℕ). IsOrderOf (set self.slots.items i c.args.slot) l) (sym now_is) (still_ordered self.slots.items (listed self.order) i c.args.slot c.requires.index self.ordered);
      room = c.follow.ensures.room ∙ self.room ∙ sym (length-set self.slots.items i c.args.slot);
      unused = spare_after c.args.slot self.unused self.are c.requires.index (c.slot_at-was.ensures ∙ ap (λ (l : List Slot). at l i) c.deref.ensures.value) c.follow-2.ensures.buffers c.follow-2.ensures.entries;
    }

pub returns-clause-is : goal.returns-clause-is
returns-clause-is c =
    let self = c.args.self.now in
    let i = c.args.index in
    let now_is = followed_at i (listed self.order) c.follow.ensures.listed (taken_at i c.deref.ensures.value c.slot_at-was.ensures c.is_taken.ensures) c.is_taken-2.ensures in
    record {
      slots = refl;
      entries = ap (entries_in (set self.slots.items i c.args.slot)) now_is ∙ entries_changed self.slots.items (listed self.order) i c.args.slot c.requires.index self.ordered;
    }
