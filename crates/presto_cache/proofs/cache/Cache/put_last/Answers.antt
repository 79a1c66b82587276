use Rattle.std.proofs.Common.{◌∙◌, sym, ap, subst, ℕ, List, refl}
use Rattle.presto_cache.specs.Order.{listed, IsOrderOf}
use Rattle.presto_cache.specs.Entries.{entries_in}
use Rattle.presto_cache.proofs.Listing.{moved_ordered, moved_in}
use Rattle.presto_cache.proofs.cache.Cache.put_last.Goals as goal

pub invariant_of-self : goal.invariant_of-self
invariant_of-self c =
    let self = c.args.self.now in
    record {
      are = self.are;
      ordered = subst (λ (l : List ℕ). IsOrderOf self.slots.items l) (sym c.put_last.ensures.last) (moved_ordered self.slots.items (listed self.order) c.args.index c.requires.dirty self.ordered);
      room = c.put_last.ensures.room ∙ self.room;
      unused = self.unused;
    }

pub returns : goal.returns
returns c =
    let self = c.args.self.now in
    record {
      slots = refl;
      entries = ap (entries_in self.slots.items) c.put_last.ensures.last ∙ moved_in self.slots.items (listed self.order) c.args.index;
      buffers = refl;
    }
