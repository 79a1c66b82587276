use Rattle.std.proofs.Common.{◌≡◌, arith, sym, ◌∙◌, ap, Some, List}
use Rattle.presto_cache.specs.Slots.{find_in}
use Rattle.presto_cache.specs.declared.slot.Slot.{Slot}
use Rattle.presto_cache.proofs.Places.{entry_found}
use Rattle.presto_cache.proofs.cache.Cache.find.Goals as goal

pub overflow_cast-result : goal.overflow_cast-result
overflow_cast-result c =
    let e : find_in c.args.self.now.slots.items c.args.sector ≡ Some c.in-Some.index = ap (λ (l : List Slot). find_in l c.args.sector) (sym c.deref.ensures.value) ∙ sym c.in-Some.ensures in
    let there = entry_found c.args.self.now.slots.items c.args.sector c.in-Some.index e in
    omega (arith, there.0, c.args.self.now.are.count, c.args.self.now.are.few)
