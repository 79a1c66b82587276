use Rattle.std.proofs.Common.{arith, false, sym, ap, ◌∙◌, get_or-set_other}
use Rattle.index_sets.specs.Free.{is_free}
use Rattle.index_sets.proofs.SetBits.{free_is}
use Rattle.index_sets.proofs.free_set.FreeSet.take_lowest.Goals as goal

pub invariant_of-self : goal.invariant_of-self
invariant_of-self c = record {
  small = c.self-in-Some.invariant.small;
  words = c.self-in-Some.invariant.words;
  within = c.self-in-Some.invariant.within;
  count = c.self-in-Some.invariant.count;
  lowest = λ i lt.
      sym (free_is c.self-in-Some.inside.words.items c.self-in-Some.inside.size i c.self-in-Some.invariant.within) ∙ ap (λ free. is_free free i) (c.self-in-Some.view_is ∙ c.take.ensures)
      ∙ get_or-set_other c.args.self.now c.in-Some.number i false false (λ e. omega arith) ∙ c.in-Some.ensures.2 i (omega arith) (omega arith);
}

pub invariant_of-self-in-None : goal.invariant_of-self-in-None
invariant_of-self-in-None c = record {
  small = c.self.invariant.small;
  words = c.self.invariant.words;
  within = c.self.invariant.within;
  count = c.self.invariant.count;
  lowest = λ i lt. sym (free_is c.self.inside.words.items c.self.inside.size i c.self.invariant.within) ∙ ap (λ free. is_free free i) c.self.view_is ∙ c.in-None.ensures i (omega arith);
}
