use Rattle.std.proofs.Common.{arith, drop, ap, ◌∙◌}
use Rattle.std.proofs.lemmas.List.{length-drop}
use Rattle.std.proofs.lemmas.List.Sums.{count_by-le-length}
use Rattle.index_sets.specs.Free.{count_free}
use Rattle.index_sets.specs.Bits.{bits_from, free_in}
use Rattle.index_sets.proofs.SetBits.{length-free}
use Rattle.index_sets.proofs.BitCounts.{bits-free}
use Rattle.index_sets.proofs.free_set.FreeSet.count_from.Goals as goal

pub count_from-requires : goal.count_from-requires
count_from-requires c = let words = c.self.invariant.words in let small = c.self.invariant.small in omega arith

pub overflow_cast-result : goal.overflow_cast-result
overflow_cast-result c =
    let is = c.count_from.ensures ∙ ap (λ words. bits_from words c.args.from) c.as_slice.ensures.value ∙ bits-free c.self.inside.words.items c.self.inside.size c.args.from c.self.invariant.words c.self.invariant.within in
    let most = count_by-le-length (λ b. b) (drop c.args.from (free_in c.self.inside.words.items c.self.inside.size)) in
    let len = length-drop c.args.from (free_in c.self.inside.words.items c.self.inside.size) in
    let size = length-free c.self.inside.words.items c.self.inside.size in
    let small = c.self.invariant.small in
    omega arith

pub returns : goal.returns
returns c = c.count_from.ensures ∙ ap (λ words. bits_from words c.args.from) c.as_slice.ensures.value ∙ bits-free c.self.inside.words.items c.self.inside.size c.args.from c.self.invariant.words c.self.invariant.within
    ∙ ap (λ free. count_free (drop c.args.from free)) c.self.view_is
