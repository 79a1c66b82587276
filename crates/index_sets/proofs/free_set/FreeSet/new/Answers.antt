use Rattle.std.proofs.Common.{rules, arith, ◌≡◌, ◌+◌, ◌/◌, ℕ, false, sym, ap, ◌∙◌, replicate, length}
use Rattle.std.proofs.lemmas.List.{length-replicate}
use Rattle.index_sets.specs.Free.{count_free}
use Rattle.index_sets.specs.Bits.{bit}
use Rattle.index_sets.proofs.SetBits.{bit-zeros, free-none, count-none}
use Rattle.index_sets.proofs.free_set.FreeSet.new.Goals as goal

pub invariant_of-result : goal.invariant_of-result
invariant_of-result c =
    let zero : c.in_ok-words.words.items ≡ replicate ((c.args.size + 63) / 64) 0 = search rules in
    let none : (i : ℕ) → bit c.in_ok-words.words.items i ≡ false = λ i. ap (λ w. bit w i) zero ∙ bit-zeros ((c.args.size + 63) / 64) i in
    record {
      small = omega arith;
      words = ap length zero ∙ length-replicate ((c.args.size + 63) / 64) 0;
      within = λ i le. none i;
      count = sym (ap count_free (free-none c.in_ok-words.words.items c.args.size none) ∙ count-none c.args.size);
      lowest = λ i lt. none i;
    }

pub returns : goal.returns
returns c =
    let zero : c.in_ok-words.words.items ≡ replicate ((c.args.size + 63) / 64) 0 = search rules in
    free-none c.in_ok-words.words.items c.args.size (λ i. ap (λ w. bit w i) zero ∙ bit-zeros ((c.args.size + 63) / 64) i)
