use Rattle.std.proofs.Common.{rules, arith, ◌≡◌, ◌+◌, ◌-◌, ◌*◌, ◌/◌, get_or, length, sym, ap, ◌∙◌}
use Rattle.std.specs.Int.{bit_at}
use Rattle.index_sets.specs.Bits.{bit, bits_of}
use Rattle.index_sets.proofs.BitCounts.{among, among_most, one_word_more, first_word_rest, bits_past, bits_all}
use Rattle.index_sets.proofs.words.count_from.Goals as goal

pub returns-then-first-words : goal.returns-then-first-words
returns-then-first-words c = sym (bits_past c.args.words.now c.args.from (omega arith))

pub loop-at-init : goal.loop-at-init
loop-at-init c =
    let word : c.word_at.result ≡ get_or c.args.words.now (c.args.from / 64) 0 = search rules in
    c.count_bits-total.ensures ∙ first_word_rest c.args.words.now c.args.from c.without_bits_below-rest.result (record {
      above = λ k low lt. c.without_bits_below-rest.ensures.from k low lt ∙ ap (λ w. bit_at w k) word;
      below = c.without_bits_below-rest.ensures.below;
    })

pub overflow_add-total : goal.overflow_add-total
overflow_add-total c =
    let is : c.loop-at.total ≡ among (bit c.args.words.now) c.args.from (64 * c.loop-at.at - c.args.from) = c.loop-at.invariant in
    let most = among_most (bit c.args.words.now) c.args.from (64 * c.loop-at.at - c.args.from) in
    omega arith

pub loop-at-preserved : goal.loop-at-preserved
loop-at-preserved c =
    let is : c.loop-at.total ≡ among (bit c.args.words.now) c.args.from (64 * c.loop-at.at - c.args.from) = c.loop-at.invariant in
    let word : c.count_bits.result ≡ bits_of (get_or c.args.words.now c.loop-at.at 0) = c.count_bits.ensures ∙ ap bits_of c.word_at-in-loop-at.ensures in
    let start = c.loop-at.auto.at in
    (λ z. is z + word z) ∙ sym (one_word_more c.args.words.now c.args.from c.loop-at.at (omega arith))

pub returns : goal.returns
returns c =
    let is : c.loop-at.total ≡ among (bit c.args.words.now) c.args.from (64 * c.loop-at.at - c.args.from) = c.loop-at.invariant in
    let end : c.loop-at.at ≡ length c.args.words.now = omega (arith, c.loop-at.auto.at-end) in
    bits_all c.args.words.now c.args.from c.loop-at.total (is ∙ ap (λ at. among (bit c.args.words.now) c.args.from (64 * at - c.args.from)) end)
