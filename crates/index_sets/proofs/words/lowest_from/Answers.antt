use Rattle.std.proofs.Common.{rules, arith, ◌≡◌, ◌≤◌, ◌<◌, ◌*◌, ◌/◌, get_or, sym, ap, ◌∙◌, ⊎_elim}
use Rattle.std.proofs.lemmas.Bool.{cases_lt}
use Rattle.std.specs.Int.{bit_at}
use Rattle.index_sets.proofs.SetBits.{IsRest, bit_past, none_between, lowest_here, lowest_in_rest}
use Rattle.index_sets.proofs.words.lowest_from.Goals as goal

pub returns-then-first-words : goal.returns-then-first-words
returns-then-first-words c = λ i le. bit_past c.args.words.now i (omega arith)

pub returns-then-rest-ne0 : goal.returns-then-rest-ne0
returns-then-rest-ne0 c =
    let word : c.word_at.result ≡ get_or c.args.words.now (c.args.from / 64) 0 = search rules in
    let rest : IsRest c.args.words.now c.args.from c.without_bits_below-rest.result = record {
      above = λ k low lt. c.without_bits_below-rest.ensures.from k low lt ∙ ap (λ w. bit_at w k) word;
      below = c.without_bits_below-rest.ensures.below;
    } in
    lowest_in_rest c.args.words.now c.args.from c.without_bits_below-rest.result c.lowest_bit.result rest c.lowest_bit.ensures.within c.lowest_bit.ensures.here c.lowest_bit.ensures.below

pub returns-then-at-words : goal.returns-then-at-words
returns-then-at-words c = λ i le.
    let word : c.word_at.result ≡ get_or c.args.words.now (c.args.from / 64) 0 = search rules in
    let rest : IsRest c.args.words.now c.args.from c.without_bits_below-rest.result = record {
      above = λ k low lt. c.without_bits_below-rest.ensures.from k low lt ∙ ap (λ w. bit_at w k) word;
      below = c.without_bits_below-rest.ensures.below;
    } in
    let start = c.max.ensures in
    ⊎_elim
    (λ (lt : i < 64 * c.first_word-at.result). none_between c.args.words.now c.args.from c.args.lowest c.first_word-at.result c.without_bits_below-rest.result rest c.if-rest-ne0.false c.requires.lowest
    (λ k low high. c.first_word-at.ensures.zeros k (omega arith) high) i le lt)
    (λ (ge : 64 * c.first_word-at.result ≤ i). bit_past c.args.words.now i (omega (arith, c.if-at-words.true)))
    (cases_lt i (64 * c.first_word-at.result))

pub returns : goal.returns
returns c =
    let word : c.word_at.result ≡ get_or c.args.words.now (c.args.from / 64) 0 = search rules in
    let found : c.word_at-2.result ≡ get_or c.args.words.now c.first_word-at.result 0 = search rules in
    let rest : IsRest c.args.words.now c.args.from c.without_bits_below-rest.result = record {
      above = λ k low lt. c.without_bits_below-rest.ensures.from k low lt ∙ ap (λ w. bit_at w k) word;
      below = c.without_bits_below-rest.ensures.below;
    } in
    let start = c.max.ensures in
    lowest_here c.args.words.now c.args.from c.first_word-at.result c.lowest_bit-2.result c.lowest_bit-2.ensures.within (let from = c.first_word-at.ensures.from c.if-at-words.false in omega arith)
    (none_between c.args.words.now c.args.from c.args.lowest c.first_word-at.result c.without_bits_below-rest.result rest c.if-rest-ne0.false c.requires.lowest
    (λ k low high. c.first_word-at.ensures.zeros k (omega arith) high))
    (sym (ap (λ w. bit_at w c.lowest_bit-2.result) found) ∙ c.lowest_bit-2.ensures.here)
    (λ k low high. sym (ap (λ w. bit_at w k) found) ∙ c.lowest_bit-2.ensures.below k low)
