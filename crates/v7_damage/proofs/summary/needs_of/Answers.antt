use Rattle.std.proofs.Common.{rules, arith, ◌≡◌, ◌+◌, ◌∙◌, ◌==◌, ◌&&◌, ◌||◌, cond, not, leb, sym, ap}
use Rattle.v7_damage.specs.Stored.{body_at}
use Rattle.v7_damage.specs.Summaries.{is_at}
use Rattle.v7_damage.proofs.Ranges.{count_more, any_more}
use Rattle.v7_damage.proofs.summary.needs_of.Goals as goal

pub loop-index-preserved : goal.loop-index-preserved
loop-index-preserved c =
    let i = c.loop-index.invariant in
    let t = c.loop-index-test.true in
    let m = c.min-sectors.ensures in
    let at : c.body_block-held.result ≡ body_at c.args.places.now c.loop-index.index = c.body_block-held.ensures (omega arith) in
    let held : not (c.body_block-held.result == 0) ≡ is_at c.args.places.now c.loop-index.index = ap (λ b. not (b == 0)) at in
    record {
      counted = c.one_more-count.ensures ∙ (λ z. i.counted z + cond (held z) 1 0) ∙ sym (count_more (is_at c.args.places.now) c.loop-index.index);
      any_far = c.is_far-far.ensures ∙ (λ z. i.any_far z || (leb 10 c.loop-index.index && held z)) ∙ sym (any_more (λ k. leb 10 k && is_at c.args.places.now k) c.loop-index.index);
      few = (let e = c.one_more-count.ensures in let was = i.few in search rules);
    }
