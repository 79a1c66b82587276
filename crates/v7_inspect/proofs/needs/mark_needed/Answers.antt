use Rattle.std.proofs.Common.{arith, ◌≡◌, ◌∙◌, ◌==◌, ◌&&◌, ◌||◌, not, leb, sym, ap}
use Rattle.v7_damage.specs.Marks.{mark_at}
use Rattle.v7_damage.specs.Stored.{body_at}
use Rattle.v7_damage.proofs.Ranges.{any_more, or_more}
use Rattle.v7_inspect.proofs.needs.mark_needed.Goals as goal

pub loop-index-preserved : goal.loop-index-preserved
loop-index-preserved c =
    let i = c.loop-index.invariant in
    let t = c.loop-index-test.true in
    let m = c.min-sectors.ensures in
    let at : c.body_block-block.result ≡ body_at c.args.places.now c.loop-index.index = c.body_block-block.ensures (omega arith) in
    let held : not (c.body_block-block.result == 0) ≡ not (body_at c.args.places.now c.loop-index.index == 0) = ap (λ b. not (b == 0)) at in
    record {
      any_far = c.is_far-far.ensures ∙ (λ z. i.any_far z || (leb 10 c.loop-index.index && held z)) ∙ sym (any_more (λ k. leb 10 k && not (body_at c.args.places.now k == 0)) c.loop-index.index);
      marks = λ b some lt.
          let long = i.long in
          c.mark_if.ensures.marks b (omega arith)
          ∙ (λ z. i.marks b some lt z || (at z == b))
          ∙ sym (or_more (mark_at c.args.needed.now b) _ (body_at c.args.places.now c.loop-index.index == b))
          ∙ ap (λ x. mark_at c.args.needed.now b || x) (sym (any_more (λ k. body_at c.args.places.now k == b) c.loop-index.index));
      long = c.mark_if.ensures.length ∙ i.long;
    }
