use Rattle.std.proofs.Common.{arith, ◌≡◌, ◌∙◌, ◌+◌, ◌==◌, ◌&&◌, ◌||◌, ltb, sym, ap}
use Rattle.v7_damage.specs.Stored.{body_at}
use Rattle.v7_damage.specs.Summaries.{none_past}
use Rattle.v7_damage.proofs.Summing.{past_more}
use Rattle.v7_damage.proofs.tidy.none_past.Goals as goal

pub loop-index-init : goal.loop-index-init
loop-index-init c = c.none_past_first-none.ensures

pub loop-index-preserved : goal.loop-index-preserved
loop-index-preserved c =
    let block = c.body_block.ensures (omega arith) in
    let next : c.loop-index.index + 10 + 1 ≡ c.loop-index.index + 1 + 10 = omega arith in
    c.both-none.ensures ∙ (λ z. c.loop-index.invariant z && (c.either-fits.ensures ∙ (λ y. ltb (c.loop-index.index + 10) (c.sectors_of-sectors.ensures y) || (block y == 0))) z)
    ∙ sym (past_more (body_at c.args.places.now) c.args.size (c.loop-index.index + 10)) ∙ ap (none_past (body_at c.args.places.now) c.args.size) next

pub returns : goal.returns
returns c =
    let end : c.loop-index.index + 10 ≡ 138 = omega arith in
    c.loop-index.invariant ∙ ap (none_past (body_at c.args.places.now) c.args.size) end
