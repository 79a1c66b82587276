use Rattle.std.proofs.Common.{arith, ◌∙◌, ◌==◌, ◌&&◌, ◌||◌, ltb, sym}
use Rattle.v7_damage.specs.Stored.{body_at}
use Rattle.v7_damage.proofs.Summing.{past_none, past_more}
use Rattle.v7_damage.proofs.tidy.none_past_first.Goals as goal

pub loop-index-init : goal.loop-index-init
loop-index-init c = past_none (body_at c.args.places.now) c.args.size

pub loop-index-preserved : goal.loop-index-preserved
loop-index-preserved c =
    let block = c.body_block.ensures (omega arith) in
    c.both-none.ensures ∙ (λ z. c.loop-index.invariant z && (c.either-fits.ensures ∙ (λ y. ltb c.loop-index.index (c.sectors_of-sectors.ensures y) || (block y == 0))) z)
    ∙ sym (past_more (body_at c.args.places.now) c.args.size c.loop-index.index)
