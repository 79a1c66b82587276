use Rattle.std.proofs.Common.{arith, ◌∙◌, ◌==◌, ◌||◌, not, sym}
use Rattle.v7_damage.specs.Stored.{body_at}
use Rattle.v7_damage.proofs.Summing.{listed_none, listed_more}
use Rattle.v7_damage.proofs.tidy.some_listed.Goals as goal

pub loop-index-init : goal.loop-index-init
loop-index-init c = listed_none (body_at c.args.places.now)

pub loop-index-preserved : goal.loop-index-preserved
loop-index-preserved c =
    let block = c.body_block.ensures (omega arith) in
    c.either-some.ensures ∙ (λ z. c.loop-index.invariant z || not (block z == 0))
    ∙ sym (listed_more (body_at c.args.places.now) c.loop-index.index)
