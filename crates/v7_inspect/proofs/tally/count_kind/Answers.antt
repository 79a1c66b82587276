use Rattle.std.proofs.Common.{rules, arith, ◌∙◌, sym}
use Rattle.v7_inspect.specs.SeenNumbers.{is_counted}
use Rattle.v7_inspect.proofs.Tallies.{counted_yes, counted_no}
use Rattle.v7_inspect.proofs.tally.count_kind.Goals as goal
use Rattle.v7_inspect.proofs.tally.count_kind.Goals.{then-is_counted, else-is_counted}

pub loop-index-preserved : goal.loop-index-preserved
loop-index-preserved c =
    let i = c.loop-index.invariant in
    elim c.if-is_counted.branch [
      | then-is_counted w ↦
          let yes = counted_yes (is_counted c.args.kind c.args.known.now) c.loop-index.index c.loop-index.auto.index (sym c.is_counted.ensures ∙ search rules) in
          record { counted = (let was = i.counted in omega arith); few = (let was = i.few in let low = c.loop-index.auto.index in omega arith) }
      | else-is_counted w ↦
          let none = counted_no (is_counted c.args.kind c.args.known.now) c.loop-index.index c.loop-index.auto.index (sym c.is_counted.ensures ∙ search rules) in
          record { counted = (let was = i.counted in omega arith); few = (let was = i.few in let low = c.loop-index.auto.index in omega arith) }
    ]
