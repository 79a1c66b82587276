use Rattle.std.proofs.Common.{rules, arith, ◌≡◌, length-set, sym, ◌∙◌, true, false}
use Rattle.plan_file.specs.Layout.{is_new}
use Rattle.plan_file.proofs.Placing.{placed-same, placed-new, room-new, placed-none, new_some}
use Rattle.plan_file.proofs.layout.place_body.Goals as goal

pub loop-index-init : goal.loop-index-init
loop-index-init c = record {
  placed = placed-none c.args.blocks.now c.args.body.now c.args.held.now;
  small = omega arith;
  long = c.told-body;
}

pub loop-index-preserved-then-not-takes_block : goal.loop-index-preserved-then-not-takes_block
loop-index-preserved-then-not-takes_block c =
    let i = c.loop-index.invariant in
    let below = c.loop-index-test.true in let held = c.told-held in
    let none : is_new c.args.body.now c.args.held.now c.loop-index.index ≡ false = sym c.takes_block.ensures ∙ search rules in
    record {
      placed = placed-same c.args.blocks.now c.args.body.now c.args.held.now c.loop-index.placed c.loop-index.index c.loop-index.from i.placed (omega arith) none;
      small = i.small;
      long = i.long;
    }

pub next_block-number-requires : goal.next_block-number-requires
next_block-number-requires c =
    let i = c.loop-index.invariant in
    let below = c.loop-index-test.true in let held = c.told-held in
    let new : is_new c.args.body.now c.args.held.now c.loop-index.index ≡ true = sym c.takes_block.ensures ∙ search rules in
    room-new c.args.blocks.now c.args.body.now c.args.held.now c.loop-index.placed c.loop-index.index c.loop-index.from i.placed (omega arith) new c.requires.room

pub overflow_add-from : goal.overflow_add-from
overflow_add-from c =
    let below = c.loop-index-test.true in let held = c.told-held in
    let new : is_new c.args.body.now c.args.held.now c.loop-index.index ≡ true = sym c.takes_block.ensures ∙ search rules in
    let n = c.requires.small (new_some c.args.body.now c.args.held.now c.loop-index.index (omega arith) new) c.next_block-number.result c.next_block-number.ensures.there in omega arith

pub loop-index-preserved : goal.loop-index-preserved
loop-index-preserved c =
    let i = c.loop-index.invariant in
    let below = c.loop-index-test.true in let held = c.told-held in let long = i.long in
    let new : is_new c.args.body.now c.args.held.now c.loop-index.index ≡ true = sym c.takes_block.ensures ∙ search rules in
    let n = c.next_block-number.ensures in
    let small = c.requires.small (new_some c.args.body.now c.args.held.now c.loop-index.index (omega arith) new) c.next_block-number.result n.there in
    record {
      placed = placed-new c.args.blocks.now c.args.body.now c.args.held.now c.loop-index.placed c.loop-index.index c.loop-index.from i.placed (omega arith) (omega arith) new c.next_block-number.result n.low n.there n.next;
      small = omega arith;
      long = length-set c.loop-index.placed c.loop-index.index c.next_block-number.result ∙ i.long;
    }
