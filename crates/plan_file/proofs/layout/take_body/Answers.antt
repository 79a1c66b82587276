use Rattle.std.proofs.Common.{rules, arith, ◌≡◌, ◌+◌, ℕ, sym, subst, ◌∙◌, true, false}
use Rattle.plan_file.specs.Layout.{is_new}
use Rattle.plan_file.specs.Started.{AreTaken}
use Rattle.plan_file.proofs.Placing.{taken-none, taken-same, taken-more}
use Rattle.plan_file.proofs.layout.take_body.Goals as goal

pub loop-index-init : goal.loop-index-init
loop-index-init c = record { taken = taken-none c.args.blocks.now c.args.body.now c.args.held.now c.args.target.now }

pub loop-index-preserved-then-not-takes_block : goal.loop-index-preserved-then-not-takes_block
loop-index-preserved-then-not-takes_block c =
    let none : is_new c.args.body.now c.args.held.now c.loop-index.index ≡ false = sym c.takes_block.ensures ∙ search rules in
    record { taken = taken-same c.args.blocks.now c.args.body.now c.args.held.now c.args.target.now c.loop-index.index c.loop-index.blocks c.loop-index.invariant.taken none }

pub loop-index-preserved : goal.loop-index-preserved
loop-index-preserved c =
    let new : is_new c.args.body.now c.args.held.now c.loop-index.index ≡ true = sym c.takes_block.ensures ∙ search rules in
    record {
      taken = subst (AreTaken c.args.blocks.now c.args.body.now c.args.held.now c.args.target.now (c.loop-index.index + 1)) (sym c.take.ensures)
          (taken-more c.args.blocks.now c.args.body.now c.args.held.now c.args.target.now c.loop-index.index c.loop-index.blocks c.loop-index.invariant.taken new);
    }

pub returns : goal.returns
returns c =
    let over = c.loop-index-test.false in let to = c.loop-index.auto.index-end in
    let end : c.loop-index.index ≡ 138 = omega arith in
    subst (λ (i : ℕ). AreTaken c.args.blocks.now c.args.body.now c.args.held.now c.args.target.now i c.loop-index.blocks) end c.loop-index.invariant.taken
