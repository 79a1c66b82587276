use Rattle.std.proofs.Common.{rules, arith, ◌≡◌, ℕ, get_or, sym, subst, ◌∙◌, true, false}
use Rattle.plan_file.specs.Shorter.{is_dropped, AreDropped}
use Rattle.plan_file.proofs.Dropping.{dropped-none, dropped-same, dropped-more}
use Rattle.plan_file.proofs.shorter.dropped.Goals as goal

pub loop-index-init : goal.loop-index-init
loop-index-init c = record {
  dropped = dropped-none c.args.old.now c.args.new.now c.dropped_single-blocks.result.items c.dropped_single-blocks.ensures.items;
  few = let f = c.dropped_single-blocks.ensures.few in omega arith;
}

pub loop-index-preserved-then-not-is_dropped : goal.loop-index-preserved-then-not-is_dropped
loop-index-preserved-then-not-is_dropped c =
    let i = c.loop-index.invariant in
    let few = i.few in
    let none : is_dropped (get_or c.args.old.now.body c.loop-index.index 0) (get_or c.args.new.now.body c.loop-index.index 0) ≡ false = sym c.is_dropped.ensures ∙ search rules in record {
      dropped = dropped-same c.args.old.now c.args.new.now c.loop-index.index c.loop-index.blocks.items i.dropped none;
      few = omega arith;
    }

pub loop-index-preserved : goal.loop-index-preserved
loop-index-preserved c =
    let i = c.loop-index.invariant in
    let few = i.few in let len = c.push.ensures.len in
    let some : is_dropped (get_or c.args.old.now.body c.loop-index.index 0) (get_or c.args.new.now.body c.loop-index.index 0) ≡ true = sym c.is_dropped.ensures ∙ search rules in record {
      dropped = dropped-more c.args.old.now c.args.new.now c.loop-index.index c.loop-index.blocks.items i.dropped some _ c.push.ensures.items;
      few = omega arith;
    }

pub returns : goal.returns
returns c =
    let over = c.loop-index-test.false in let to = c.loop-index.auto.index-end in
    let end : c.loop-index.index ≡ 138 = omega arith in
    subst (λ (i : ℕ). AreDropped c.args.old.now c.args.new.now i c.loop-index.blocks.items) end c.loop-index.invariant.dropped
