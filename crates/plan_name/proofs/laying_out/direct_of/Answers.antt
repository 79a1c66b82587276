use Rattle.std.proofs.Common.{arith, ◌<◌, ℕ, ◌∙◌, get_or, length-set}
use Rattle.std.proofs.lemmas.List.{get_or_default}
use Rattle.std.proofs.lemmas.List.Edits.{fill_by_more}
use Rattle.plan_name.proofs.laying_out.direct_of.Goals as goal

pub returns-clause-direct : goal.returns-clause-direct
returns-clause-direct c = λ k lt. let over = c.loop-index-test.false in c.loop-index.invariant.same k (omega arith)

pub returns-clause-fit : goal.returns-clause-fit
returns-clause-fit c k d lt =
    let over = c.loop-index-test.false in
    let long = c.loop-index.invariant.long in
    let same = c.loop-index.invariant.same k (omega arith) in
    let any = get_or_default c.loop-index.direct k d 0 lt in
    let small : get_or c.args.body.now k 0 < 1048576 = c.requires k in
    omega arith

pub loop-index-preserved : goal.loop-index-preserved
loop-index-preserved c =
    let i = c.loop-index.invariant in let long = i.long in let below = c.loop-index-test.true in
    record {
      long = length-set c.loop-index.direct c.loop-index.index (get_or c.args.body.now c.loop-index.index 0) ∙ long;
      same = λ k lt. fill_by_more (λ (q : ℕ). get_or c.args.body.now q 0) c.loop-index.direct c.loop-index.index 0 (omega (arith, long, below)) i.same k lt;
    }
