use Rattle.std.proofs.Common.{sym, subst}
use Rattle.plan_file.specs.Set.{AreSetPuts, kept, shorter}
use Rattle.plan_file.proofs.set_plan.put_set.Goals as goal

pub returns-then-attr-found-clause-done : goal.returns-then-attr-found-clause-done
returns-then-attr-found-clause-done g c = λ tells. shorter c.in_ok-freed.freed.items c.if-attr-found.true (c.in_ok-freed.ensures.added tells)

pub returns-clause-done : goal.returns-clause-done
returns-clause-done g c = λ tells.
    subst (AreSetPuts (g.S.Stable.image c.args.store.now) c.args.ino c.args.found.now c.args.attr.now c.add_kept.new.plan.puts) (sym c.new-freed.ensures) (kept c.if-attr-found.false (c.in_ok-add_kept.ensures.added tells))
