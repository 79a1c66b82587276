use Rattle.std.proofs.Common.{refl, subst, None}
use Rattle.files_model.specs.declared.attributes.Sattr.{Sattr}
use Rattle.stable.specs.Store.{Image}
use Rattle.plan_file.specs.Set.{IsPlannedSet}
use Rattle.plan_name.proofs.StandingPlan.{standing-planned}
use Rattle.plan_name.proofs.standing.plan_standing.Goals as goal

pub returns-clause-planned : goal.returns-clause-planned
returns-clause-planned g c = λ tells strong dir name wanted d k n x handle sized left are.
    let S = g.S.Stable in
    let image : Image = S.image c.args.store.now in
    standing-planned image dir name wanted c.args.cred.now c.args.now d k n c.args.file c.args.size strong x handle sized left are
    record { plan = c.in_ok-planned.planned.plan; reply = c.with_handle.result; freed = record { blocks = c.in_ok-planned.planned.freed; inode = None } } c.in_ok-planned.planned.reply c.with_handle.ensures refl
    (subst (λ (s : Sattr). IsPlannedSet image c.args.file s c.args.cred.now c.args.now c.in_ok-planned.planned.plan.puts c.in_ok-planned.planned.reply c.in_ok-planned.planned.freed.items) c.size_alone-set.ensures (c.in_ok-planned.ensures.planned tells strong))
