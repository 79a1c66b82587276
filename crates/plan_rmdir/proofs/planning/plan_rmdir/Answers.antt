use Rattle.std.proofs.Common.{subst}
use Rattle.files_model.specs.declared.call.Call.TheVariants.{Rmdir}
use Rattle.files_model.specs.declared.reply.Reply.TheVariants as reply
use Rattle.files_model.specs.declared.reply.Stat.TheVariants as stat
use Rattle.stable.specs.Store.{Image}
use Rattle.v7_read.specs.Found.{Finds}
use Rattle.plan_name.proofs.PlannedCall.{unchanged-call}
use Rattle.plan_rmdir.proofs.RowAnswers.{none_of, rmdir-stale}
use Rattle.plan_rmdir.proofs.planning.plan_rmdir.Goals as goal

pub returns-in_default-clause-planned : goal.returns-in_default-clause-planned
returns-in_default-clause-planned g c = λ tells strong left are.
    let image : Image = g.S.Stable.image c.args.store.now in
    let said = c.refused.ensures in
    unchanged-call image (Rmdir c.args.dir c.args.name.now, c.args.cred.now) c.args.now left c.refused.result (reply.Refused stat.Stale) strong are
    (rmdir-stale image c.args.dir c.args.name.now c.args.cred.now strong (subst (Finds image c.args.dir) (none_of c.in_ok-found.found c.in_default.not-Some) (c.in_ok-found.ensures.found tells strong)) c.args.now)
    said.plan said.reply said.blocks said.inode
