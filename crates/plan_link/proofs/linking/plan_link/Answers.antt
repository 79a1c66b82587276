use Rattle.std.proofs.Common.{◌≡◌, sym, subst}
use Rattle.files_model.specs.declared.attributes.FileId.{FileId}
use Rattle.files_model.specs.declared.call.Call.TheVariants.{Link}
use Rattle.files_model.specs.declared.reply.Reply.TheVariants as reply
use Rattle.files_model.specs.declared.reply.Stat.TheVariants as stat
use Rattle.stable.specs.Store.{Image}
use Rattle.plan_name.specs.Planned.{IsPlannedCall}
use Rattle.plan_name.proofs.PlannedCall.{unchanged-call}
use Rattle.plan_link.specs.Judging.{FindsEnds, JudgesLink}
use Rattle.plan_link.proofs.linking.plan_link.Goals as goal

pub returns-in_default-clause-planned : goal.returns-in_default-clause-planned
returns-in_default-clause-planned g c = λ tells strong are.
    let image : Image = g.S.Stable.image c.args.store.now in
    let said = c.refused.ensures in
    unchanged-call image (Link c.args.file c.args.dir c.args.name.now, c.args.cred.now) c.args.now c.args.sets.now c.refused.result (reply.Refused stat.Stale) strong are
    (subst (FindsEnds image c.args.file c.args.dir) c.in_default.is (c.in_ok-ends.ensures.found tells strong) c.args.name.now c.args.cred.now c.args.now)
    said.plan said.reply said.blocks said.inode
