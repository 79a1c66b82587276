use Rattle.std.proofs.Common.{subst}
use Rattle.files_model.specs.declared.reply.Reply.TheVariants as reply
use Rattle.stable.specs.Store.{Image}
use Rattle.rename_puts.specs.Renamed.{asked_of}
use Rattle.plan_name.proofs.PlannedCall.{unchanged-call}
use Rattle.plan_rename.specs.Renames.{JudgesRename}
use Rattle.plan_rename.proofs.planning.put_judged.Goals as goal

pub returns-in-Refused-clause-planned : goal.returns-in-Refused-clause-planned
returns-in-Refused-clause-planned g c = λ tells strong are call x.
    let image : Image = g.S.Stable.image c.args.store.now in
    let said = c.refused.ensures in
    unchanged-call image (asked_of call) c.args.now c.args.sets.now c.refused.result (reply.Refused c.in-Refused.status) strong are (subst (JudgesRename image call c.args.now) c.in-Refused.is x) said.plan said.reply said.blocks said.inode

pub returns-in-Unchanged-clause-planned : goal.returns-in-Unchanged-clause-planned
returns-in-Unchanged-clause-planned g c = λ tells strong are call x.
    let image : Image = g.S.Stable.image c.args.store.now in
    let said = c.unchanged.ensures in
    unchanged-call image (asked_of call) c.args.now c.args.sets.now c.unchanged.result reply.Done strong are (subst (JudgesRename image call c.args.now) c.in-Unchanged.is x) said.plan said.reply said.blocks said.inode

pub returns-in-Names-clause-planned : goal.returns-in-Names-clause-planned
returns-in-Names-clause-planned g c = λ tells strong are call x.
    c.put_new_name.ensures.planned tells strong call (subst (JudgesRename (g.S.Stable.image c.args.store.now) call c.args.now) c.in-Names.is x) c.args.sets.now are

pub returns-in-Moves-clause-planned : goal.returns-in-Moves-clause-planned
returns-in-Moves-clause-planned g c = λ tells strong are call x.
    c.put_move.ensures.planned tells strong call (subst (JudgesRename (g.S.Stable.image c.args.store.now) call c.args.now) c.in-Moves.is x) c.args.sets.now are

pub returns-in-Replaces-clause-planned : goal.returns-in-Replaces-clause-planned
returns-in-Replaces-clause-planned g c = λ tells strong are call x.
    let y = subst (JudgesRename (g.S.Stable.image c.args.store.now) call c.args.now) c.in-Replaces.is x in
    c.put_replacement.ensures.planned tells strong call y.0 y.1 c.args.sets.now are

pub returns-in-Lengthens-clause-planned : goal.returns-in-Lengthens-clause-planned
returns-in-Lengthens-clause-planned g c = λ tells strong are call x.
    c.put_longer.ensures.planned tells strong are call (subst (JudgesRename (g.S.Stable.image c.args.store.now) call c.args.now) c.in-Lengthens.is x)
