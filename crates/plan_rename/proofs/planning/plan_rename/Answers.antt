use Rattle.std.proofs.Common.{◌≡◌, None, IfOk, sym, subst, ◌∙◌}
use Rattle.files_model.specs.declared.call.Call.TheVariants.{Rename}
use Rattle.files_model.specs.declared.reply.Reply.TheVariants as reply
use Rattle.files_model.specs.declared.reply.Stat.TheVariants as stat
use Rattle.stable.specs.Store.{Image}
use Rattle.v7_map.specs.Frame.{frame}
use Rattle.v7_map.specs.Weak.{IsStrong}
use Rattle.v7_read.specs.Found.{Finds, IsFile}
use Rattle.v7_sets.specs.Sets.{AreSetsOf}
use Rattle.plan_name.specs.Planned.{IsPlannedCall}
use Rattle.plan_name.proofs.PlannedCall.{unchanged-call}
use Rattle.plan_name.proofs.RemovingJudged.{none_of}
use Rattle.rename_puts.specs.Renamed.{Renaming, asked_of}
use Rattle.plan_rename.specs.Found.{AreFound}
use Rattle.plan_rename.specs.Renames.{JudgesRename}
use Rattle.plan_rename.proofs.Planned.{stale-from, stale-to}
use Rattle.plan_rename.proofs.planning.plan_rename.Goals as goal

pub returns-in_default-clause-planned : goal.returns-in_default-clause-planned
returns-in_default-clause-planned g c = λ tells strong are.
    let image : Image = g.S.Stable.image c.args.store.now in
    let said = c.refused.ensures in
    let call : Renaming = record { from = c.args.from; name = c.args.name.now; to = c.args.to; new_name = c.args.new_name.now; cred = c.args.cred.now } in
    unchanged-call image (asked_of call) c.args.now c.args.sets.now c.refused.result (reply.Refused stat.Stale) strong are
    (stale-from image call c.args.now strong (subst (Finds image c.args.from) (none_of c.in_ok-from_found.field-0 c.in_default.not-Some) (c.in_ok-from_found.ensures.found tells strong)))
    said.plan said.reply said.blocks said.inode

pub returns-in_default-2-clause-planned : goal.returns-in_default-2-clause-planned
returns-in_default-2-clause-planned g c = λ tells strong are.
    let S = g.S.Stable in
    let image : Image = S.image c.args.store.now in
    let said = c.refused-in_default-2.ensures in
    let call : Renaming = record { from = c.args.from; name = c.args.name.now; to = c.args.to; new_name = c.args.new_name.now; cred = c.args.cred.now } in
    let first : S.image c.find.new.store ≡ image = c.in_ok-from_found.ensures.looked.image in
    let from : IsFile image c.args.from c.in-Some.from_found = subst (Finds image c.args.from) c.in-Some.is (c.in_ok-from_found.ensures.found tells strong) in
    let none : Finds image c.args.to None = subst (λ (m : Image). Finds m c.args.to None) first
    (subst (Finds (S.image c.find.new.store) c.args.to) (none_of c.in_ok-to_found.field-0 c.in_default-2.not-Some) (c.in_ok-to_found.ensures.found tells (subst (λ (m : Image). IsStrong (frame m)) (sym first) strong))) in
    unchanged-call image (asked_of call) c.args.now c.args.sets.now c.refused-in_default-2.result (reply.Refused stat.Stale) strong are
    (stale-to image call c.args.now strong from.stands none) said.plan said.reply said.blocks said.inode

pub returns-clause-planned : goal.returns-clause-planned
returns-clause-planned g c = λ tells strong are.
    let S = g.S.Stable in
    let image : Image = S.image c.args.store.now in
    let sets = c.args.sets.now in
    let call : Renaming = record { from = c.args.from; name = c.args.name.now; to = c.args.to; new_name = c.args.new_name.now; cred = c.args.cred.now } in
    let first : S.image c.find.new.store ≡ image = c.in_ok-from_found.ensures.looked.image in
    let second : S.image c.find-2.new.store ≡ image = c.in_ok-to_found.ensures.looked.image ∙ first in
    let third : S.image c.judge_rename.new.store ≡ image = c.in_ok-judged.ensures.looked.image ∙ second in
    let from : IsFile image c.args.from c.in-Some.from_found = subst (Finds image c.args.from) c.in-Some.is (c.in_ok-from_found.ensures.found tells strong) in
    let to : IsFile (S.image c.find.new.store) c.args.to c.in-Some-2.to_found = subst (Finds (S.image c.find.new.store) c.args.to) c.in-Some-2.is (c.in_ok-to_found.ensures.found tells (subst (λ (m : Image). IsStrong (frame m)) (sym first) strong)) in
    let found : AreFound (S.image c.find-2.new.store) (record { from = c.args.from; from_found = c.in-Some.from_found; to = c.args.to; to_found = c.in-Some-2.to_found }) = record {
      from = subst (λ (m : Image). IsFile m c.args.from c.in-Some.from_found) (sym second) from;
      to = subst (λ (m : Image). IsFile m c.args.to c.in-Some-2.to_found) (sym c.in_ok-to_found.ensures.looked.image) to;
    } in
    let judged : JudgesRename image call c.args.now c.in_ok-judged.judged = subst (λ (m : Image). JudgesRename m call c.args.now c.in_ok-judged.judged) second
    (c.in_ok-judged.ensures.judged tells (subst (λ (m : Image). IsStrong (frame m)) (sym second) strong) (subst (λ (m : Image). AreSetsOf m sets.blocks sets.inodes) (sym second) are) found c.args.now) in
    subst (λ (m : Image). IfOk c.put_judged.result (λ r. IsPlannedCall m (asked_of call) c.args.now c.put_judged.new.sets r)) third
    (c.put_judged.ensures.planned tells (subst (λ (m : Image). IsStrong (frame m)) (sym third) strong) (subst (λ (m : Image). AreSetsOf m sets.blocks sets.inodes) (sym third) are) call
    (subst (λ (m : Image). JudgesRename m call c.args.now c.in_ok-judged.judged) (sym third) judged))
