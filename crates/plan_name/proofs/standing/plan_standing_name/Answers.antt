use Rattle.std.proofs.Common.{◌≡◌, ◌∙◌, not, [], ◌∷◌, sym, ap, subst, IfOk}
use Rattle.files_model.specs.declared.attributes.Attr.{Attr}
use Rattle.files_model.specs.declared.call.Call.TheVariants.{Create}
use Rattle.files_model.specs.declared.reply.Reply.TheVariants as reply
use Rattle.files_model.specs.declared.reply.Stat.TheVariants as stat
use Rattle.files_model.specs.Answers.{first_of}
use Rattle.files_model.specs.Permission.{is_regular}
use Rattle.stable.specs.Store.{Image}
use Rattle.v7_map.specs.Frame.{frame}
use Rattle.v7_map.specs.Image.{inode_at}
use Rattle.v7_map.specs.Stored.{stored_attr}
use Rattle.v7_map.specs.View.{node_at}
use Rattle.v7_map.specs.Weak.{IsStrong}
use Rattle.v7_sets.specs.Sets.{AreSetsOf}
use Rattle.plan_name.specs.Creations.{IsTakenName}
use Rattle.plan_name.specs.Planned.{IsPlannedCall}
use Rattle.plan_name.proofs.PlannedCall.{unchanged-call}
use Rattle.plan_name.proofs.RemovingJudged.{none_of, no_some, same_inode}
use Rattle.plan_name.proofs.StandingPlan.{taken-refused, taken-stands, taken-answer, taken-handle}
use Rattle.plan_name.proofs.standing.plan_standing_name.Goals as goal

pub returns-in_default-clause-planned : goal.returns-in_default-clause-planned
returns-in_default-clause-planned g c = λ tells strong dir name taken left are.
    absurd (no_some (sym (none_of c.in_ok-read.read c.in_default.not-Some) ∙ c.in_ok-read.ensures.inode tells strong.weak taken.inode))

pub returns-in-Some-standing_refusal-clause-planned : goal.returns-in-Some-standing_refusal-clause-planned
returns-in-Some-standing_refusal-clause-planned g c = λ tells strong dir name taken left are.
    let image : Image = g.S.Stable.image c.args.store.now in
    let i = c.args.ino in
    let inode : c.in-Some.inode ≡ inode_at image i = same_inode (sym c.in-Some.is ∙ c.in_ok-read.ensures.inode tells strong.weak taken.inode) in
    let attr : c.attributes_of-attr.result ≡ stored_attr i (inode_at image i) = c.attributes_of-attr.ensures ∙ ap (stored_attr i) inode in
    let refused = ap (λ (a : Attr). first_of ((not (is_regular a.kind), stat.Exist) ∷ [])) (sym attr) ∙ sym c.in-Some-standing_refusal.ensures in
    let said = c.refused-in-Some-standing_refusal.ensures in
    unchanged-call image (Create dir name c.args.wanted.now, c.args.cred.now) c.args.now left c.refused-in-Some-standing_refusal.result (reply.Refused c.in-Some-standing_refusal.status) strong are
    (taken-refused image dir name c.args.wanted.now i strong taken c.args.cred.now c.args.now c.in-Some-standing_refusal.status refused) said.plan said.reply said.blocks said.inode

pub returns-in-Some-size-clause-planned : goal.returns-in-Some-size-clause-planned
returns-in-Some-size-clause-planned g c = λ tells before dir name is_taken left are.
    let i = c.args.ino in
    let image : Image = g.S.Stable.image c.read_inode.new.store in
    let same = c.in_ok-read.ensures.looked.image in
    let strong = subst (λ (x : Image). IsStrong (frame x)) (sym same) before in
    let taken = subst (λ (x : Image). IsTakenName x dir name c.args.wanted.now i) (sym same) is_taken in
    let inode : c.in-Some.inode ≡ inode_at image i = same_inode (sym c.in-Some.is ∙ c.in_ok-read.ensures.inode tells before.weak is_taken.inode) ∙ ap (λ (x : Image). inode_at x i) (sym same) in
    let attr : c.attributes_of-attr.result ≡ stored_attr i (inode_at image i) = c.attributes_of-attr.ensures ∙ ap (stored_attr i) inode in
    let passed = ap (λ (a : Attr). first_of ((not (is_regular a.kind), stat.Exist) ∷ [])) (sym attr) ∙ sym c.in-None.ensures in
    let handle = (λ z. record { ino = i; generation = (inode z).generation }) ∙ sym (taken-handle image dir name c.args.wanted.now i strong taken) in
    subst (λ (x : Image). IfOk c.plan_standing.result (λ r. IsPlannedCall x (Create dir name c.args.wanted.now, c.args.cred.now) c.args.now left r)) same
    (c.plan_standing.ensures.planned tells strong dir name c.args.wanted.now taken.directory taken.index (node_at image i) (taken-stands image dir name c.args.wanted.now i strong taken passed) handle c.in-Some-size.is left
    (subst (λ (x : Image). AreSetsOf x left.blocks left.inodes) (sym same) are))

pub returns-in-None-size-clause-planned : goal.returns-in-None-size-clause-planned
returns-in-None-size-clause-planned g c = λ tells strong dir name taken left are.
    let image : Image = g.S.Stable.image c.args.store.now in
    let i = c.args.ino in
    let inode : c.in-Some.inode ≡ inode_at image i = same_inode (sym c.in-Some.is ∙ c.in_ok-read.ensures.inode tells strong.weak taken.inode) in
    let attr : c.attributes_of-attr.result ≡ stored_attr i (inode_at image i) = c.attributes_of-attr.ensures ∙ ap (stored_attr i) inode in
    let passed = ap (λ (a : Attr). first_of ((not (is_regular a.kind), stat.Exist) ∷ [])) (sym attr) ∙ sym c.in-None.ensures in
    let answer = c.unchanged.ensures.reply ∙ (λ z. reply.Handle record { ino = i; generation = (inode z).generation } (attr z)) in
    let said = c.unchanged.ensures in
    unchanged-call image (Create dir name c.args.wanted.now, c.args.cred.now) c.args.now left c.unchanged.result (reply.Handle record { ino = i; generation = (inode_at image i).generation } (stored_attr i (inode_at image i))) strong are
    (taken-answer image dir name c.args.wanted.now i strong taken passed c.args.cred.now c.args.now c.in-None-size.is) said.plan answer said.blocks said.inode
