use Rattle.std.proofs.Common.{◌≡◌, refl, sym, ap, subst, ◌∙◌, Some, None}
use Rattle.files_model.specs.declared.attributes.Attr.{Attr}
use Rattle.files_model.specs.Attributes.{set_attr}
use Rattle.files_model.specs.declared.reply.Reply.TheVariants as reply
use Rattle.files_model.specs.Step.{setattr_refusal}
use Rattle.stable.specs.Puts.{Reserved}
use Rattle.stable.specs.Store.{Image}
use Rattle.v7_map.specs.Stored.{stored_attr}
use Rattle.v7_map.proofs.Whole.{whole_image}
use Rattle.plan_file.specs.Set.{AreSetPuts}
use Rattle.plan_file.proofs.SetDone.{set-done, refused-set, same-planned}
use Rattle.plan_file.proofs.set_plan.set_found.Goals as goal

pub returns-in-Some-clause-planned : goal.returns-in-Some-clause-planned
returns-in-Some-clause-planned g c = λ tells strong is.
    let S = g.S.Stable in
    let image : Image = S.image c.args.store.now in
    let whole = whole_image S.sector_count g.met.S.Stable.clocked g.met.S.Stable.shape c.args.store.now tells in
    let refusal : setattr_refusal c.args.found.now.read_only (stored_attr c.args.file.ino c.args.found.now.inode) c.args.wanted.now c.args.cred.now ≡ Some c.in-Some.status =
    sym (ap (λ (a : Attr). setattr_refusal c.args.found.now.read_only a c.args.wanted.now c.args.cred.now) c.attributes_of-attr.ensures) ∙ sym c.in-Some.ensures in
    same-planned image c.args.file c.args.wanted.now c.args.cred.now c.args.now (ap (λ (p : Reserved). p.puts) c.refused.ensures.plan) c.refused.ensures.reply c.refused.ensures.freed
    (refused-set image strong whole c.args.file c.args.found.now is c.args.wanted.now c.args.cred.now c.args.now c.in-Some.status refusal)

pub returns-clause-planned : goal.returns-clause-planned
returns-clause-planned g c = λ tells strong is.
    let S = g.S.Stable in
    let image : Image = S.image c.args.store.now in
    let whole = whole_image S.sector_count g.met.S.Stable.clocked g.met.S.Stable.shape c.args.store.now tells in
    let allowed : setattr_refusal c.args.found.now.read_only (stored_attr c.args.file.ino c.args.found.now.inode) c.args.wanted.now c.args.cred.now ≡ None =
    sym (ap (λ (a : Attr). setattr_refusal c.args.found.now.read_only a c.args.wanted.now c.args.cred.now) c.attributes_of-attr.ensures) ∙ sym c.in-None.ensures in
    let attr : c.set_attributes-after.result ≡ set_attr (stored_attr c.args.file.ino c.args.found.now.inode) c.args.wanted.now c.args.now =
    c.set_attributes-after.ensures ∙ ap (λ (a : Attr). set_attr a c.args.wanted.now c.args.now) c.attributes_of-attr.ensures in
    let puts = subst (λ (a : Attr). AreSetPuts image c.args.file.ino c.args.found.now a c.in_ok-planned.planned.plan.puts c.in_ok-planned.planned.freed.items) attr (c.in_ok-planned.ensures.done tells) in
    same-planned image c.args.file c.args.wanted.now c.args.cred.now c.args.now refl (c.in_ok-planned.ensures.reply ∙ ap reply.Attr attr) refl
    (set-done image strong whole c.args.file c.args.found.now is c.args.wanted.now c.args.cred.now c.args.now allowed c.in_ok-planned.planned.plan.puts c.in_ok-planned.planned.freed.items puts)
