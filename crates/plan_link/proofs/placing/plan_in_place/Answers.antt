use Rattle.std.proofs.Common.{◌≡◌, ◌<◌, ℕ, List, [], length, refl, sym, ap, subst, ◌∙◌, Some, None, false}
use Rattle.files_model.specs.declared.reply.Reply.TheVariants as reply
use Rattle.stable.specs.Store.{Image}
use Rattle.v7_map.specs.Frame.{frame}
use Rattle.v7_map.specs.View.{node_at}
use Rattle.v7_map.proofs.Whole.{as_long}
use Rattle.plan_link.specs.Links.{Links}
use Rattle.plan_link.specs.declared.link_puts.NewLink.{NewLink}
use Rattle.plan_link.proofs.LinkPlanned.{link-number, link-inside, link-told, link-refused, link-accepted, link-planned}
use Rattle.plan_link.proofs.placing.plan_in_place.Goals as goal

pub returns-in-Some-clause-planned : goal.returns-in-Some-clause-planned
returns-in-Some-clause-planned g c = λ tells strong are at_file at here.
    let image : Image = g.S.Stable.image c.args.store.now in
    let dir = c.args.spot.now.directory in
    let sets = c.args.sets.now in
    let told = link-told image c.args.file dir c.args.name.now c.args.cred.now c.args.now c.args.ends.now strong at_file at here.may sets.blocks sets.inodes are false (link-inside (node_at image dir.ino) here.inside) c.attributes_of-attr.result c.attributes_of-attr.ensures in
    let said = c.refused.ensures in
    link-refused image c.args.file dir c.args.name.now c.args.cred.now c.args.now c.args.ends.now strong at_file at here.may sets.blocks sets.inodes are (Some c.in-Some.status)
    (c.in-Some.ensures image dir.ino (node_at image dir.ino) sets.inodes told c.args.file.ino c.args.now c.args.name.now) c.in-Some.status refl sets c.refused.result are said.plan said.reply said.blocks said.inode

pub returns-then-not-can_be_number-clause-planned : goal.returns-then-not-can_be_number-clause-planned
unfolding frame
returns-then-not-can_be_number-clause-planned g c = λ tells strong are at_file at here.
    let S = g.S.Stable in
    let image : Image = S.image c.args.store.now in
    let long = (as_long S.sector_count g.met.S.Stable.clocked g.met.S.Stable.shape c.args.store.now tells).size in
    absurd (c.if-not-can_be_number.ensures.no refl (link-number image c.args.file c.args.spot.now.directory c.args.name.now c.args.cred.now c.args.now c.args.ends.now strong at_file at here.may c.sectors.result (long ∙ sym c.sectors.ensures)))

pub returns-clause-planned : goal.returns-clause-planned
returns-clause-planned g c = λ tells strong are at_file at here.
    let image : Image = g.S.Stable.image c.args.store.now in
    let spot = c.args.spot.now in
    let dir = spot.directory in
    let sets = c.args.sets.now in
    let told = link-told image c.args.file dir c.args.name.now c.args.cred.now c.args.now c.args.ends.now strong at_file at here.may sets.blocks sets.inodes are false (link-inside (node_at image dir.ino) here.inside) c.attributes_of-attr.result c.attributes_of-attr.ensures in
    let link = link-accepted image c.args.file dir c.args.name.now c.args.cred.now c.args.now c.args.ends.now strong at_file at here.may sets.blocks sets.inodes are None
    (c.in-None.ensures image dir.ino (node_at image dir.ino) sets.inodes told c.args.file.ino c.args.now c.args.name.now) refl in
    let new : NewLink = record { file = c.args.file; spot = spot; slot = c.slot_of.result } in
    let links : Links image new c.args.name.now c.args.cred.now c.args.now (node_at image c.args.file.ino) (node_at image dir.ino) = record {
      accepted = link;
      place = here.place;
      slot = c.slot_of.ensures ∙ ap (λ (n : List ℕ). Some (c.args.file.ino, n)) c.bytes.ensures.bytes;
    } in
    let made = c.in_ok-add_in_place.ensures.planned tells strong c.args.name.now c.args.cred.now (node_at image c.args.file.ino) (node_at image dir.ino) links
    (subst (λ (k : ℕ). k < length (node_at image dir.ino).slots) (sym here.place) here.inside) here.sector in
    link-planned image c.args.file dir c.args.name.now c.args.cred.now c.args.now c.args.ends.now strong at_file at here.may sets.blocks sets.inodes are link sets []
    record { plan = c.add_in_place.new.plan; reply = reply.Done; freed = c.none_freed.result } refl refl made refl c.none_freed.ensures.blocks c.none_freed.ensures.inode
