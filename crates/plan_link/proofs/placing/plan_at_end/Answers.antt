use Rattle.std.proofs.Common.{◌≡◌, ◌/◌, ℕ, List, true, refl, sym, ap, subst, ◌∙◌, Option, Some, None, IsSomeAnd, rules}
use Rattle.files_model.specs.declared.reply.Reply.TheVariants as reply
use Rattle.stable.specs.Store.{Image}
use Rattle.v7_map.specs.Frame.{frame}
use Rattle.v7_map.specs.View.{node_at}
use Rattle.v7_map.specs.Weak.{IsStrong}
use Rattle.v7_map.proofs.Whole.{as_long}
use Rattle.files_model.specs.declared.call.Call.TheVariants as call
use Rattle.plan_name.specs.Creating.{LaysOut}
use Rattle.plan_name.specs.LayingOut.{LaysLonger, new_list}
use Rattle.plan_name.specs.declared.laying_out.Laid.{Laid}
use Rattle.plan_link.specs.Links.{Links, IsPlannedLink, entry_of}
use Rattle.plan_link.specs.declared.link_puts.NewLink.{NewLink}
use Rattle.plan_link.proofs.LinkPlanned.{blocks-taken_from, link-number, link-past, link-told, link-refused, link-accepted, link-planned, link-grows, link-index, link-place}
use Rattle.plan_link.proofs.placing.plan_at_end.Goals as goal

pub returns-in-Some-clause-planned : goal.returns-in-Some-clause-planned
returns-in-Some-clause-planned g c = λ tells strong are at_file at here.
    let image : Image = g.S.Stable.image c.args.store.now in
    let dir = c.args.dir in
    let sets = c.args.sets.now in
    let told = link-told image c.args.file dir c.args.name.now c.args.cred.now c.args.now c.args.ends.now strong at_file at here.may sets.blocks sets.inodes are true (link-past (node_at image dir.ino) here.full) c.attributes_of-attr.result c.attributes_of-attr.ensures in
    let said = c.refused.ensures in
    link-refused image c.args.file dir c.args.name.now c.args.cred.now c.args.now c.args.ends.now strong at_file at here.may sets.blocks sets.inodes are (Some c.in-Some.status)
    (c.in-Some.ensures image dir.ino (node_at image dir.ino) sets.inodes told c.args.file.ino c.args.now c.args.name.now) c.in-Some.status refl sets c.refused.result are said.plan said.reply said.blocks said.inode

pub returns-then-not-can_be_number-clause-planned : goal.returns-then-not-can_be_number-clause-planned
unfolding frame
returns-then-not-can_be_number-clause-planned g c = λ tells strong are at_file at here.
    let S = g.S.Stable in
    let image : Image = S.image c.args.store.now in
    let long = (as_long S.sector_count g.met.S.Stable.clocked g.met.S.Stable.shape c.args.store.now tells).size in
    absurd (c.if-not-can_be_number.ensures.no refl (link-number image c.args.file c.args.dir c.args.name.now c.args.cred.now c.args.now c.args.ends.now strong at_file at here.may c.sectors.result (long ∙ sym c.sectors.ensures)))

pub returns-in_default-clause-planned : goal.returns-in_default-clause-planned
returns-in_default-clause-planned g c = λ tells strong are at_file at here.
    let image : Image = g.S.Stable.image c.args.store.now in
    let dir = c.args.dir in
    let sets = c.args.sets.now in
    let told = link-told image c.args.file dir c.args.name.now c.args.cred.now c.args.now c.args.ends.now strong at_file at here.may sets.blocks sets.inodes are true (link-past (node_at image dir.ino) here.full) c.attributes_of-attr.result c.attributes_of-attr.ensures in
    let link = link-accepted image c.args.file dir c.args.name.now c.args.cred.now c.args.now c.args.ends.now strong at_file at here.may sets.blocks sets.inodes are None
    (c.in-None.ensures image dir.ino (node_at image dir.ino) sets.inodes told c.args.file.ino c.args.now c.args.name.now) refl in
    let grow = link-grows image c.args.file dir c.args.name.now c.args.cred.now c.args.now c.args.ends.now strong at_file at here.may sets.blocks sets.inodes are link here.full in
    absurd (subst (λ (o : Option Laid). IsSomeAnd o (LaysLonger image dir.ino (c.args.ends.now.directory.inode.size / 16))) c.in_default.is (c.in_ok-laid.ensures.lays tells dir.ino sets.inodes grow))

pub returns-clause-planned : goal.returns-clause-planned
returns-clause-planned g c = λ tells strong are at_file at here.
    let S = g.S.Stable in
    let image : Image = S.image c.args.store.now in
    let dir = c.args.dir in
    let sets = c.args.sets.now in
    let n = node_at image c.args.file.ino in let d = node_at image dir.ino in
    let told = link-told image c.args.file dir c.args.name.now c.args.cred.now c.args.now c.args.ends.now strong at_file at here.may sets.blocks sets.inodes are true (link-past d here.full) c.attributes_of-attr.result c.attributes_of-attr.ensures in
    let link = link-accepted image c.args.file dir c.args.name.now c.args.cred.now c.args.now c.args.ends.now strong at_file at here.may sets.blocks sets.inodes are None
    (c.in-None.ensures image dir.ino d sets.inodes told c.args.file.ino c.args.now c.args.name.now) refl in
    let grow = link-grows image c.args.file dir c.args.name.now c.args.cred.now c.args.now c.args.ends.now strong at_file at here.may sets.blocks sets.inodes are link here.full in
    let lays : LaysLonger image dir.ino (c.args.ends.now.directory.inode.size / 16) c.in-Some-2.laid = subst (λ (o : Option Laid). IsSomeAnd o (LaysLonger image dir.ino (c.args.ends.now.directory.inode.size / 16))) c.in-Some-2.is
    (c.in_ok-laid.ensures.lays tells dir.ino sets.inodes grow) in
    let laid = c.in-Some-2.laid in
    let same : S.image c.lay_out.new.store ≡ image = c.in_ok-laid.ensures.looked.image in
    let new : NewLink = record { file = c.args.file; spot = record { directory = dir; index = c.args.ends.now.directory.inode.size / 16; sector = laid.sector }; slot = c.slot_of.result } in
    let links : Links image new c.args.name.now c.args.cred.now c.args.now n d = record {
      accepted = link;
      place = link-place image c.args.file dir c.args.name.now c.args.cred.now c.args.now c.args.ends.now strong at_file at here.may sets.blocks sets.inodes are link here.full;
      slot = c.slot_of.ensures ∙ ap (λ (n : List ℕ). Some (c.args.file.ino, n)) c.bytes.ensures.bytes;
    } in
    let index = link-index image c.args.file dir c.args.name.now c.args.cred.now c.args.now c.args.ends.now strong at_file at here.may sets.blocks sets.inodes are link here.full in
    let made : IsPlannedLink image (call.Link c.args.file dir c.args.name.now, c.args.cred.now) c.args.now (new_list laid.new) c.add_at_end.new.plan.puts =
    subst (λ (z : Image). Links z new c.args.name.now c.args.cred.now c.args.now n d → LaysOut z (entry_of new) laid.longer lays.0 (new_list laid.new)
    → IsPlannedLink z (call.Link c.args.file dir c.args.name.now, c.args.cred.now) c.args.now (new_list laid.new) c.add_at_end.new.plan.puts) same
    (λ x y. c.in_ok-add_at_end.ensures.planned tells (subst (λ (z : Image). IsStrong (frame z)) (sym same) strong) c.args.name.now c.args.cred.now n d lays.0 (new_list laid.new) x index y) links (lays.1 c.slot_of.result) in
    link-planned image c.args.file dir c.args.name.now c.args.cred.now c.args.now c.args.ends.now strong at_file at here.may sets.blocks sets.inodes are link record { blocks = c.take_new.new.blocks; inodes = sets.inodes } (new_list laid.new)
    record { plan = c.add_at_end.new.plan; reply = reply.Done; freed = c.none_freed.result } c.take_new.ensures refl made refl c.none_freed.ensures.blocks c.none_freed.ensures.inode

pub returns-clause-takes : goal.returns-clause-takes
returns-clause-takes g c = record { takes = blocks-taken_from c.args.sets.now (new_list c.in-Some-2.laid.new) c.take_new.new.blocks c.take_new.ensures; kept = search rules }
