use Rattle.std.proofs.Common.{◌≡◌, ◌<◌, ◌≤◌, ◌+◌, ℕ, List, length, sym, ap, subst, ◌∙◌, refl, arith, rules}
use Rattle.files_model.specs.declared.call.Call.TheVariants.{Symlink}
use Rattle.files_model.specs.declared.reply.Reply.TheVariants as reply
use Rattle.files_model.specs.declared.reply.Stat.{Stat}
use Rattle.files_model.specs.Files.{sectors_of}
use Rattle.stable.specs.Store.{Image}
use Rattle.v7_map.specs.Frame.{frame}
use Rattle.v7_map.proofs.Whole.{as_long}
use Rattle.plan_file.proofs.Freed.{spare-of}
use Rattle.plan_name.proofs.PlannedCall.{unchanged-call, taken-from}
use Rattle.plan_symlink.specs.Making.{MayLink}
use Rattle.plan_symlink.specs.TextBlocks.{text_list}
use Rattle.plan_symlink.proofs.Blocks.{lowest-text}
use Rattle.plan_symlink.proofs.LinkMade.{link-number}
use Rattle.plan_symlink.proofs.Planned.{link-planned, short-text}
use Rattle.plan_symlink.proofs.links_in_place.plan_link_in_place.Goals as goal

pub returns-in-Err-clause-planned : goal.returns-in-Err-clause-planned
returns-in-Err-clause-planned g c = λ tells d told free empty.
    let image : Image = g.S.Stable.image c.args.store.now in
    let dir = c.args.spot.now.directory in
    let said = c.refused.ensures in
    unchanged-call image (Symlink dir c.args.name.now c.args.text.now c.args.wanted.now, c.args.cred.now) c.args.now c.args.sets.now c.refused.result (reply.Refused c.in-Err.status) told.strong told.sets
    (c.in-Err.ensures.judged image dir d c.args.name.now c.args.text.now c.args.wanted.now c.args.now c.text_sectors-sectors.ensures.sectors told free) said.plan said.reply said.blocks said.inode

pub returns-then-not-can_be_number-clause-planned : goal.returns-then-not-can_be_number-clause-planned
unfolding frame
returns-then-not-can_be_number-clause-planned g c = λ tells d told free empty.
    let S = g.S.Stable in
    let image : Image = S.image c.args.store.now in
    let dir = c.args.spot.now.directory in
    let long = (as_long S.sector_count g.met.S.Stable.clocked g.met.S.Stable.shape c.args.store.now tells).size in
    absurd (c.if-not-can_be_number.ensures.no refl (link-number image dir c.args.name.now c.args.text.now c.args.wanted.now c.args.cred.now c.args.now d c.in-Ok.number told.strong
    (c.in-Ok.ensures.judged image dir d c.args.name.now c.args.text.now c.args.wanted.now c.args.now c.text_sectors-sectors.ensures.sectors told free) c.sectors.result (long ∙ sym c.sectors.ensures)))

pub returns-in_default-clause-planned : goal.returns-in_default-clause-planned
returns-in_default-clause-planned g c = λ tells d told free empty.
    let S = g.S.Stable in
    let image : Image = S.image c.args.store.now in
    let long = (as_long S.sector_count g.met.S.Stable.clocked g.met.S.Stable.shape c.args.store.now tells).size in
    let enough = c.in-Ok.ensures.enough in
    let few = c.in_default.ensures.none (spare-of image c.sectors-2.result c.args.sets.now.blocks c.args.sets.now.inodes told.strong (long ∙ sym c.sectors-2.ensures) told.sets) in
    absurd (omega arith)

pub returns-clause-planned : goal.returns-clause-planned
returns-clause-planned g c = λ tells d told free empty.
    let image : Image = g.S.Stable.image c.args.store.now in
    let dir = c.args.spot.now.directory in
    let held : List ℕ = text_list c.in-Some.held in
    let symlink = c.in-Ok.ensures.judged image dir d c.args.name.now c.args.text.now c.args.wanted.now c.args.now c.text_sectors-sectors.ensures.sectors told free in
    let may : MayLink image dir c.args.name.now c.args.text.now c.args.wanted.now c.args.cred.now c.args.now d c.in-Ok.number held = record {
      symlink = symlink;
      blocks_are = lowest-text image c.args.sets.now.blocks c.args.sets.now.inodes 0 c.args.text.now held told.sets (short-text c.args.text.now c.text_sectors-sectors.result c.text_sectors-sectors.ensures.sectors c.text_sectors-sectors.ensures.few)
          (c.in-Some.ensures.count ∙ c.text_sectors-sectors.ensures.sectors) c.in-Some.ensures.lowest;
    } in
    link-planned image dir c.args.name.now c.args.text.now c.args.wanted.now c.args.cred.now c.args.now d c.in-Ok.number symlink record { blocks = c.take_text.new.blocks; inodes = c.take.new.self }
    c.args.sets.now.blocks c.args.sets.now.inodes held record { plan = c.make_in_place.new.plan; reply = reply.Done; freed = c.none_freed.result } told.sets c.take_text.ensures c.take.ensures
    (c.in_ok-make_in_place.ensures.planned tells told.strong d may empty) refl c.none_freed.ensures.blocks c.none_freed.ensures.inode

pub returns-clause-takes : goal.returns-clause-takes
returns-clause-takes g c = record { takes = taken-from c.args.sets.now (text_list c.in-Some.held) c.in-Ok.number c.take_text.new.blocks c.take.new.self c.take_text.ensures c.take.ensures; kept = search rules }
