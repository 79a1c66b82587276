use Rattle.std.proofs.Common.{◌≡◌, ◌<◌, ◌≤◌, ◌+◌, ◌/◌, ℕ, true, List, ◌++◌, length, sym, ap, subst, ◌∙◌, refl, arith, Option, IsSomeAnd, IfSome, rules}
use Rattle.files_model.specs.declared.attributes.Attr.{Attr}
use Rattle.files_model.specs.declared.call.Call.TheVariants.{Symlink}
use Rattle.files_model.specs.declared.reply.Reply.TheVariants as reply
use Rattle.files_model.specs.Answers.{attr_of}
use Rattle.index_sets.specs.Free.{count_free}
use Rattle.stable.specs.Store.{Image}
use Rattle.v7_map.specs.Frame.{frame}
use Rattle.v7_map.specs.Weak.{IsStrong}
use Rattle.v7_map.proofs.Whole.{as_long}
use Rattle.plan_file.specs.Free.{count_from}
use Rattle.plan_file.proofs.Freed.{spare-of}
use Rattle.name_plans.specs.Taken.{taken}
use Rattle.plan_name.specs.Creating.{IsPlannedMaking}
use Rattle.plan_name.specs.Growth.{added_blocks}
use Rattle.plan_name.specs.Judging.{IsTold}
use Rattle.plan_name.specs.LayingOut.{AreLowest, LaysLonger, new_list, past_new}
use Rattle.plan_name.specs.declared.laying_out.Laid.{Laid}
use Rattle.plan_name.proofs.NewAtEnd.{told-by}
use Rattle.plan_name.proofs.PlannedCall.{unchanged-call, taken-from}
use Rattle.plan_symlink.specs.Making.{MayLink, IsNextAt}
use Rattle.plan_symlink.specs.TextBlocks.{AreLowestFrom, text_list}
use Rattle.plan_symlink.proofs.Blocks.{lowest-text, new-others, taken-both}
use Rattle.plan_symlink.proofs.LinkMade.{link-number, link-room}
use Rattle.plan_symlink.proofs.Planned.{link-planned, short-text, small-new, end-past, end-grows, end-next, end-enough, end-rest}
use Rattle.plan_symlink.proofs.links_at_end.plan_link_at_end.Goals as goal

pub returns-in-Err-clause-planned : goal.returns-in-Err-clause-planned
returns-in-Err-clause-planned g c = λ tells d told is free.
    let image : Image = g.S.Stable.image c.args.store.now in
    let dir = c.args.directory in
    let told' = told-by image dir d c.args.inode.now c.args.sets.now.blocks c.args.sets.now.inodes told is c.attributes_of-attr.result c.attributes_of-attr.ensures in
    let said = c.refused.ensures in
    unchanged-call image (Symlink dir c.args.name.now c.args.text.now c.args.wanted.now, c.args.cred.now) c.args.now c.args.sets.now c.refused.result (reply.Refused c.in-Err.status) told.strong told.sets
    (c.in-Err.ensures.judged image dir d c.args.name.now c.args.text.now c.args.wanted.now c.args.now c.text_sectors-sectors.ensures.sectors told' free) said.plan said.reply said.blocks said.inode

pub returns-then-not-can_be_number-clause-planned : goal.returns-then-not-can_be_number-clause-planned
unfolding frame
returns-then-not-can_be_number-clause-planned g c = λ tells d told is free.
    let S = g.S.Stable in
    let image : Image = S.image c.args.store.now in
    let dir = c.args.directory in
    let told' = told-by image dir d c.args.inode.now c.args.sets.now.blocks c.args.sets.now.inodes told is c.attributes_of-attr.result c.attributes_of-attr.ensures in
    let long = (as_long S.sector_count g.met.S.Stable.clocked g.met.S.Stable.shape c.args.store.now tells).size in
    absurd (c.if-not-can_be_number.ensures.no refl (link-number image dir c.args.name.now c.args.text.now c.args.wanted.now c.args.cred.now c.args.now d c.in-Ok.number told.strong
    (c.in-Ok.ensures.judged image dir d c.args.name.now c.args.text.now c.args.wanted.now c.args.now c.text_sectors-sectors.ensures.sectors told' free) c.sectors.result (long ∙ sym c.sectors.ensures)))

pub returns-in_default-clause-planned : goal.returns-in_default-clause-planned
returns-in_default-clause-planned g c = λ tells d told is free.
    let image : Image = g.S.Stable.image c.args.store.now in
    let dir = c.args.directory in
    let told' = told-by image dir d c.args.inode.now c.args.sets.now.blocks c.args.sets.now.inodes told is c.attributes_of-attr.result c.attributes_of-attr.ensures in
    let symlink = c.in-Ok.ensures.judged image dir d c.args.name.now c.args.text.now c.args.wanted.now c.args.now c.text_sectors-sectors.ensures.sectors told' free in
    let size = ap (λ (a : Attr). a.size) c.attributes_of-attr.ensures in
    let grow = end-grows image dir d c.args.inode.now c.args.sets.now.blocks c.args.sets.now.inodes told is
    (link-room image dir c.args.name.now c.args.text.now c.args.wanted.now c.args.cred.now c.args.now d c.in-Ok.number told.strong symlink (end-past image dir d c.args.inode.now c.args.sets.now.blocks c.args.sets.now.inodes told is))
    (end-enough c.attributes_of-attr.result.size c.args.inode.now.size c.text_sectors-sectors.result (count_free c.args.sets.now.blocks) 0 size c.in-Ok.ensures.enough) in
    absurd (subst (λ (o : Option Laid). IsSomeAnd o (LaysLonger image dir.ino (c.args.inode.now.size / 16))) c.in_default.is (c.in_ok-laid.ensures.lays tells dir.ino c.args.sets.now.inodes grow))

pub returns-in_default-choose_text-clause-planned : goal.returns-in_default-choose_text-clause-planned
returns-in_default-choose_text-clause-planned g c = λ tells d told is free.
    let S = g.S.Stable in
    let image : Image = S.image c.args.store.now in
    let dir = c.args.directory in
    let blocks = c.args.sets.now.blocks in
    let told' = told-by image dir d c.args.inode.now blocks c.args.sets.now.inodes told is c.attributes_of-attr.result c.attributes_of-attr.ensures in
    let symlink = c.in-Ok.ensures.judged image dir d c.args.name.now c.args.text.now c.args.wanted.now c.args.now c.text_sectors-sectors.ensures.sectors told' free in
    let size = ap (λ (a : Attr). a.size) c.attributes_of-attr.ensures in
    let grow = end-grows image dir d c.args.inode.now blocks c.args.sets.now.inodes told is
    (link-room image dir c.args.name.now c.args.text.now c.args.wanted.now c.args.cred.now c.args.now d c.in-Ok.number told.strong symlink (end-past image dir d c.args.inode.now blocks c.args.sets.now.inodes told is))
    (end-enough c.attributes_of-attr.result.size c.args.inode.now.size c.text_sectors-sectors.result (count_free blocks) 0 size c.in-Ok.ensures.enough) in
    let low : AreLowest blocks c.in-Some.laid = subst (λ (o : Option Laid). IfSome o (AreLowest blocks)) c.in-Some.is c.in_ok-laid.ensures.lowest in
    let left : count_free blocks ≤ count_from blocks (past_new c.in-Some.laid.new) + added_blocks c.args.inode.now.size =
    subst (λ (o : Option Laid). IfSome o (λ (laid : Laid). count_free blocks ≤ count_from blocks (past_new laid.new) + added_blocks c.args.inode.now.size)) c.in-Some.is (c.in_ok-laid.ensures.left tells dir.ino c.args.sets.now.inodes grow) in
    let small = small-new image blocks c.args.sets.now.inodes c.in-Some.laid told.strong told.sets low in
    let rest : count_from blocks c.past_new-rest.result ≡ count_from blocks (past_new c.in-Some.laid.new) = ap (count_from blocks) (c.past_new-rest.ensures small.0 small.1) in
    let long = (as_long S.sector_count g.met.S.Stable.clocked g.met.S.Stable.shape c.args.store.now tells).size in
    let few = c.in_default-choose_text.ensures.none (spare-of image c.sectors-2.result blocks c.args.sets.now.inodes told.strong (long ∙ sym (c.sectors-2.ensures ∙ c.in_ok-laid.ensures.looked.sectors)) told.sets) in
    let most = end-rest c.attributes_of-attr.result.size c.args.inode.now.size c.text_sectors-sectors.result (count_free blocks) (count_from blocks (past_new c.in-Some.laid.new)) size c.in-Ok.ensures.enough left in
    absurd (omega arith)

pub returns-clause-planned : goal.returns-clause-planned
returns-clause-planned g c = λ tells d told is free.
    let S = g.S.Stable in
    let image : Image = S.image c.args.store.now in
    let dir = c.args.directory in
    let blocks = c.args.sets.now.blocks in
    let held : List ℕ = text_list c.in-Some-choose_text.held in
    let new : List ℕ = new_list c.in-Some.laid.new in
    let told' = told-by image dir d c.args.inode.now blocks c.args.sets.now.inodes told is c.attributes_of-attr.result c.attributes_of-attr.ensures in
    let symlink = c.in-Ok.ensures.judged image dir d c.args.name.now c.args.text.now c.args.wanted.now c.args.now c.text_sectors-sectors.ensures.sectors told' free in
    let size = ap (λ (a : Attr). a.size) c.attributes_of-attr.ensures in
    let grow = end-grows image dir d c.args.inode.now blocks c.args.sets.now.inodes told is
    (link-room image dir c.args.name.now c.args.text.now c.args.wanted.now c.args.cred.now c.args.now d c.in-Ok.number told.strong symlink (end-past image dir d c.args.inode.now blocks c.args.sets.now.inodes told is))
    (end-enough c.attributes_of-attr.result.size c.args.inode.now.size c.text_sectors-sectors.result (count_free blocks) 0 size c.in-Ok.ensures.enough) in
    let lays : LaysLonger image dir.ino (c.args.inode.now.size / 16) c.in-Some.laid = subst (λ (o : Option Laid). IsSomeAnd o (LaysLonger image dir.ino (c.args.inode.now.size / 16))) c.in-Some.is (c.in_ok-laid.ensures.lays tells dir.ino c.args.sets.now.inodes grow) in
    let low : AreLowest blocks c.in-Some.laid = subst (λ (o : Option Laid). IfSome o (AreLowest blocks)) c.in-Some.is c.in_ok-laid.ensures.lowest in
    let small = small-new image blocks c.args.sets.now.inodes c.in-Some.laid told.strong told.sets low in
    let past : AreLowestFrom blocks (past_new c.in-Some.laid.new) held = subst (λ (from : ℕ). AreLowestFrom blocks from held) (c.past_new-rest.ensures small.0 small.1) c.in-Some-choose_text.ensures.lowest in
    let may : MayLink image dir c.args.name.now c.args.text.now c.args.wanted.now c.args.cred.now c.args.now d c.in-Ok.number held = record {
      symlink = symlink;
      blocks_are = lowest-text image blocks c.args.sets.now.inodes (past_new c.in-Some.laid.new) c.args.text.now held told.sets (short-text c.args.text.now c.text_sectors-sectors.result c.text_sectors-sectors.ensures.sectors c.text_sectors-sectors.ensures.few)
          (c.in-Some-choose_text.ensures.count ∙ c.text_sectors-sectors.ensures.sectors) past;
    } in
    let next : IsNextAt image dir.ino (c.args.inode.now.size / 16) c.in-Some.laid.sector c.in-Some.laid.longer d lays.0 new held =
    end-next image dir d c.args.inode.now blocks c.args.sets.now.inodes told is c.in-Some.laid lays held (new-others c.in-Some.laid.new blocks held past) in
    let same : S.image c.lay_out.new.store ≡ image = c.in_ok-laid.ensures.looked.image in
    let made = subst (λ (z : Image). MayLink z dir c.args.name.now c.args.text.now c.args.wanted.now c.args.cred.now c.args.now d c.in-Ok.number held → IsNextAt z dir.ino (c.args.inode.now.size / 16) c.in-Some.laid.sector c.in-Some.laid.longer d lays.0 new held
    → IsPlannedMaking z (Symlink dir c.args.name.now c.args.text.now c.args.wanted.now, c.args.cred.now) c.args.now c.in-Ok.number (held ++ new) c.make_at_end.new.plan.puts) same
    (c.in_ok-make_at_end.ensures.planned tells (subst (λ (z : Image). IsStrong (frame z)) (sym same) told.strong) d lays.0 new) may next in
    link-planned image dir c.args.name.now c.args.text.now c.args.wanted.now c.args.cred.now c.args.now d c.in-Ok.number symlink record { blocks = c.take_new.new.blocks; inodes = c.take.new.self }
    blocks c.args.sets.now.inodes (held ++ new) record { plan = c.make_at_end.new.plan; reply = reply.Done; freed = c.none_freed.result } told.sets
    (c.take_new.ensures ∙ ap (taken new) c.take_text.ensures ∙ sym (taken-both held new blocks)) c.take.ensures made refl c.none_freed.ensures.blocks c.none_freed.ensures.inode

pub returns-clause-takes : goal.returns-clause-takes
returns-clause-takes g c = record {
  takes = taken-from c.args.sets.now (text_list c.in-Some-choose_text.held ++ new_list c.in-Some.laid.new) c.in-Ok.number c.take_new.new.blocks c.take.new.self
      (c.take_new.ensures ∙ ap (taken (new_list c.in-Some.laid.new)) c.take_text.ensures ∙ sym (taken-both (text_list c.in-Some-choose_text.held) (new_list c.in-Some.laid.new) c.args.sets.now.blocks)) c.take.ensures;
  kept = search rules;
}
