use Rattle.std.proofs.Common.{◌≡◌, ◌≢◌, ℕ, ◌/◌, ◌==◌, true, false, None, Some, refl, sym, ap, subst, ◌∙◌}
use Rattle.stable.specs.Store.{Image}
use Rattle.v7_layout.specs.declared.inode.Inode.{Inode}
use Rattle.v7_map.specs.Frame.{frame}
use Rattle.v7_map.specs.Image.{is_inode, inode_at}
use Rattle.v7_map.specs.View.{kind_of}
use Rattle.v7_map.specs.Weak.{IsWeak}
use Rattle.plan_name.proofs.RemovingJudged.{none_of, no_some, same_inode}
use Rattle.plan_rename.proofs.Outcomes.{refusal-is, standing-same, standing-refused, standing-replaced}
use Rattle.plan_rename.proofs.judging.judge_standing.Goals as goal

pub returns-then-slot-old-clause-judged : goal.returns-then-slot-old-clause-judged
returns-then-slot-old-clause-judged g c = λ tells name strong are x taken now.
    standing-same (g.S.Stable.image c.args.store.now) c.args.ends.now name c.args.new_name.now c.args.old.now c.args.sets.now.blocks c.args.sets.now.inodes strong are x c.args.cred.now now c.args.slot.now taken c.if-slot-old.true

pub returns-in_default-clause-judged : goal.returns-in_default-clause-judged
returns-in_default-clause-judged g c = λ tells name strong are x taken now.
    absurd (no_some (sym (none_of c.in_ok-inode.field-0 c.in_default.not-Some) ∙ c.in_ok-inode.ensures.inode tells strong.weak taken.inode))

pub returns-in-Some-rename_refusal-clause-judged : goal.returns-in-Some-rename_refusal-clause-judged
returns-in-Some-rename_refusal-clause-judged g c = λ tells name strong are x taken now.
    let image : Image = g.S.Stable.image c.args.store.now in
    let slot = c.args.slot.now in
    let read : c.in-Some.inode ≡ inode_at image slot.ino = same_inode (sym c.in-Some.is ∙ c.in_ok-inode.ensures.inode tells strong.weak taken.inode) in
    let kind : c.kind_of.result ≡ kind_of ((inode_at image slot.ino).mode / 4096) = c.kind_of.ensures ∙ ap (λ (m : Inode). kind_of (m.mode / 4096)) read in
    standing-refused image c.args.ends.now name c.args.new_name.now c.args.old.now c.args.sets.now.blocks c.args.sets.now.inodes strong are x c.args.cred.now now slot taken c.if-slot-old.false c.kind_of.result kind c.in-Some-rename_refusal.status
    (refusal-is c.args.ends.now c.args.old.now c.args.sets.now.blocks c.args.cred.now (Some c.kind_of.result) false c.told_of-told.result c.count.result (Some c.in-Some-rename_refusal.status) c.told_of-told.ensures c.count.ensures c.in-Some-rename_refusal.ensures)

pub returns-clause-judged : goal.returns-clause-judged
returns-clause-judged g c = λ tells name strong are x taken now.
    let image : Image = g.S.Stable.image c.args.store.now in
    let slot = c.args.slot.now in
    let read : c.in-Some.inode ≡ inode_at image slot.ino = same_inode (sym c.in-Some.is ∙ c.in_ok-inode.ensures.inode tells strong.weak taken.inode) in
    let kind : c.kind_of.result ≡ kind_of ((inode_at image slot.ino).mode / 4096) = c.kind_of.ensures ∙ ap (λ (m : Inode). kind_of (m.mode / 4096)) read in (
      standing-replaced image c.args.ends.now name c.args.new_name.now c.args.old.now c.args.sets.now.blocks c.args.sets.now.inodes strong are x c.args.cred.now now slot taken c.if-slot-old.false c.kind_of.result kind
          c.moved_to-moved.result record { node = slot.ino; last = c.in-Some.inode.nlink == 1 } c.in-Some.inode
          (refusal-is c.args.ends.now c.args.old.now c.args.sets.now.blocks c.args.cred.now (Some c.kind_of.result) false c.told_of-told.result c.count.result None c.told_of-told.ensures c.count.ensures c.in-None.ensures)
          c.moved_to-moved.ensures.old c.moved_to-moved.ensures.new c.moved_to-moved.ensures.holds read refl,
      read,
    )
