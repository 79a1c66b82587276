use Rattle.std.proofs.Common.{◌≡◌, true, not, length, None, Some, sym, ap, ◌∙◌}
use Rattle.std.proofs.lemmas.Bool.{le-ltb}
use Rattle.files_model.specs.Names.{place_for}
use Rattle.v7_map.specs.View.{node_at}
use Rattle.plan_rename.specs.declared.judging.Growing.{Growing}
use Rattle.plan_rename.specs.declared.refusals.Told.{Told}
use Rattle.plan_rename.proofs.Outcomes.{refusal-is, free-refused, free-named, free-lengthens}
use Rattle.plan_rename.proofs.judging.judge_end.Goals as goal

pub returns-in-Some-clause-judged : goal.returns-in-Some-clause-judged
returns-in-Some-clause-judged c = λ image name strong are x free now.
    let ends = c.args.ends.now in let old = c.args.old.now in let blocks = c.args.sets.now.blocks in let inodes = c.args.sets.now.inodes in let q = node_at image ends.to.ino in
    free-refused image ends name c.args.new_name.now old blocks inodes strong are x c.args.cred.now now free.absent true (sym (ap not (le-ltb (place_for q.slots) (length q.slots) free.full))) c.in-Some.status
    (refusal-is ends old blocks c.args.cred.now None true c.told_of-told.result c.count.result (Some c.in-Some.status) c.told_of-told.ensures c.count.ensures c.in-Some.ensures)

pub returns-then-told-clause-judged : goal.returns-then-told-clause-judged
returns-then-told-clause-judged c = λ image name strong are x free now.
    let ends = c.args.ends.now in let old = c.args.old.now in let blocks = c.args.sets.now.blocks in let inodes = c.args.sets.now.inodes in let q = node_at image ends.to.ino in
    free-named image ends name c.args.new_name.now old blocks inodes strong are x c.args.cred.now now free.absent true (sym (ap not (le-ltb (place_for q.slots) (length q.slots) free.full)))
    (refusal-is ends old blocks c.args.cred.now None true c.told_of-told.result c.count.result None c.told_of-told.ensures c.count.ensures c.in-None.ensures)
    c.old_place-place.result c.new_slot-slot.result (sym (ap (λ (t : Told). t.same) c.told_of-told.ensures) ∙ c.if-told.true) c.old_place-place.ensures c.new_slot-slot.ensures

pub returns-clause-judged : goal.returns-clause-judged
returns-clause-judged c = λ image name strong are x free now.
    let ends = c.args.ends.now in let old = c.args.old.now in let blocks = c.args.sets.now.blocks in let inodes = c.args.sets.now.inodes in let q = node_at image ends.to.ino in
    free-lengthens image ends name c.args.new_name.now old blocks inodes strong are x c.args.cred.now now free.absent true (sym (ap not (le-ltb (place_for q.slots) (length q.slots) free.full)))
    (refusal-is ends old blocks c.args.cred.now None true c.told_of-told.result c.count.result None c.told_of-told.ensures c.count.ensures c.in-None.ensures)
    (sym (ap (λ (t : Told). t.same) c.told_of-told.ensures) ∙ c.if-told.false)
    record { old = c.old_place-place.result; slot = c.new_slot-slot.result; to = ends.to.ino; inode = ends.to_found.inode } free
    (ap (λ o. record { old = o; slot = c.new_slot-slot.result; to = ends.to.ino; inode = ends.to_found.inode }) c.old_place-place.ensures) c.new_slot-slot.ensures
