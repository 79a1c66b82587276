use Rattle.std.proofs.Common.{◌≡◌, false, not, length, None, Some, sym, ap, ◌∙◌}
use Rattle.std.proofs.lemmas.Bool.{lt-ltb}
use Rattle.files_model.specs.Names.{place_for}
use Rattle.v7_map.specs.View.{node_at}
use Rattle.plan_rename.specs.declared.refusals.Told.{Told}
use Rattle.plan_rename.proofs.Outcomes.{refusal-is, free-refused, free-named, free-moved}
use Rattle.plan_rename.proofs.judging.judge_empty.Goals as goal

pub returns-in-Some-clause-judged : goal.returns-in-Some-clause-judged
returns-in-Some-clause-judged c = λ image name strong are x free now.
    let ends = c.args.ends.now in let old = c.args.old.now in let blocks = c.args.sets.now.blocks in let inodes = c.args.sets.now.inodes in let q = node_at image ends.to.ino in
    free-refused image ends name c.args.new_name.now old blocks inodes strong are x c.args.cred.now now free.absent false (sym (ap not (lt-ltb (place_for q.slots) (length q.slots) free.inside))) c.in-Some.status
    (refusal-is ends old blocks c.args.cred.now None false c.told_of-told.result c.count.result (Some c.in-Some.status) c.told_of-told.ensures c.count.ensures c.in-Some.ensures)

pub returns-then-told-clause-judged : goal.returns-then-told-clause-judged
returns-then-told-clause-judged c = λ image name strong are x free now.
    let ends = c.args.ends.now in let old = c.args.old.now in let blocks = c.args.sets.now.blocks in let inodes = c.args.sets.now.inodes in let q = node_at image ends.to.ino in
    free-named image ends name c.args.new_name.now old blocks inodes strong are x c.args.cred.now now free.absent false (sym (ap not (lt-ltb (place_for q.slots) (length q.slots) free.inside)))
    (refusal-is ends old blocks c.args.cred.now None false c.told_of-told.result c.count.result None c.told_of-told.ensures c.count.ensures c.in-None.ensures)
    c.moved_to-moved.result.old c.moved_to-moved.result.slot (sym (ap (λ (t : Told). t.same) c.told_of-told.ensures) ∙ c.if-told.true) c.moved_to-moved.ensures.old c.moved_to-moved.ensures.holds

pub returns-clause-judged : goal.returns-clause-judged
returns-clause-judged c = λ image name strong are x free now.
    let ends = c.args.ends.now in let old = c.args.old.now in let blocks = c.args.sets.now.blocks in let inodes = c.args.sets.now.inodes in let q = node_at image ends.to.ino in
    free-moved image ends name c.args.new_name.now old blocks inodes strong are x c.args.cred.now now free.absent false (sym (ap not (lt-ltb (place_for q.slots) (length q.slots) free.inside)))
    (refusal-is ends old blocks c.args.cred.now None false c.told_of-told.result c.count.result None c.told_of-told.ensures c.count.ensures c.in-None.ensures)
    (sym (ap (λ (t : Told). t.same) c.told_of-told.ensures) ∙ c.if-told.false)
    c.moved_to-moved.result c.args.spot.now free c.moved_to-moved.ensures.old c.moved_to-moved.ensures.new c.moved_to-moved.ensures.holds
