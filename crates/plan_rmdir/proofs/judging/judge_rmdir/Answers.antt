use Rattle.std.proofs.Common.{not, ◌∷◌, sym, ap, subst, ◌∙◌}
use Rattle.files_model.specs.declared.attributes.Attr.{Attr}
use Rattle.files_model.specs.declared.reply.Stat.TheVariants as stat
use Rattle.files_model.specs.Answers.{first_of}
use Rattle.files_model.specs.Names.{name_tests}
use Rattle.files_model.specs.Permission.{is_directory}
use Rattle.stable.specs.Store.{Image}
use Rattle.plan_rmdir.specs.Children.{FindsChild, IsChild}
use Rattle.plan_rmdir.proofs.RowAnswers.{judged-refused, judged-directory, judged-absent, judged-tests, judged-loss, judged-leaves, none_of}
use Rattle.plan_rmdir.proofs.judging.judge_rmdir.Goals as goal

pub returns-in-Some-clause-judged : goal.returns-in-Some-clause-judged
returns-in-Some-clause-judged g c = λ tells strong is now.
    let image = g.S.Stable.image c.args.store.now in
    judged-refused image c.args.dir c.args.name.now c.args.cred.now c.args.found.now strong is c.in-Some.status
    (sym (ap (λ (a : Attr). first_of ((c.args.found.now.read_only, stat.Rofs) ∷ (not (is_directory a.kind), stat.Notdir) ∷ name_tests c.args.name.now)) c.attributes_of-parent.ensures) ∙ sym c.in-Some.ensures) now

pub returns-in_default-clause-judged : goal.returns-in_default-clause-judged
returns-in_default-clause-judged g c = λ tells strong is now.
    let image : Image = g.S.Stable.image c.args.store.now in
    let passed = sym (ap (λ (a : Attr). first_of ((c.args.found.now.read_only, stat.Rofs) ∷ (not (is_directory a.kind), stat.Notdir) ∷ name_tests c.args.name.now)) c.attributes_of-parent.ensures) ∙ sym c.in-None.ensures in
    let child : FindsChild image c.args.dir.ino c.args.name.now c.in_ok-child.field-0 = c.in_ok-child.ensures.child tells strong is (judged-directory image c.args.dir c.args.name.now c.args.cred.now c.args.found.now strong is passed) in
    judged-absent image c.args.dir c.args.name.now c.args.cred.now c.args.found.now strong is passed
    (subst (FindsChild image c.args.dir.ino c.args.name.now) (none_of c.in_ok-child.field-0 c.in_default.not-Some) child) now

pub returns-in-Some-refusal-clause-judged : goal.returns-in-Some-refusal-clause-judged
returns-in-Some-refusal-clause-judged g c = λ tells strong is now.
    let image : Image = g.S.Stable.image c.args.store.now in
    let passed = sym (ap (λ (a : Attr). first_of ((c.args.found.now.read_only, stat.Rofs) ∷ (not (is_directory a.kind), stat.Notdir) ∷ name_tests c.args.name.now)) c.attributes_of-parent.ensures) ∙ sym c.in-None.ensures in
    let looked : FindsChild image c.args.dir.ino c.args.name.now c.in_ok-child.field-0 = c.in_ok-child.ensures.child tells strong is (judged-directory image c.args.dir c.args.name.now c.args.cred.now c.args.found.now strong is passed) in
    let child : IsChild image c.args.dir.ino c.args.name.now c.in-Some-2.child = subst (FindsChild image c.args.dir.ino c.args.name.now) c.in-Some-2.is looked in
    let tests = judged-tests image c.args.dir c.args.name.now c.args.cred.now c.args.found.now strong is passed c.in-Some-2.child child
    (g.S.Stable.image c.find_child.new.store) c.in_ok-child.ensures.looked.image c.attributes_of-parent.result c.attributes_of-parent.ensures c.in_ok-refusal.refusal (c.in_ok-refusal.ensures.refusal tells) in
    judged-loss image c.args.dir c.args.name.now c.args.cred.now c.args.found.now strong is passed c.in-Some-2.child child c.in-Some-refusal.status (tests ∙ c.in-Some-refusal.is) now

pub returns-clause-judged : goal.returns-clause-judged
returns-clause-judged g c = λ tells strong is.
    let image : Image = g.S.Stable.image c.args.store.now in
    let passed = sym (ap (λ (a : Attr). first_of ((c.args.found.now.read_only, stat.Rofs) ∷ (not (is_directory a.kind), stat.Notdir) ∷ name_tests c.args.name.now)) c.attributes_of-parent.ensures) ∙ sym c.in-None.ensures in
    let looked : FindsChild image c.args.dir.ino c.args.name.now c.in_ok-child.field-0 = c.in_ok-child.ensures.child tells strong is (judged-directory image c.args.dir c.args.name.now c.args.cred.now c.args.found.now strong is passed) in
    let child : IsChild image c.args.dir.ino c.args.name.now c.in-Some-2.child = subst (FindsChild image c.args.dir.ino c.args.name.now) c.in-Some-2.is looked in
    let tests = judged-tests image c.args.dir c.args.name.now c.args.cred.now c.args.found.now strong is passed c.in-Some-2.child child
    (g.S.Stable.image c.find_child.new.store) c.in_ok-child.ensures.looked.image c.attributes_of-parent.result c.attributes_of-parent.ensures c.in_ok-refusal.refusal (c.in_ok-refusal.ensures.refusal tells) in
    judged-leaves image c.args.dir c.args.name.now c.args.cred.now c.args.found.now strong is passed c.in-Some-2.child child c.leaving_of.result c.leaving_of.ensures (tests ∙ c.in-None-refusal.is)
