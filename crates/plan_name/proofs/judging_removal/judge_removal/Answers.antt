use Rattle.std.proofs.Common.{◌≡◌, true, not, ◌==◌, ◌&&◌, ◌∷◌, [], sym, ap, subst, ◌∙◌, Some, arith}
use Rattle.files_model.specs.declared.attributes.Attr.{Attr}
use Rattle.files_model.specs.declared.permission.Want.TheVariants as want
use Rattle.files_model.specs.declared.reply.Stat.TheVariants as stat
use Rattle.files_model.specs.Answers.{first_of}
use Rattle.files_model.specs.Names.{name_tests}
use Rattle.files_model.specs.Permission.{allows, is_directory}
use Rattle.stable.specs.Store.{Image}
use Rattle.v7_map.specs.Frame.{frame}
use Rattle.v7_map.specs.Image.{is_inode, inode_at}
use Rattle.v7_layout.specs.declared.inode.Inode.{Inode}
use Rattle.v7_map.specs.Stored.{stored_attr}
use Rattle.v7_map.specs.Weak.{IsWeak}
use Rattle.plan_name.specs.Removals.{IsTaken}
use Rattle.v7_entries.specs.Found.{FindsName, IsNamedSlot}
use Rattle.plan_name.proofs.RemovingJudged.{judged-refused, judged-absent, judged-loss, judged-taken, judged-body, judged-number, judged-past, none_of, no_some, same_inode}
use Rattle.plan_name.proofs.judging_removal.judge_removal.Goals as goal

pub returns-in-Some-clause-judged : goal.returns-in-Some-clause-judged
returns-in-Some-clause-judged g c = λ tells strong is now.
    let image = g.S.Stable.image c.args.store.now in
    judged-refused image c.args.dir c.args.name.now c.args.cred.now c.args.found.now strong is c.in-Some.status
    (sym (ap (λ (a : Attr). first_of ((c.args.found.now.read_only, stat.Rofs) ∷ (not (is_directory a.kind), stat.Notdir) ∷ name_tests c.args.name.now)) c.attributes_of-attr.ensures) ∙ sym c.in-Some.ensures) now

pub returns-in_default-clause-judged : goal.returns-in_default-clause-judged
returns-in_default-clause-judged g c = λ tells strong is now.
    let image : Image = g.S.Stable.image c.args.store.now in
    let passed = sym (ap (λ (a : Attr). first_of ((c.args.found.now.read_only, stat.Rofs) ∷ (not (is_directory a.kind), stat.Notdir) ∷ name_tests c.args.name.now)) c.attributes_of-attr.ensures) ∙ sym c.in-None.ensures in
    let found : FindsName image c.args.found.now.inode c.args.name.now c.in_ok-entry.field-0 = c.in_ok-entry.ensures.found tells (judged-body image c.args.dir c.args.name.now c.args.cred.now c.args.found.now strong is passed) in
    judged-absent image c.args.dir c.args.name.now c.args.cred.now c.args.found.now strong is passed
    (subst (FindsName image c.args.found.now.inode c.args.name.now) (none_of c.in_ok-entry.field-0 c.in_default.not-Some) found) now

pub returns-in_default-2-clause-judged : goal.returns-in_default-2-clause-judged
returns-in_default-2-clause-judged g c = λ tells strong is now.
    let image : Image = g.S.Stable.image c.args.store.now in
    let passed = sym (ap (λ (a : Attr). first_of ((c.args.found.now.read_only, stat.Rofs) ∷ (not (is_directory a.kind), stat.Notdir) ∷ name_tests c.args.name.now)) c.attributes_of-attr.ensures) ∙ sym c.in-None.ensures in
    let found : FindsName image c.args.found.now.inode c.args.name.now c.in_ok-entry.field-0 = c.in_ok-entry.ensures.found tells (judged-body image c.args.dir c.args.name.now c.args.cred.now c.args.found.now strong is passed) in
    let named : IsNamedSlot image c.args.found.now.inode c.args.name.now c.in-Some-2.entry = subst (FindsName image c.args.found.now.inode c.args.name.now) c.in-Some-2.is found in
    let number = judged-number image c.args.dir c.args.name.now c.args.cred.now c.args.found.now strong is passed c.in-Some-2.entry named in
    let same = c.in_ok-entry.ensures.looked.image in
    absurd (no_some (sym (none_of c.in_ok-inode.field-0 c.in_default-2.not-Some) ∙ c.in_ok-inode.ensures.inode tells (subst (λ (x : Image). IsWeak (frame x)) (sym same) strong.weak) (subst (λ (x : Image). is_inode x c.in-Some-2.entry.ino ≡ true) (sym same) number)))

pub returns-in-Some-loss_refusal-clause-judged : goal.returns-in-Some-loss_refusal-clause-judged
returns-in-Some-loss_refusal-clause-judged g c = λ tells strong is now.
    let image : Image = g.S.Stable.image c.args.store.now in
    let passed = sym (ap (λ (a : Attr). first_of ((c.args.found.now.read_only, stat.Rofs) ∷ (not (is_directory a.kind), stat.Notdir) ∷ name_tests c.args.name.now)) c.attributes_of-attr.ensures) ∙ sym c.in-None.ensures in
    let found : FindsName image c.args.found.now.inode c.args.name.now c.in_ok-entry.field-0 = c.in_ok-entry.ensures.found tells (judged-body image c.args.dir c.args.name.now c.args.cred.now c.args.found.now strong is passed) in
    let named : IsNamedSlot image c.args.found.now.inode c.args.name.now c.in-Some-2.entry = subst (FindsName image c.args.found.now.inode c.args.name.now) c.in-Some-2.is found in
    let number = judged-number image c.args.dir c.args.name.now c.args.cred.now c.args.found.now strong is passed c.in-Some-2.entry named in
    let same = c.in_ok-entry.ensures.looked.image in
    let read : c.in-Some-3.inode ≡ inode_at image c.in-Some-2.entry.ino = same_inode (sym c.in-Some-3.is ∙ c.in_ok-inode.ensures.inode tells (subst (λ (x : Image). IsWeak (frame x)) (sym same) strong.weak) (subst (λ (x : Image). is_inode x c.in-Some-2.entry.ino ≡ true) (sym same) number)
    ∙ ap (λ (x : Image). Some (inode_at x c.in-Some-2.entry.ino)) same) in
    let node : c.attributes_of-node.result ≡ stored_attr c.in-Some-2.entry.ino (inode_at image c.in-Some-2.entry.ino) = c.attributes_of-node.ensures ∙ ap (stored_attr c.in-Some-2.entry.ino) read in
    let loss : first_of ((is_directory (stored_attr c.in-Some-2.entry.ino (inode_at image c.in-Some-2.entry.ino)).kind, stat.Isdir) ∷ (not (allows c.args.cred.now (stored_attr c.args.dir.ino c.args.found.now.inode) want.Write && allows c.args.cred.now (stored_attr c.args.dir.ino c.args.found.now.inode) want.Search), stat.Acces) ∷ []) ≡ c.loss_refusal.result =
    (λ z. first_of ((is_directory (sym node z).kind, stat.Isdir) ∷ (not (allows c.args.cred.now (sym c.attributes_of-attr.ensures z) want.Write && allows c.args.cred.now (sym c.attributes_of-attr.ensures z) want.Search), stat.Acces) ∷ [])) ∙ sym c.loss_refusal.ensures in
    judged-loss image c.args.dir c.args.name.now c.args.cred.now c.args.found.now strong is passed c.in-Some-2.entry named c.in-Some-loss_refusal.status (loss ∙ c.in-Some-loss_refusal.is) now

pub returns-clause-judged : goal.returns-clause-judged
returns-clause-judged g c = λ tells strong is.
    let image : Image = g.S.Stable.image c.args.store.now in
    let passed = sym (ap (λ (a : Attr). first_of ((c.args.found.now.read_only, stat.Rofs) ∷ (not (is_directory a.kind), stat.Notdir) ∷ name_tests c.args.name.now)) c.attributes_of-attr.ensures) ∙ sym c.in-None.ensures in
    let found : FindsName image c.args.found.now.inode c.args.name.now c.in_ok-entry.field-0 = c.in_ok-entry.ensures.found tells (judged-body image c.args.dir c.args.name.now c.args.cred.now c.args.found.now strong is passed) in
    let named : IsNamedSlot image c.args.found.now.inode c.args.name.now c.in-Some-2.entry = subst (FindsName image c.args.found.now.inode c.args.name.now) c.in-Some-2.is found in
    let number = judged-number image c.args.dir c.args.name.now c.args.cred.now c.args.found.now strong is passed c.in-Some-2.entry named in
    let same = c.in_ok-entry.ensures.looked.image in
    let read : c.in-Some-3.inode ≡ inode_at image c.in-Some-2.entry.ino = same_inode (sym c.in-Some-3.is ∙ c.in_ok-inode.ensures.inode tells (subst (λ (x : Image). IsWeak (frame x)) (sym same) strong.weak) (subst (λ (x : Image). is_inode x c.in-Some-2.entry.ino ≡ true) (sym same) number)
    ∙ ap (λ (x : Image). Some (inode_at x c.in-Some-2.entry.ino)) same) in
    let node : c.attributes_of-node.result ≡ stored_attr c.in-Some-2.entry.ino (inode_at image c.in-Some-2.entry.ino) = c.attributes_of-node.ensures ∙ ap (stored_attr c.in-Some-2.entry.ino) read in
    let loss : first_of ((is_directory (stored_attr c.in-Some-2.entry.ino (inode_at image c.in-Some-2.entry.ino)).kind, stat.Isdir) ∷ (not (allows c.args.cred.now (stored_attr c.args.dir.ino c.args.found.now.inode) want.Write && allows c.args.cred.now (stored_attr c.args.dir.ino c.args.found.now.inode) want.Search), stat.Acces) ∷ []) ≡ c.loss_refusal.result =
    (λ z. first_of ((is_directory (sym node z).kind, stat.Isdir) ∷ (not (allows c.args.cred.now (sym c.attributes_of-attr.ensures z) want.Write && allows c.args.cred.now (sym c.attributes_of-attr.ensures z) want.Search), stat.Acces) ∷ [])) ∙ sym c.loss_refusal.ensures in
    subst (IsTaken image c.args.dir c.args.name.now c.args.cred.now c.taking_of.result) (sym read)
    (judged-taken image c.args.dir c.args.name.now c.args.cred.now c.args.found.now strong is passed c.in-Some-2.entry named c.taking_of.result
    (c.taking_of.ensures ∙ ap (λ (m : Inode). record { directory = c.args.dir.ino; index = c.in-Some-2.entry.slot; sector = c.in-Some-2.entry.sector; node = c.in-Some-2.entry.ino; last = m.nlink == 1 }) read) (loss ∙ c.in-None-loss_refusal.is))

pub returns-then-entry-lt2-clause-judged : goal.returns-then-entry-lt2-clause-judged
returns-then-entry-lt2-clause-judged g c = λ tells strong is now.
    let image : Image = g.S.Stable.image c.args.store.now in
    let passed = sym (ap (λ (a : Attr). first_of ((c.args.found.now.read_only, stat.Rofs) ∷ (not (is_directory a.kind), stat.Notdir) ∷ name_tests c.args.name.now)) c.attributes_of-attr.ensures) ∙ sym c.in-None.ensures in
    let found : FindsName image c.args.found.now.inode c.args.name.now c.in_ok-entry.field-0 = c.in_ok-entry.ensures.found tells (judged-body image c.args.dir c.args.name.now c.args.cred.now c.args.found.now strong is passed) in
    let named : IsNamedSlot image c.args.found.now.inode c.args.name.now c.in-Some-2.entry = subst (FindsName image c.args.found.now.inode c.args.name.now) c.in-Some-2.is found in
    let past = judged-past image c.args.dir c.args.name.now c.args.cred.now c.args.found.now strong is passed c.in-Some-2.entry named in
    let low = c.if-entry-lt2.true in absurd (omega arith)
