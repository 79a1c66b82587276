use Rattle.std.proofs.Common.{sym, subst, Some, None, refl, arith}
use Rattle.stable.specs.Store.{Image}
use Rattle.v7_entries.specs.Bodies.{HasBody}
use Rattle.v7_entries.specs.Found.{FindsName, FindsEmpty}
use Rattle.plan_name.proofs.CreatingJudged.{created-tests, created-refused, created-body, created-taken, created-past, created-spot, created-end}
use Rattle.plan_name.proofs.judging_creation.judge_creation.Goals as goal

pub returns-in-Some-clause-judged : goal.returns-in-Some-clause-judged
returns-in-Some-clause-judged g c = λ tells strong is.
    let image : Image = g.S.Stable.image c.args.store.now in
    created-refused image c.args.dir c.args.name.now c.args.wanted.now c.args.found.now strong is c.in-Some.status
    (created-tests image c.args.dir c.args.name.now c.args.wanted.now c.args.found.now strong is c.attributes_of-attr.result c.attributes_of-attr.ensures (Some c.in-Some.status) c.in-Some.ensures)

pub returns-in-Some-2-clause-judged : goal.returns-in-Some-2-clause-judged
returns-in-Some-2-clause-judged g c = λ tells strong is.
    let image : Image = g.S.Stable.image c.args.store.now in
    let passed = created-tests image c.args.dir c.args.name.now c.args.wanted.now c.args.found.now strong is c.attributes_of-attr.result c.attributes_of-attr.ensures None c.in-None.ensures in
    let found : FindsName image c.args.found.now.inode c.args.name.now c.in_ok-entry.field-0 = c.in_ok-entry.ensures.found tells (created-body image c.args.dir c.args.name.now c.args.wanted.now c.args.found.now strong is passed) in
    created-taken image c.args.dir c.args.name.now c.args.wanted.now c.args.found.now strong is passed c.in-Some-2.entry (subst (FindsName image c.args.found.now.inode c.args.name.now) c.in-Some-2.is found)

pub returns-in_default-clause-judged : goal.returns-in_default-clause-judged
returns-in_default-clause-judged g c = λ tells strong is.
    let image : Image = g.S.Stable.image c.args.store.now in
    let passed = created-tests image c.args.dir c.args.name.now c.args.wanted.now c.args.found.now strong is c.attributes_of-attr.result c.attributes_of-attr.ensures None c.in-None.ensures in
    let body = created-body image c.args.dir c.args.name.now c.args.wanted.now c.args.found.now strong is passed in
    let absent : FindsName image c.args.found.now.inode c.args.name.now None = subst (FindsName image c.args.found.now.inode c.args.name.now) c.in-None-2.is (c.in_ok-entry.ensures.found tells body) in
    let same = c.in_ok-entry.ensures.looked.image in
    let empty : FindsEmpty image c.args.found.now.inode c.in_ok-empty.field-0 = subst (λ (x : Image). FindsEmpty x c.args.found.now.inode c.in_ok-empty.field-0) same
    (c.in_ok-empty.ensures.found tells (subst (λ (x : Image). HasBody x c.args.found.now.inode) (sym same) body)) in
    created-end image c.args.dir c.args.name.now c.args.wanted.now c.args.found.now strong is passed absent (subst (FindsEmpty image c.args.found.now.inode) c.in_default.is empty)

pub returns-then-empty-lt2-clause-judged : goal.returns-then-empty-lt2-clause-judged
returns-then-empty-lt2-clause-judged g c = λ tells strong is.
    let image : Image = g.S.Stable.image c.args.store.now in
    let passed = created-tests image c.args.dir c.args.name.now c.args.wanted.now c.args.found.now strong is c.attributes_of-attr.result c.attributes_of-attr.ensures None c.in-None.ensures in
    let body = created-body image c.args.dir c.args.name.now c.args.wanted.now c.args.found.now strong is passed in
    let absent : FindsName image c.args.found.now.inode c.args.name.now None = subst (FindsName image c.args.found.now.inode c.args.name.now) c.in-None-2.is (c.in_ok-entry.ensures.found tells body) in
    let same = c.in_ok-entry.ensures.looked.image in
    let empty : FindsEmpty image c.args.found.now.inode c.in_ok-empty.field-0 = subst (λ (x : Image). FindsEmpty x c.args.found.now.inode c.in_ok-empty.field-0) same
    (c.in_ok-empty.ensures.found tells (subst (λ (x : Image). HasBody x c.args.found.now.inode) (sym same) body)) in
    let past = created-past image c.args.dir c.args.name.now c.args.wanted.now c.args.found.now strong is passed absent c.in-Some-3.empty (subst (FindsEmpty image c.args.found.now.inode) c.in-Some-3.is empty) in
    let low = c.if-empty-lt2.true in absurd (omega arith)

pub returns-clause-judged : goal.returns-clause-judged
returns-clause-judged g c = λ tells strong is.
    let image : Image = g.S.Stable.image c.args.store.now in
    let passed = created-tests image c.args.dir c.args.name.now c.args.wanted.now c.args.found.now strong is c.attributes_of-attr.result c.attributes_of-attr.ensures None c.in-None.ensures in
    let body = created-body image c.args.dir c.args.name.now c.args.wanted.now c.args.found.now strong is passed in
    let absent : FindsName image c.args.found.now.inode c.args.name.now None = subst (FindsName image c.args.found.now.inode c.args.name.now) c.in-None-2.is (c.in_ok-entry.ensures.found tells body) in
    let same = c.in_ok-entry.ensures.looked.image in
    let empty : FindsEmpty image c.args.found.now.inode c.in_ok-empty.field-0 = subst (λ (x : Image). FindsEmpty x c.args.found.now.inode c.in_ok-empty.field-0) same
    (c.in_ok-empty.ensures.found tells (subst (λ (x : Image). HasBody x c.args.found.now.inode) (sym same) body)) in
    (refl, created-spot image c.args.dir c.args.name.now c.args.wanted.now c.args.found.now strong is passed absent c.in-Some-3.empty (subst (FindsEmpty image c.args.found.now.inode) c.in-Some-3.is empty) c.attributes_of-attr.result c.attributes_of-attr.ensures)
