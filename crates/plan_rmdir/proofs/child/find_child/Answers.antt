use Rattle.std.proofs.Common.{sym, subst, ◌∙◌, arith}
use Rattle.stable.specs.Store.{Image}
use Rattle.v7_entries.specs.Found.{FindsName, IsNamedSlot}
use Rattle.plan_name.proofs.FoundDirectory.{found-body}
use Rattle.plan_rmdir.proofs.FoundChild.{child-none, child-past, child-read, child-is}
use Rattle.plan_rmdir.proofs.RowAnswers.{none_of, no_some, same_some}
use Rattle.plan_rmdir.proofs.child.find_child.Goals as goal

pub returns-in_default-clause-child : goal.returns-in_default-clause-child
returns-in_default-clause-child g c = λ tells strong is kind.
    let image : Image = g.S.Stable.image c.args.store.now in
    let looked : FindsName image c.args.found.now.inode c.args.name.now c.in_ok-entry.field-0 = c.in_ok-entry.ensures.found tells (found-body image c.args.dir c.args.found.now strong is kind) in
    child-none image c.args.dir c.args.found.now strong is kind c.args.name.now (subst (FindsName image c.args.found.now.inode c.args.name.now) (none_of c.in_ok-entry.field-0 c.in_default.not-Some) looked)

pub returns-then-entry-lt2-clause-child : goal.returns-then-entry-lt2-clause-child
returns-then-entry-lt2-clause-child g c = λ tells strong is kind.
    let image : Image = g.S.Stable.image c.args.store.now in
    let looked : FindsName image c.args.found.now.inode c.args.name.now c.in_ok-entry.field-0 = c.in_ok-entry.ensures.found tells (found-body image c.args.dir c.args.found.now strong is kind) in
    let named : IsNamedSlot image c.args.found.now.inode c.args.name.now c.in-Some.entry = subst (FindsName image c.args.found.now.inode c.args.name.now) c.in-Some.is looked in
    let past = child-past image c.args.dir c.args.found.now strong is kind c.args.name.now c.in-Some.entry named in
    let low = c.if-entry-lt2.true in absurd (omega arith)

pub returns-in_default-2-clause-child : goal.returns-in_default-2-clause-child
returns-in_default-2-clause-child g c = λ tells strong is kind.
    let image : Image = g.S.Stable.image c.args.store.now in
    let looked : FindsName image c.args.found.now.inode c.args.name.now c.in_ok-entry.field-0 = c.in_ok-entry.ensures.found tells (found-body image c.args.dir c.args.found.now strong is kind) in
    let named : IsNamedSlot image c.args.found.now.inode c.args.name.now c.in-Some.entry = subst (FindsName image c.args.found.now.inode c.args.name.now) c.in-Some.is looked in
    absurd (no_some (sym (none_of c.in_ok-inode.field-0 c.in_default-2.not-Some)
    ∙ child-read image c.args.dir c.args.found.now strong is kind c.args.name.now c.in-Some.entry named (g.S.Stable.image c.find_entry.new.store) c.in_ok-entry.ensures.looked.image c.in_ok-inode.field-0 (c.in_ok-inode.ensures.inode tells)))

pub returns-clause-child : goal.returns-clause-child
returns-clause-child g c = λ tells strong is kind.
    let image : Image = g.S.Stable.image c.args.store.now in
    let looked : FindsName image c.args.found.now.inode c.args.name.now c.in_ok-entry.field-0 = c.in_ok-entry.ensures.found tells (found-body image c.args.dir c.args.found.now strong is kind) in
    let named : IsNamedSlot image c.args.found.now.inode c.args.name.now c.in-Some.entry = subst (FindsName image c.args.found.now.inode c.args.name.now) c.in-Some.is looked in
    let read = child-read image c.args.dir c.args.found.now strong is kind c.args.name.now c.in-Some.entry named (g.S.Stable.image c.find_entry.new.store) c.in_ok-entry.ensures.looked.image c.in_ok-inode.field-0 (c.in_ok-inode.ensures.inode tells) in
    child-is image c.args.dir c.args.found.now strong is kind c.args.name.now c.in-Some.entry named c.in-Some-2.inode (same_some (sym c.in-Some-2.is ∙ read))
