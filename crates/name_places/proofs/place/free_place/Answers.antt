use Rattle.std.proofs.Common.{arith}
use Rattle.std.specs.Prelude.{None}
use Rattle.stable.specs.Store.{Image}
use Rattle.v7_entries.specs.Found.{FindsEmpty}
use Rattle.std.proofs.Common.{subst}
use Rattle.name_places.proofs.Places.{place-body, spot-past, spot-is, end-is}
use Rattle.name_places.proofs.place.free_place.Goals as goal

pub returns-in_default-clause-place : goal.returns-in_default-clause-place
returns-in_default-clause-place g c = λ tells strong is d at kind name absent.
    let image : Image = g.S.Stable.image c.args.store.now in
    let found = c.args.found.now in
    let empty : FindsEmpty image found.inode c.in_ok-empty.field-0 = c.in_ok-empty.ensures.found tells (place-body image c.args.dir found strong is d at kind) in
    end-is image c.args.dir found strong is d at kind name absent (subst (FindsEmpty image found.inode) c.in_default.is empty)

pub returns-then-empty-lt2-clause-place : goal.returns-then-empty-lt2-clause-place
returns-then-empty-lt2-clause-place g c = λ tells strong is d at kind name absent.
    let image : Image = g.S.Stable.image c.args.store.now in
    let found = c.args.found.now in
    let empty : FindsEmpty image found.inode c.in_ok-empty.field-0 = c.in_ok-empty.ensures.found tells (place-body image c.args.dir found strong is d at kind) in
    let past = spot-past image c.args.dir found strong is d at kind name absent c.in-Some.empty (subst (FindsEmpty image found.inode) c.in-Some.is empty) in
    let low = c.if-empty-lt2.true in absurd (omega arith)

pub returns-clause-place : goal.returns-clause-place
returns-clause-place g c = λ tells strong is d at kind name absent.
    let image : Image = g.S.Stable.image c.args.store.now in
    let found = c.args.found.now in
    let empty : FindsEmpty image found.inode c.in_ok-empty.field-0 = c.in_ok-empty.ensures.found tells (place-body image c.args.dir found strong is d at kind) in
    spot-is image c.args.dir found strong is d at kind name absent c.in-Some.empty (subst (FindsEmpty image found.inode) c.in-Some.is empty)
