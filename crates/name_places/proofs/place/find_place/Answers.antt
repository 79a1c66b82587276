use Rattle.std.proofs.Common.{arith, subst, sym, None, Some}
use Rattle.stable.specs.Store.{Image}
use Rattle.files_model.specs.Files.{live}
use Rattle.v7_entries.specs.Found.{FindsName}
use Rattle.v7_map.specs.Frame.{frame}
use Rattle.v7_map.specs.View.{view}
use Rattle.v7_map.specs.Weak.{IsStrong}
use Rattle.v7_read.specs.Found.{IsFile}
use Rattle.name_places.proofs.Places.{place-body, place-absent, taken-past, taken-is, free-looked}
use Rattle.name_places.proofs.place.find_place.Goals as goal

pub returns-in_default-clause-place : goal.returns-in_default-clause-place
returns-in_default-clause-place g c = λ tells strong is d at kind.
    let image : Image = g.S.Stable.image c.args.store.now in
    let found = c.args.found.now in
    let name = c.args.name.now in
    let named : FindsName image found.inode name c.in_ok-slot.field-0 = c.in_ok-slot.ensures.found tells (place-body image c.args.dir found strong is d at kind) in
    let absent = place-absent image c.args.dir found strong is d at kind name (subst (FindsName image found.inode name) c.in_default.is named) in
    free-looked image (g.S.Stable.image c.find_entry.new.store) c.in_ok-slot.ensures.looked.image c.args.dir found name d c.free_place.result
    (λ strong' is' at'. c.free_place.ensures.place tells strong' is' d at' kind name absent) strong is at

pub returns-then-slot-lt2-clause-place : goal.returns-then-slot-lt2-clause-place
returns-then-slot-lt2-clause-place g c = λ tells strong is d at kind.
    let image : Image = g.S.Stable.image c.args.store.now in
    let found = c.args.found.now in
    let name = c.args.name.now in
    let named : FindsName image found.inode name c.in_ok-slot.field-0 = c.in_ok-slot.ensures.found tells (place-body image c.args.dir found strong is d at kind) in
    let past = taken-past image c.args.dir found strong is d at kind name c.in-Some.slot (subst (FindsName image found.inode name) c.in-Some.is named) in
    let low = c.if-slot-lt2.true in absurd (omega arith)

pub returns-clause-place : goal.returns-clause-place
returns-clause-place g c = λ tells strong is d at kind.
    let image : Image = g.S.Stable.image c.args.store.now in
    let found = c.args.found.now in
    let name = c.args.name.now in
    let named : FindsName image found.inode name c.in_ok-slot.field-0 = c.in_ok-slot.ensures.found tells (place-body image c.args.dir found strong is d at kind) in
    taken-is image c.args.dir found strong is d at kind name c.in-Some.slot (subst (FindsName image found.inode name) c.in-Some.is named)
