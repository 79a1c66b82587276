use Rattle.std.proofs.Common.{◌≡◌, ◌-◌, ◌∷◌, length, sym, ap, subst, None}
use Rattle.stable.specs.Store.{Image}
use Rattle.v7_map.specs.Frame.{Frame, frame}
use Rattle.v7_map.specs.Tree.{tree}
use Rattle.v7_map.specs.Damage.{Sizes, tests}
use Rattle.v7_damage.specs.Names.{AreTypes, tests_of_directories}
use Rattle.v7_damage.specs.Tests.{IsFaultTold, first_failing, tests_of_inodes}
use Rattle.v7_damage.specs.Undamaged.{AreNames}
use Rattle.v7_damage.specs.Walk.{CanWalk}
use Rattle.v7_damage.proofs.DirectoryTests.{told_first}
use Rattle.v7_damage.proofs.Knowing.{fault-of, listed-types, listed-walk, names-fault, known-by}
use Rattle.v7_damage.proofs.Passed.{tests_split}
use Rattle.v7_damage.proofs.tested.find_damage.Goals as goal

pub returns-in-Err-clause-tested : goal.returns-in-Err-clause-tested
returns-in-Err-clause-tested g c = λ tells.
    let image : Image = g.S.Stable.image c.args.store.now in
    let f : Frame = frame image in
    fault-of image c.in-Err.fault (told_first f (Sizes ∷ tests_of_inodes f 1 (tree f).inodes) (tests_of_directories (tree f) 1 (tree f).inodes) (tests f) c.in-Err.fault (ap (first_failing f) (tests_split f)) (c.in-Err.ensures.told tells))

pub returns-in-Err-test_names-clause-tested : goal.returns-in-Err-test_names-clause-tested
returns-in-Err-test_names-clause-tested g c = λ tells.
    let S = g.S.Stable in
    let image : Image = S.image c.args.store.now in
    let l = c.in-Ok.listed in
    let same : S.image c.list_inodes.new.store ≡ image = c.in-Ok.ensures.looked.image in
    let none = c.in-Ok.ensures.told tells in
    let is = c.in-Ok.ensures.listed tells in
    let types = subst (λ (x : Image). AreTypes (frame x) l.types.items) (sym same) (listed-types image l is none) in
    let can = subst (λ (x : Image). CanWalk x l.types.items l.bodies) (sym same) (listed-walk image l is none) in
    names-fault image l is none c.in-Err-test_names.fault
    (subst (λ (x : Image). IsFaultTold (frame x) (tests_of_directories (tree (frame x)) 1 (length l.types.items - 1)) c.in-Err-test_names.fault) same (c.in-Err-test_names.ensures.told tells types can))

pub returns-in-Ok-test_names-clause-tested : goal.returns-in-Ok-test_names-clause-tested
returns-in-Ok-test_names-clause-tested g c = λ tells.
    let S = g.S.Stable in
    let image : Image = S.image c.args.store.now in
    let l = c.in-Ok.listed in
    let same : S.image c.list_inodes.new.store ≡ image = c.in-Ok.ensures.looked.image in
    let none = c.in-Ok.ensures.told tells in
    let is = c.in-Ok.ensures.listed tells in
    let types = subst (λ (x : Image). AreTypes (frame x) l.types.items) (sym same) (listed-types image l is none) in
    let can = subst (λ (x : Image). CanWalk x l.types.items l.bodies) (sym same) (listed-walk image l is none) in
    known-by image l is none c.in-Ok-test_names.names c.in-Ok-test_names.ensures.tables.counts
    (subst (λ (x : Image). AreNames x (length l.types.items) c.in-Ok-test_names.names) same (c.in-Ok-test_names.ensures.names tells types can))
    (subst (λ (x : Image). first_failing (frame x) (tests_of_directories (tree (frame x)) 1 (length l.types.items - 1)) ≡ None) same (c.in-Ok-test_names.ensures.told tells types can))
