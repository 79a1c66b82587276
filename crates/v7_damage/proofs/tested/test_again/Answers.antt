use Rattle.std.proofs.Common.{◌-◌, length}
use Rattle.stable.specs.Store.{Image}
use Rattle.v7_map.specs.Frame.{frame}
use Rattle.v7_map.specs.Tree.{tree}
use Rattle.v7_damage.specs.Names.{tests_of_directories}
use Rattle.v7_damage.proofs.DirectoryTests.{told_nothing}
use Rattle.v7_damage.proofs.tested.test_again.Goals as goal

pub returns-in-Err-clause-told : goal.returns-in-Err-clause-told
returns-in-Err-clause-told g c = λ tells are can walks.
    let image : Image = g.S.Stable.image c.args.store.now in
    told_nothing (frame image) (tests_of_directories (tree (frame image)) 1 (length c.args.listed.now.types.items - 1)) c.in-Err.fault c.in-Err.ensures.undamaged

pub returns-in-Err-test_directories-clause-told : goal.returns-in-Err-test_directories-clause-told
returns-in-Err-test_directories-clause-told g c = λ tells are can walks.
    c.in-Err-test_directories.ensures.told (g.S.Stable.image c.args.store.now) (c.in-Ok.ensures.noted tells are can walks)

pub returns-in-Ok-test_directories-clause-told : goal.returns-in-Ok-test_directories-clause-told
returns-in-Ok-test_directories-clause-told g c = λ tells are can walks.
    c.in-Ok-test_directories.ensures.told (g.S.Stable.image c.args.store.now) (c.in-Ok.ensures.noted tells are can walks)

pub returns-in-Ok-test_directories-clause-names : goal.returns-in-Ok-test_directories-clause-names
returns-in-Ok-test_directories-clause-names g c = λ tells are can walks.
    let image : Image = g.S.Stable.image c.args.store.now in
    let noted = c.in-Ok.ensures.noted tells are can walks in
    record { walked = walks.marks; counted = (noted.tested.counted (c.in-Ok-test_directories.ensures.none image noted)).counts_are }
