use Rattle.std.proofs.Common.{rules, arith, ◌≡◌, ◌∙◌, ◌+◌, ◌∷◌, [], None, sym, ap, subst}
use Rattle.stable.specs.Store.{Image}
use Rattle.v7_map.specs.Frame.{Frame, frame}
use Rattle.v7_map.specs.Tree.{tree}
use Rattle.v7_map.specs.Damage.{Sizes}
use Rattle.v7_damage.specs.Tests.{IsFaultTold, HasNumbers, first_failing, tests_of_inodes}
use Rattle.v7_damage.specs.Marks.{AreSeen}
use Rattle.v7_damage.specs.Tables.{AreBodies, HasTables}
use Rattle.v7_damage.proofs.Failing.{first-append_none}
use Rattle.v7_damage.proofs.DirectoryTests.{told_first}
use Rattle.v7_damage.proofs.Supers.{numbers_read, inodes_read, seen_start, sector_stands, told_same}
use Rattle.v7_damage.proofs.listed.list_inodes.Goals as goal

pub returns-in-Err-clause-told : goal.returns-in-Err-clause-told
returns-in-Err-clause-told g c = λ tells.
    let image : Image = g.S.Stable.image c.args.store.now in
    let f : Frame = frame image in
    told_first f (Sizes ∷ []) (tests_of_inodes f 1 (tree f).inodes) (Sizes ∷ tests_of_inodes f 1 (tree f).inodes) c.in-Err.fault (λ z. first_failing f (Sizes ∷ tests_of_inodes f 1 (tree f).inodes)) (c.in-Err.ensures.told tells)

pub returns-in-Ok-test_inodes-clause-told : goal.returns-in-Ok-test_inodes-clause-told
returns-in-Ok-test_inodes-clause-told g c = λ tells.
    let image : Image = g.S.Stable.image c.args.store.now in
    let f : Frame = frame image in
    let has : HasNumbers image c.in-Ok.super_block.s_isize c.in-Ok.super_block.s_fsize c.inodes_of-inodes.result = numbers_read image c.in-Ok.super_block c.inodes_of-inodes.result (c.in-Ok.ensures.read tells) c.inodes_of-inodes.ensures in
    let has-here = subst (λ (x : Image). HasNumbers x c.in-Ok.super_block.s_isize c.in-Ok.super_block.s_fsize c.inodes_of-inodes.result) (sym c.in-Ok.ensures.looked.image) has in
    let unseen : AreSeen c.in_ok-seen.seen [] = seen_start c.in_ok-seen.seen c.in-Ok.super_block.s_fsize c.in_ok-seen.ensures in
    let none : first_failing f (tests_of_inodes f 1 c.inodes_of-inodes.result) ≡ None =
    subst (λ (x : Image). first_failing (frame x) (tests_of_inodes (frame x) 1 c.inodes_of-inodes.result) ≡ None) c.in-Ok.ensures.looked.image (c.in-Ok-test_inodes.ensures.told tells has-here unseen) in
    first-append_none f (Sizes ∷ []) (tests_of_inodes f 1 (tree f).inodes) (c.in-Ok.ensures.told tells)
    ∙ ap (λ n. first_failing f (tests_of_inodes f 1 n)) (sym (inodes_read image _ _ _ has)) ∙ none

pub returns-in-Ok-test_inodes-clause-listed : goal.returns-in-Ok-test_inodes-clause-listed
returns-in-Ok-test_inodes-clause-listed g c = λ tells.
    let image : Image = g.S.Stable.image c.args.store.now in
    let has : HasNumbers image c.in-Ok.super_block.s_isize c.in-Ok.super_block.s_fsize c.inodes_of-inodes.result = numbers_read image c.in-Ok.super_block c.inodes_of-inodes.result (c.in-Ok.ensures.read tells) c.inodes_of-inodes.ensures in
    let has-here = subst (λ (x : Image). HasNumbers x c.in-Ok.super_block.s_isize c.in-Ok.super_block.s_fsize c.inodes_of-inodes.result) (sym c.in-Ok.ensures.looked.image) has in
    let count = ap (λ n. n + 1) (inodes_read image _ _ _ has) in
    record {
      super_is = c.in-Ok.ensures.read tells;
      types_are = λ i. c.in-Ok-test_inodes.ensures.types tells has-here i ∙ ap (λ (x : Image). ((frame x).head i).type) c.in-Ok.ensures.looked.image;
      bodies_are = subst (AreBodies image c.test_inodes.new.bodies) count (subst (λ (x : Image). AreBodies x c.test_inodes.new.bodies (c.inodes_of-inodes.result + 1)) c.in-Ok.ensures.looked.image (c.in-Ok-test_inodes.ensures.bodies tells has-here));
      count = c.in-Ok-test_inodes.ensures.tables.long ∙ count;
    }

pub returns-in-Ok-test_inodes-clause-tables : goal.returns-in-Ok-test_inodes-clause-tables
returns-in-Ok-test_inodes-clause-tables g c =
    let tables = c.in-Ok-test_inodes.ensures.tables in
    let long = tables.long in
    record {
      tables = subst (λ n. HasTables n c.test_inodes.new.types.items c.test_inodes.new.bodies) (sym long) tables;
      some = omega arith;
      few = search rules;
      stand = λ i lt. let sizes = c.in-Ok.ensures.sizes in let s = c.in-Ok.super_block in sector_stands s.mark s.s_isize s.s_fsize (g.S.Stable.sector_count c.args.store.now) c.inodes_of-inodes.result i sizes c.inodes_of-inodes.ensures (omega arith);
      sizes = c.in-Ok.ensures.sizes;
      all = long ∙ ap (λ n. n + 1) c.inodes_of-inodes.ensures;
    }

pub returns-clause-told : goal.returns-clause-told
returns-clause-told g c = λ tells.
    let image : Image = g.S.Stable.image c.args.store.now in
    let f : Frame = frame image in
    let has : HasNumbers image c.in-Ok.super_block.s_isize c.in-Ok.super_block.s_fsize c.inodes_of-inodes.result = numbers_read image c.in-Ok.super_block c.inodes_of-inodes.result (c.in-Ok.ensures.read tells) c.inodes_of-inodes.ensures in
    let has-here = subst (λ (x : Image). HasNumbers x c.in-Ok.super_block.s_isize c.in-Ok.super_block.s_fsize c.inodes_of-inodes.result) (sym c.in-Ok.ensures.looked.image) has in
    let unseen : AreSeen c.in_ok-seen.seen [] = seen_start c.in_ok-seen.seen c.in-Ok.super_block.s_fsize c.in_ok-seen.ensures in
    let told-here : IsFaultTold f (tests_of_inodes f 1 c.inodes_of-inodes.result) c.in-Err-test_inodes.fault =
    subst (λ (x : Image). IsFaultTold (frame x) (tests_of_inodes (frame x) 1 c.inodes_of-inodes.result) c.in-Err-test_inodes.fault) c.in-Ok.ensures.looked.image (c.in-Err-test_inodes.ensures.told tells has-here unseen) in
    told_same f (tests_of_inodes f 1 c.inodes_of-inodes.result) (Sizes ∷ tests_of_inodes f 1 (tree f).inodes) c.in-Err-test_inodes.fault
    (first-append_none f (Sizes ∷ []) (tests_of_inodes f 1 (tree f).inodes) (c.in-Ok.ensures.told tells) ∙ ap (λ n. first_failing f (tests_of_inodes f 1 n)) (sym (inodes_read image _ _ _ has)))
    told-here
