use Rattle.std.proofs.Common.{rules, arith, ◌≡◌, ◌<◌, ◌≤◌, ℕ, ◌+◌, ◌-◌, ◌++◌, [], ◌∷◌, None, get_or, refl, sym, ap, subst, ◌∙◌, ⊎_elim}
use Rattle.std.proofs.lemmas.Bool.{cases_lt}
use Rattle.std.proofs.lemmas.List.{get_or_past}
use Rattle.stable.specs.Store.{Image}
use Rattle.stable.proofs.Looking.{no_look, looks_again}
use Rattle.v7_map.specs.Image.{inode_sector}
use Rattle.v7_map.specs.Frame.{Frame, frame}
use Rattle.v7_damage.specs.Marks.{AreSeen}
use Rattle.v7_damage.specs.Stored.{Keeps}
use Rattle.v7_damage.specs.Tables.{AreBodies}
use Rattle.v7_damage.specs.Tests.{HasNumbers, IsFaultTold, first_failing, earlier_blocks, tests_of, tests_of_inodes}
use Rattle.v7_damage.proofs.Failing.{first-append_none, none_fails}
use Rattle.v7_damage.proofs.InodeTests.{earlier_start, inodes_more, inodes_end}
use Rattle.v7_damage.proofs.FrameInodes.{types_more, no_type, past_numbers, bodies_first, tables_first}
use Rattle.v7_damage.proofs.DirectoryTests.{told_first}
use Rattle.v7_damage.proofs.inodes.test_inodes.Goals as goal

pub loop-ino-init : goal.loop-ino-init
loop-ino-init g c =
    let S = g.S.Stable in
    let image : Image = S.image c.args.store.now in
    let f : Frame = frame image in
    record {
      rest = λ tells has none. (let e : c.args.inodes ≡ c.args.inodes + 1 - 1 = omega arith in ap (λ m. first_failing f (tests_of_inodes f 1 m)) e);
      seen = λ tells has none. subst (AreSeen c.args.seen.now) (sym (earlier_start f)) none;
      fits = search rules;
      types = λ tells has i lt. (let zero : i ≡ 0 = omega arith in ap (λ k. get_or c.args.types.now.items k 0) zero ∙ ap (λ l. get_or l 0 0) c.requires.first ∙ sym (ap (λ k. (f.head k).type) zero ∙ no_type image 0 (search rules)));
      bodies = λ tells has. bodies_first image c.args.bodies.now (search rules);
      tables = tables_first c.args.types.now.items c.args.bodies.now c.requires.first c.requires.bodies;
      keeps = λ tells. record { kept = λ some. absurd (some c.new-reader.ensures) };
      looked = no_look S g.met.S.Stable.clocked c.args.store.now;
    }

pub test_next-requires-clause-stands : goal.test_next-requires-clause-stands
test_next-requires-clause-stands g c = subst (λ m. inode_sector c.loop-ino.ino < m) (sym c.loop-ino.invariant.looked.sectors) (c.requires.stand c.loop-ino.ino (omega arith))

pub returns-in-Err-clause-told : goal.returns-in-Err-clause-told
returns-in-Err-clause-told g c = λ tells has none.
    let S = g.S.Stable in
    let i = c.loop-ino.invariant in
    let image : Image = S.image c.args.store.now in
    let f : Frame = frame image in
    let ino : ℕ = c.loop-ino.ino in
    let keeps : Keeps (S.image c.loop-ino.store) c.loop-ino.reader = subst (λ (x : Image). Keeps x c.loop-ino.reader) (sym i.looked.image) (i.keeps tells) in
    let numbers : HasNumbers (S.image c.loop-ino.store) c.args.isize c.args.fsize c.args.inodes = subst (λ (x : Image). HasNumbers x c.args.isize c.args.fsize c.args.inodes) (sym i.looked.image) has in
    let seen : AreSeen c.loop-ino.seen (earlier_blocks (frame (S.image c.loop-ino.store)) ino 0) = subst (λ (x : Image). AreSeen c.loop-ino.seen (earlier_blocks (frame x) ino 0)) (sym i.looked.image) (i.seen tells has none) in
    let fault : IsFaultTold f (tests_of f ino) c.in-Err.fault = subst (λ (x : Image). IsFaultTold (frame x) (tests_of (frame x) ino) c.in-Err.fault) i.looked.image
    (c.in-Err.ensures.told tells c.args.inodes numbers (omega arith) keeps seen) in
    told_first f (tests_of f ino) (tests_of_inodes f (ino + 1) (c.args.inodes + 1 - (ino + 1))) (tests_of_inodes f 1 c.args.inodes) c.in-Err.fault
    (i.rest tells has none ∙ ap (first_failing f) (inodes_more f ino c.args.inodes c.loop-ino-test.true)) fault

pub loop-ino-preserved : goal.loop-ino-preserved
loop-ino-preserved g c =
    let S = g.S.Stable in
    let i = c.loop-ino.invariant in
    let image : Image = S.image c.args.store.now in
    let f : Frame = frame image in
    let ino : ℕ = c.loop-ino.ino in
    let here = i.looked.image in
    let le : ino ≤ c.args.inodes = omega arith in
    let keeps : S.tells → Keeps (S.image c.loop-ino.store) c.loop-ino.reader = (λ tells. subst (λ (x : Image). Keeps x c.loop-ino.reader) (sym here) (i.keeps tells)) in
    let numbers : HasNumbers image c.args.isize c.args.fsize c.args.inodes → HasNumbers (S.image c.loop-ino.store) c.args.isize c.args.fsize c.args.inodes =
    (λ has. subst (λ (x : Image). HasNumbers x c.args.isize c.args.fsize c.args.inodes) (sym here) has) in
    let seen : S.tells → HasNumbers image c.args.isize c.args.fsize c.args.inodes → AreSeen c.args.seen.now [] → AreSeen c.loop-ino.seen (earlier_blocks (frame (S.image c.loop-ino.store)) ino 0) =
    (λ tells has none. subst (λ (x : Image). AreSeen c.loop-ino.seen (earlier_blocks (frame x) ino 0)) (sym here) (i.seen tells has none)) in
    let next = c.in-Ok.ensures in
    let passed : S.tells → HasNumbers image c.args.isize c.args.fsize c.args.inodes → AreSeen c.args.seen.now [] → first_failing f (tests_of f ino) ≡ None =
    (λ tells has none. subst (λ (x : Image). first_failing (frame x) (tests_of (frame x) ino) ≡ None) here (next.told tells c.args.inodes (numbers has) le (keeps tells) (seen tells has none))) in
    record {
      rest = λ tells has none. i.rest tells has none ∙ ap (first_failing f) (inodes_more f ino c.args.inodes c.loop-ino-test.true)
          ∙ first-append_none f (tests_of f ino) (tests_of_inodes f (ino + 1) (c.args.inodes + 1 - (ino + 1))) (passed tells has none);
      seen = λ tells has none. subst (λ (x : Image). AreSeen c.test_next.new.seen (earlier_blocks (frame x) (ino + 1) 0)) here (next.seen tells c.args.inodes (numbers has) le (keeps tells) (seen tells has none));
      fits = next.length ∙ i.fits;
      types = λ tells has k lt.
          let pushed = next.types tells c.args.inodes (numbers has) le (keeps tells) ∙ ap (λ (x : Image). c.loop-ino.types.items ++ ((frame x).head ino).type ∷ []) here in
          ap (λ l. get_or l k 0) pushed ∙ types_more f c.loop-ino.types.items ino (f.head ino).type i.tables.long (i.types tells has) refl k lt;
      bodies = λ tells has. subst (λ (x : Image). AreBodies x c.test_next.new.bodies (ino + 1)) here
          (next.bodies tells c.args.inodes (numbers has) le (keeps tells) (subst (λ (x : Image). AreBodies x c.loop-ino.bodies ino) (sym here) (i.bodies tells has)));
      tables = next.tables;
      keeps = λ tells. subst (λ (x : Image). Keeps x c.test_next.new.reader) here (next.keeps tells (keeps tells));
      looked = looks_again S g.met.S.Stable.clocked i.looked next.looked;
    }

pub returns-clause-told : goal.returns-clause-told
returns-clause-told g c = λ tells has seen.
    let S = g.S.Stable in
    let f : Frame = frame (S.image c.args.store.now) in
    let end : c.args.inodes + 1 - c.loop-ino.ino ≡ 0 = omega arith in
    c.loop-ino.invariant.rest tells has seen ∙ ap (first_failing f) (inodes_end f c.loop-ino.ino (c.args.inodes + 1 - c.loop-ino.ino) end) ∙ none_fails f

pub returns-clause-types : goal.returns-clause-types
returns-clause-types g c = λ tells has k.
    let S = g.S.Stable in
    let i = c.loop-ino.invariant in
    ⊎_elim
    (λ (lt : k < c.loop-ino.ino). i.types tells has k lt)
    (λ (ge : c.loop-ino.ino ≤ k). get_or_past c.loop-ino.types.items k 0 (let l = i.tables.long in omega arith)
    ∙ sym (no_type (S.image c.args.store.now) k (past_numbers (S.image c.args.store.now) c.args.isize c.args.fsize c.args.inodes has k (let t = c.loop-ino-test.false in omega arith))))
    (cases_lt k c.loop-ino.ino)
