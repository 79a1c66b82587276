use Rattle.std.proofs.Common.{arith, ◌+◌, ◌-◌, ◌∙◌, ℕ, length, ap}
use Rattle.v7_map.specs.Frame.{Frame, frame}
use Rattle.v7_map.specs.Tree.{tree}
use Rattle.v7_damage.specs.Names.{tests_of_directory, tests_of_directories}
use Rattle.v7_damage.specs.Tests.{first_failing}
use Rattle.v7_damage.proofs.Deciding.{none_left}
use Rattle.v7_damage.proofs.Failing.{first-append_none, none_fails}
use Rattle.v7_damage.proofs.DirectoryTests.{dirs_more, dirs_end, told_first}
use Rattle.v7_damage.proofs.directories.test_directories.Goals as goal

pub loop-ino-init : goal.loop-ino-init
loop-ino-init c = record {
  rest = λ image has. (λ z. first_failing (frame image) (tests_of_directories (tree (frame image)) 1 (length c.args.listed.now.types.items - 1)));
  before = λ image has wrong is. (has.tested.failed wrong is).some;
}

pub returns-in-Err-clause-told : goal.returns-in-Err-clause-told
returns-in-Err-clause-told c = λ image has.
    let f : Frame = frame image in
    let n : ℕ = length c.args.listed.now.types.items in
    let d : ℕ = c.loop-ino.ino in
    told_first f (tests_of_directory (tree f) d) (tests_of_directories (tree f) (d + 1) (n - (d + 1))) (tests_of_directories (tree f) 1 (n - 1)) c.in-Err.fault
    (c.loop-ino.invariant.rest image has ∙ ap (first_failing f) (dirs_more (tree f) d n (omega arith))) (c.in-Err.ensures.told image has (c.loop-ino.invariant.before image has))

pub loop-ino-preserved : goal.loop-ino-preserved
loop-ino-preserved c =
    let n : ℕ = length c.args.listed.now.types.items in
    let d : ℕ = c.loop-ino.ino in
    let i = c.loop-ino.invariant in
    record {
      rest = λ image has.
          let f : Frame = frame image in
          i.rest image has ∙ ap (first_failing f) (dirs_more (tree f) d n (omega arith))
          ∙ first-append_none f (tests_of_directory (tree f) d) (tests_of_directories (tree f) (d + 1) (n - (d + 1))) (c.in-Ok.ensures.told image has (i.before image has));
      before = λ image has wrong is. let lt = c.in-Ok.ensures.past image has (i.before image has) wrong is in omega arith;
    }

pub returns-clause-told : goal.returns-clause-told
returns-clause-told c = λ image has.
    let f : Frame = frame image in
    let n : ℕ = length c.args.listed.now.types.items in
    c.loop-ino.invariant.rest image has ∙ ap (first_failing f) (dirs_end (tree f) c.loop-ino.ino (n - c.loop-ino.ino) (omega arith)) ∙ none_fails f

pub returns-clause-none : goal.returns-clause-none
returns-clause-none c = λ image has.
    none_left c.args.noted.now.kept.wrong (λ wrong is. let w = (has.tested.failed wrong is).below in let before = c.loop-ino.invariant.before image has wrong is in let end = c.loop-ino-test.false in absurd (omega arith))
