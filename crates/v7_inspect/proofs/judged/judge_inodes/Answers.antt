use Rattle.std.proofs.Common.{arith, ◌≡◌, ◌-◌, length, subst}
use Rattle.stable.specs.Store.{Image}
use Rattle.v7_map.specs.Frame.{frame}
use Rattle.v7_map.specs.Tree.{tree}
use Rattle.v7_inspect.specs.Usage.{AreNeeded}
use Rattle.v7_inspect.proofs.Usages.{needed_none}
use Rattle.v7_inspect.proofs.judged.judge_inodes.Goals as goal

pub sum_up-sum-requires : goal.sum_up-sum-requires
sum_up-sum-requires g c = let e = c.requires in record { some = e.some; few = e.few; counts = e.counts; summaries = e.summaries }

pub returns-clause-judged : goal.returns-clause-judged
returns-clause-judged g c = λ tells is.
    let image : Image = g.S.Stable.image c.args.store.now in
    let known = c.args.known.now in
    let count = is.count in
    let all : length known.types.items - 1 ≡ (tree (frame image)).inodes = omega arith in
    let summed = c.sum_up-sum.ensures image is in
    record {
      strong_only = summed.strong_only;
      strong_always = summed.strong_always;
      used_is = summed.used_is;
      needed_are = subst (AreNeeded image c.mark_inodes.new.needed) all (c.in_ok-mark_inodes.ensures.marks tells is (needed_none image c.in_ok-needed.needed known.super_block.s_fsize c.in_ok-needed.ensures));
    }
