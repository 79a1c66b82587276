use Rattle.std.proofs.Common.{arith, ◌≡◌, ◌+◌, ◌-◌, ◌∙◌, ◌&&◌, ℕ, sym}
use Rattle.std.specs.List.{range_with_len, sum_by, list_all}
use Rattle.v7_map.specs.Frame.{frame}
use Rattle.v7_map.specs.Tree.{tree}
use Rattle.v7_map.proofs.AnyFrame.{frame-IsFrame}
use Rattle.v7_map.proofs.Undamaged.{weak_without_damage}
use Rattle.v7_inspect.specs.Tidy.{is_strong_at}
use Rattle.v7_inspect.specs.Usage.{named_needs}
use Rattle.v7_inspect.proofs.Mending.{all_more, strong_if, if_strong}
use Rattle.v7_inspect.proofs.Usages.{sum_more}
use Rattle.v7_inspect.proofs.ViewUsage.{usage_is}
use Rattle.v7_inspect.proofs.summed.sum_up.Goals as goal

pub loop-ino-preserved : goal.loop-ino-preserved
loop-ino-preserved c =
    let i = c.loop-ino.invariant in
    let ino : ℕ = c.loop-ino.ino in
    record {
      used = λ image is. (λ z. i.used image is z + c.judge_inode-judged.ensures.used image is z) ∙ sym (sum_more (named_needs image) ino c.loop-ino.auto.ino);
      strong = λ image is. c.both-strong.ensures ∙ (λ z. i.strong image is z && c.judge_inode-judged.ensures.strong image is z) ∙ sym (all_more (is_strong_at (frame image)) ino c.loop-ino.auto.ino);
      few = (let was = i.few in let one = c.judge_inode-judged.ensures.few in omega arith);
    }

pub returns : goal.returns
returns c = λ image is.
    let known = c.args.known.now in
    let count = is.count in
    let end = c.loop-ino-test.false in
    let rows = c.requires in
    let all : c.loop-ino.ino - 1 ≡ (tree (frame image)).inodes = omega arith in
    let weak = weak_without_damage (frame image) (frame-IsFrame image) is.undamaged in
    let strong : c.loop-ino.strong ≡ list_all (is_strong_at (frame image)) (range_with_len 1 (tree (frame image)).inodes) =
    c.loop-ino.invariant.strong image is ∙ (λ z. list_all (is_strong_at (frame image)) (range_with_len 1 (all z))) in
    record {
      strong_only = λ yes. strong_if (frame image) (frame-IsFrame image) weak (sym strong ∙ yes);
      strong_always = λ is-strong. strong ∙ if_strong (frame image) (frame-IsFrame image) weak is-strong;
      used_is = c.loop-ino.invariant.used image is ∙ (λ z. sum_by (named_needs image) (range_with_len 1 (all z))) ∙ sym (usage_is image weak);
    }
