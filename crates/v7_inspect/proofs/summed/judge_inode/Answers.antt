use Rattle.std.proofs.Common.{rules, arith, ◌≡◌, ◌∙◌, ◌==◌, ◌&&◌, ℕ, true, false, cond, get_or, not, sym, ap}
use Rattle.std.proofs.lemmas.List.{get_or_read}
use Rattle.v7_map.specs.Frame.{frame}
use Rattle.v7_map.specs.Tree.{tree, is_named, links}
use Rattle.v7_damage.specs.declared.summary.Summary.{Summary}
use Rattle.v7_damage.specs.Summaries.{needs, no_summary, summary_at}
use Rattle.v7_inspect.proofs.Mending.{strong_named}
use Rattle.v7_inspect.proofs.Tallies.{named-by}
use Rattle.v7_inspect.proofs.Unnamed.{unnamed_needs, unnamed_strong, named_here}
use Rattle.v7_inspect.proofs.summed.judge_inode.Goals as goal

pub returns-then-not-is_named-clause-used : goal.returns-then-not-is_named-clause-used
returns-then-not-is_named-clause-used c = λ image is.
    let i : ℕ = c.args.ino in
    let count = is.count in
    let long = c.requires.rows.counts in
    let none : is_named (tree (frame image)) i ≡ false = sym (c.is_named.ensures ∙ named-by image c.args.known.now is long i c.requires.some (omega arith)) ∙ search rules in
    unnamed_needs image i none

pub returns-then-not-is_named-clause-strong : goal.returns-then-not-is_named-clause-strong
returns-then-not-is_named-clause-strong c = λ image is.
    let i : ℕ = c.args.ino in
    let count = is.count in
    let long = c.requires.rows.counts in
    let none : is_named (tree (frame image)) i ≡ false = sym (c.is_named.ensures ∙ named-by image c.args.known.now is long i c.requires.some (omega arith)) ∙ search rules in
    let read : c.index-kind.result.now ≡ get_or c.args.known.now.types.items i 0 = get_or_read c.args.known.now.types.items i _ c.requires.within c.index-kind.ensures 0 in
    unnamed_strong image i none c.index-kind.result.now (is.types_are.used i ∙ ap (λ t. not (t == 0)) (sym (is.types_are.each i) ∙ sym read))

pub returns-clause-used : goal.returns-clause-used
returns-clause-used c = λ image is.
    let i : ℕ = c.args.ino in
    let count = is.count in
    let long = c.requires.rows.counts in
    let named : is_named (tree (frame image)) i ≡ true = sym (c.is_named.ensures ∙ named-by image c.args.known.now is long i c.requires.some (omega arith)) ∙ search rules in
    let many = c.requires.rows.summaries in
    let read : c.index-summary.result.now ≡ summary_at (frame image) i = get_or_read c.args.known.now.summaries.items i _ (omega arith) c.index-summary.ensures no_summary ∙ is.summaries_are i (named_here image i c.args.known.now is named) in
    ap (λ (s : Summary). s.needs) read ∙ sym (ap (λ b. cond b (needs (frame image) i) 0) named)

pub returns-clause-strong : goal.returns-clause-strong
returns-clause-strong c = λ image is.
    let i : ℕ = c.args.ino in
    let count = is.count in
    let long = c.requires.rows.counts in
    let named : is_named (tree (frame image)) i ≡ true = sym (c.is_named.ensures ∙ named-by image c.args.known.now is long i c.requires.some (omega arith)) ∙ search rules in
    let many = c.requires.rows.summaries in
    let used = named_here image i c.args.known.now is named in
    let read : c.index-summary.result.now ≡ summary_at (frame image) i = get_or_read c.args.known.now.summaries.items i _ (omega arith) c.index-summary.ensures no_summary ∙ is.summaries_are i used in
    let counted : c.index-count.result.now ≡ links (tree (frame image)) i = get_or_read c.args.known.now.counts.items i _ (omega arith) c.index-count.ensures 0 ∙ is.counts_are i c.requires.some (omega arith) in
    c.both.ensures ∙ (λ z. ((read z).nlink == counted z) && (read z).tidy) ∙ strong_named (frame image) i used named
