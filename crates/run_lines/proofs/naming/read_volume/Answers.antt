use Rattle.std.proofs.Common.{arith, ◌≡◌, ℕ, take, sym, ap, ◌∙◌, Some, None, add-one}
use Rattle.std.proofs.lemmas.Str.Pattern.{rfind_char}
use Rattle.run_lines.specs.Naming.{named_parts, cut_last}
use Rattle.run_lines.proofs.Cutting.{cut_none, cut_at}
use Rattle.run_lines.proofs.naming.read_volume.Goals as goal

pub returns-in-None-clause-named : goal.returns-in-None-clause-named
returns-in-None-clause-named c = c.read_disk.ensures.named ∙ ap (named_parts c.args.word.now) (sym (cut_none c.args.word.now (rfind_char 58 c.args.word.now None c.in-None.ensures.cases (omega arith))))

pub returns-in-Some-clause-named : goal.returns-in-Some-clause-named
returns-in-Some-clause-named c =
    let at = rfind_char 58 c.args.word.now (Some c.in-Some.at) c.in-Some.ensures.cases (omega arith) in
    let front : c.range.result.now ≡ take c.in-Some.at c.args.word.now = c.range.ensures.value ∙ ap (λ (n : ℕ). take n c.args.word.now) (omega arith) in
    let parts : Some (c.range.result.now, c.range_from.result.now) ≡ cut_last c.args.word.now = rw (front, c.range_from.ensures.value, add-one) (sym (cut_at c.args.word.now c.in-Some.at at.0 at.1 at.2)) in
    c.read_both.ensures.named ∙ ap (named_parts c.args.word.now) parts
