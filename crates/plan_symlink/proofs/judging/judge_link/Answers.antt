use Rattle.std.proofs.Common.{◌+◌, if◌then◌else◌, ap, sym, ◌∙◌, arith}
use Rattle.plan_name.specs.Growth.{added_blocks}
use Rattle.plan_name.proofs.Judged.{told-size}
use Rattle.files_model.specs.Names.{size_alone}
use Rattle.plan_symlink.proofs.Judged.{link-entry, link-refused, link-none, link-full, link-made}
use Rattle.plan_symlink.proofs.judging.judge_link.Goals as goal

pub returns-in-Some-clause-judged : goal.returns-in-Some-clause-judged
returns-in-Some-clause-judged c = λ image dir d name text wanted now e t f.
    let small = told-size image dir.ino d c.args.directory.now c.args.at_end c.args.sets.now.blocks c.args.sets.now.inodes t name (size_alone 0) c.args.cred.now now in
    let same = link-entry image dir d c.args.directory.now c.args.at_end c.args.sets.now.blocks c.args.sets.now.inodes t name text wanted c.args.cred.now now f c.size_with_entry-longer.result (c.size_with_entry-longer.ensures (omega arith)) in
    link-refused image dir d c.args.directory.now c.args.at_end c.args.sets.now.blocks c.args.sets.now.inodes t name text wanted c.args.cred.now now f c.in-Some.status (sym same ∙ sym c.in-Some.ensures)

pub returns-in_default-clause-judged : goal.returns-in_default-clause-judged
returns-in_default-clause-judged c = λ image dir d name text wanted now e t f.
    let small = told-size image dir.ino d c.args.directory.now c.args.at_end c.args.sets.now.blocks c.args.sets.now.inodes t name (size_alone 0) c.args.cred.now now in
    let same = link-entry image dir d c.args.directory.now c.args.at_end c.args.sets.now.blocks c.args.sets.now.inodes t name text wanted c.args.cred.now now f c.size_with_entry-longer.result (c.size_with_entry-longer.ensures (omega arith)) in
    link-none image dir d c.args.directory.now c.args.at_end c.args.sets.now.blocks c.args.sets.now.inodes t name text wanted c.args.cred.now now f (sym same ∙ sym c.in-None.ensures) c.in_default.ensures

pub returns-then-count-needed-clause-judged : goal.returns-then-count-needed-clause-judged
returns-then-count-needed-clause-judged c = λ image dir d name text wanted now e t f.
    let small = told-size image dir.ino d c.args.directory.now c.args.at_end c.args.sets.now.blocks c.args.sets.now.inodes t name (size_alone 0) c.args.cred.now now in
    let same = link-entry image dir d c.args.directory.now c.args.at_end c.args.sets.now.blocks c.args.sets.now.inodes t name text wanted c.args.cred.now now f c.size_with_entry-longer.result (c.size_with_entry-longer.ensures (omega arith)) in
    let few' = c.requires in let few = c.if-count-needed.true in let counted = c.count.ensures in
    link-full image dir d c.args.directory.now c.args.at_end c.args.sets.now.blocks c.args.sets.now.inodes t name text wanted c.args.cred.now now f (sym same ∙ sym c.in-None.ensures) (omega arith)
    c.in-Some-lowest_from.number c.blocks_needed-needed.result c.in-Some-lowest_from.ensures (c.blocks_needed-needed.ensures ∙ ap (λ n. n + (if c.args.at_end then added_blocks c.args.directory.now.size else 0)) e) (omega arith)

pub returns-clause-judged : goal.returns-clause-judged
returns-clause-judged c = λ image dir d name text wanted now e t f.
    let small = told-size image dir.ino d c.args.directory.now c.args.at_end c.args.sets.now.blocks c.args.sets.now.inodes t name (size_alone 0) c.args.cred.now now in
    let same = link-entry image dir d c.args.directory.now c.args.at_end c.args.sets.now.blocks c.args.sets.now.inodes t name text wanted c.args.cred.now now f c.size_with_entry-longer.result (c.size_with_entry-longer.ensures (omega arith)) in
    let few' = c.requires in let few = c.if-count-needed.false in let counted = c.count.ensures in
    link-made image dir d c.args.directory.now c.args.at_end c.args.sets.now.blocks c.args.sets.now.inodes t name text wanted c.args.cred.now now f (sym same ∙ sym c.in-None.ensures) (omega arith)
    c.in-Some-lowest_from.number c.blocks_needed-needed.result c.in-Some-lowest_from.ensures (c.blocks_needed-needed.ensures ∙ ap (λ n. n + (if c.args.at_end then added_blocks c.args.directory.now.size else 0)) e) (omega arith)
