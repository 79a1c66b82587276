use Rattle.std.proofs.Common.{sym, ◌∙◌, arith}
use Rattle.plan_name.proofs.Judged.{told-size}
use Rattle.plan_mkdir.proofs.JudgedNew.{nothing, new-entry, new-refused, new-none, new-most, new-full, new-made}
use Rattle.plan_mkdir.proofs.judging.judge_new.Goals as goal

pub returns-in-Some : goal.returns-in-Some
returns-in-Some c = λ image p d name wanted now t.
    let small = told-size image p d c.args.parent.now c.args.at_end c.args.sets.now.blocks c.args.sets.now.inodes t name nothing c.args.cred.now now in
    let same = new-entry image p d c.args.parent.now c.args.at_end c.args.sets.now.blocks c.args.sets.now.inodes t name wanted c.args.cred.now now c.size_with_entry-longer.result (c.size_with_entry-longer.ensures (omega arith)) in
    new-refused image p d c.args.parent.now c.args.at_end c.args.sets.now.blocks c.args.sets.now.inodes t name wanted c.args.cred.now now c.in-Some.status (sym same ∙ sym c.in-Some.ensures)

pub returns-in_default : goal.returns-in_default
returns-in_default c = λ image p d name wanted now t.
    let small = told-size image p d c.args.parent.now c.args.at_end c.args.sets.now.blocks c.args.sets.now.inodes t name nothing c.args.cred.now now in
    let same = new-entry image p d c.args.parent.now c.args.at_end c.args.sets.now.blocks c.args.sets.now.inodes t name wanted c.args.cred.now now c.size_with_entry-longer.result (c.size_with_entry-longer.ensures (omega arith)) in
    new-none image p d c.args.parent.now c.args.at_end c.args.sets.now.blocks c.args.sets.now.inodes t name wanted c.args.cred.now now (sym same ∙ sym c.in-None.ensures) c.in_default.ensures

pub returns-then-parent-ge-MOST_LINKS : goal.returns-then-parent-ge-MOST_LINKS
returns-then-parent-ge-MOST_LINKS c = λ image p d name wanted now t.
    let small = told-size image p d c.args.parent.now c.args.at_end c.args.sets.now.blocks c.args.sets.now.inodes t name nothing c.args.cred.now now in
    let same = new-entry image p d c.args.parent.now c.args.at_end c.args.sets.now.blocks c.args.sets.now.inodes t name wanted c.args.cred.now now c.size_with_entry-longer.result (c.size_with_entry-longer.ensures (omega arith)) in
    let most = c.if-parent-ge-MOST_LINKS.true in
    new-most image p d c.args.parent.now c.args.at_end c.args.sets.now.blocks c.args.sets.now.inodes t name wanted c.args.cred.now now (sym same ∙ sym c.in-None.ensures) c.in-Some-lowest_from.number c.in-Some-lowest_from.ensures (omega arith)

pub returns-then-count-needed : goal.returns-then-count-needed
returns-then-count-needed c = λ image p d name wanted now t.
    let small = told-size image p d c.args.parent.now c.args.at_end c.args.sets.now.blocks c.args.sets.now.inodes t name nothing c.args.cred.now now in
    let same = new-entry image p d c.args.parent.now c.args.at_end c.args.sets.now.blocks c.args.sets.now.inodes t name wanted c.args.cred.now now c.size_with_entry-longer.result (c.size_with_entry-longer.ensures (omega arith)) in
    let few = c.if-count-needed.true in let counted = c.count.ensures in
    new-full image p d c.args.parent.now c.args.at_end c.args.sets.now.blocks c.args.sets.now.inodes t name wanted c.args.cred.now now (sym same ∙ sym c.in-None.ensures)
    c.in-Some-lowest_from.number c.blocks_needed-needed.result c.in-Some-lowest_from.ensures c.blocks_needed-needed.ensures (omega arith)

pub returns : goal.returns
returns c = λ image p d name wanted now t.
    let small = told-size image p d c.args.parent.now c.args.at_end c.args.sets.now.blocks c.args.sets.now.inodes t name nothing c.args.cred.now now in
    let same = new-entry image p d c.args.parent.now c.args.at_end c.args.sets.now.blocks c.args.sets.now.inodes t name wanted c.args.cred.now now c.size_with_entry-longer.result (c.size_with_entry-longer.ensures (omega arith)) in
    let few = c.if-count-needed.false in let counted = c.count.ensures in let links = c.if-parent-ge-MOST_LINKS.false in
    new-made image p d c.args.parent.now c.args.at_end c.args.sets.now.blocks c.args.sets.now.inodes t name wanted c.args.cred.now now (sym same ∙ sym c.in-None.ensures)
    c.in-Some-lowest_from.number c.blocks_needed-needed.result c.in-Some-lowest_from.ensures (omega arith) c.blocks_needed-needed.ensures (omega arith)
