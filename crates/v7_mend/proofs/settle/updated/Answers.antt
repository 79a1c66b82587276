use Rattle.std.proofs.Common.{rules, ◌≡◌, ◌∙◌, refl, sym}
use Rattle.v7_mend.proofs.Updating.{differs, replaces-sets}
use Rattle.v7_mend.proofs.settle.updated.Goals as goal

pub returns-then-eq : goal.returns-then-eq
returns-then-eq c =
    let same : c.args.held.now ≡ c.args.inode.now = search rules in
    record { here = c.requires.held ∙ same; same = λ e. refl; others = λ j one at ne. refl }

pub returns : goal.returns
returns c =
    replaces-sets c.args.sector.now c.args.ino c.args.inode.now c.replaced.result c.requires.number (search rules) c.replaced.ensures
    (λ e. differs c.args.held.now c.args.inode.now c.if-eq.ensures (sym (e ∙ c.requires.held)))
