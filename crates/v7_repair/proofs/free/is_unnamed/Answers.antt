use Rattle.std.proofs.Common.{arith, ◌≡◌, ◌∙◌, sym, true, false}
use Rattle.stable.specs.Store.{Image}
use Rattle.v7_map.specs.Frame.{frame}
use Rattle.v7_map.specs.Tree.{tree, is_named}
use Rattle.v7_inspect.proofs.Tallies.{named-by}
use Rattle.v7_inspect.proofs.ViewUsage.{in-range}
use Rattle.v7_repair.proofs.Giving.{named_not, unnamed_is}
use Rattle.v7_repair.proofs.free.is_unnamed.Goals as goal

pub returns-then-is_named-clause-unnamed : goal.returns-then-is_named-clause-unnamed
returns-then-is_named-clause-unnamed g c = λ tells keeps is.
    let image : Image = g.S.Stable.image c.args.store.now in
    let count = is.count in
    let named : is_named (tree (frame image)) c.args.ino ≡ true = sym (named-by image c.args.known.now is c.requires.entries.counts c.args.ino c.requires.some (omega arith)) ∙ sym c.is_named.ensures ∙ c.if-is_named.true in
    named_not image c.args.ino named

pub returns-clause-unnamed : goal.returns-clause-unnamed
returns-clause-unnamed g c = λ tells keeps is.
    let image : Image = g.S.Stable.image c.args.store.now in
    let count = is.count in
    let named : is_named (tree (frame image)) c.args.ino ≡ false = sym (named-by image c.args.known.now is c.requires.entries.counts c.args.ino c.requires.some (omega arith)) ∙ sym c.is_named.ensures ∙ c.if-is_named.false in
    unnamed_is image c.args.ino c.in_ok-inode.inode (c.in_ok-inode.ensures.inode tells keeps (in-range image c.args.ino c.requires.some (omega arith))) named
