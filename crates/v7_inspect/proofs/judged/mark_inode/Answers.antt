use Rattle.std.proofs.Common.{rules, arith, ◌≡◌, ◌<◌, ◌∙◌, ◌||◌, ℕ, true, false, get_or, sym, ap}
use Rattle.stable.specs.Store.{Image}
use Rattle.v7_layout.specs.declared.inode.Inode.{Inode}
use Rattle.v7_map.specs.Image.{inode_at}
use Rattle.v7_map.specs.Frame.{frame, head_of, address_of}
use Rattle.v7_map.specs.Tree.{tree, is_named}
use Rattle.v7_map.specs.Damage.{place_at}
use Rattle.v7_damage.specs.Marks.{mark_at}
use Rattle.v7_inspect.proofs.Tallies.{named-by}
use Rattle.v7_inspect.proofs.Unnamed.{unnamed_marks}
use Rattle.v7_inspect.proofs.Usages.{needed_read}
use Rattle.v7_inspect.proofs.ViewUsage.{in-range}
use Rattle.v7_inspect.proofs.judged.mark_inode.Goals as goal

pub returns-then-not-is_named-clause-marks : goal.returns-then-not-is_named-clause-marks
returns-then-not-is_named-clause-marks g c = λ tells keeps is b some lt.
    let image : Image = g.S.Stable.image c.args.store.now in
    let i : ℕ = c.args.ino in
    let count = is.count in
    let long = c.requires.entries.counts in
    let none : is_named (tree (frame image)) i ≡ false = sym (c.is_named.ensures ∙ named-by image c.args.known.now is long i c.requires.some (omega arith)) ∙ search rules in
    unnamed_marks image i none (mark_at c.args.needed.now b) b

pub returns-clause-marks : goal.returns-clause-marks
returns-clause-marks g c = λ tells keeps is b some lt.
    let image : Image = g.S.Stable.image c.args.store.now in
    let i : ℕ = c.args.ino in
    let count = is.count in
    let long = c.requires.entries.counts in
    let named : is_named (tree (frame image)) i ≡ true = sym (c.is_named.ensures ∙ named-by image c.args.known.now is long i c.requires.some (omega arith)) ∙ search rules in
    let n : Inode = c.in_ok-inode.inode in
    let inode : n ≡ inode_at image i = c.in_ok-inode.ensures.inode tells keeps (in-range image i c.requires.some (omega arith)) in
    let blocks : (k : ℕ) → k < 140 → get_or c.in_ok-places.places k 0 ≡ address_of image (head_of n) (place_at k) =
    (λ k lt. (c.in_ok-places.ensures.places tells).each k lt ∙ ap (λ (x : Image). address_of x (head_of n) (place_at k)) c.in_ok-inode.ensures.looked.image) in
    c.mark_needed.ensures.marks b some lt ∙ ap (λ x. mark_at c.args.needed.now b || x) (needed_read image i n c.in_ok-places.places true b inode blocks (sym named))
