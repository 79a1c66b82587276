use Rattle.std.proofs.Common.{rules, ℕ, List, sym}
use Rattle.stable.specs.Store.{Image}
use Rattle.v7_map.specs.Frame.{frame}
use Rattle.v7_map.specs.Tree.{tree}
use Rattle.v7_damage.specs.Tallied.{HasTally}
use Rattle.v7_damage.specs.Walk.{AreWalked}
use Rattle.v7_damage.proofs.TallyEnd.{nothing_read}
use Rattle.v7_damage.proofs.tested.test_names.Goals as goal

pub returns-then-all_pass-clause-told : goal.returns-then-all_pass-clause-told
returns-then-all_pass-clause-told g c = λ tells are can.
    let image : Image = g.S.Stable.image c.args.store.now in
    let types : List ℕ = c.args.listed.now.types.items in
    let w = c.in-Ok.walks in
    let walks : AreWalked (tree (frame image)) w.found w.ups.items = c.in-Ok.ensures.walked tells can in
    let tally : HasTally (frame image) types c.walk_all.new.tally = c.in-Ok.ensures.tally tells are can (λ fine. nothing_read (frame image) types c.in_ok-tally.tally _ c.in_ok-tally.ensures) in
    c.all_pass.ensures.pass image types (sym c.in-Ok.ensures.ups) are walks tally (search rules)

pub returns-then-all_pass-clause-names : goal.returns-then-all_pass-clause-names
returns-then-all_pass-clause-names g c = λ tells are can.
    let image : Image = g.S.Stable.image c.args.store.now in
    let types : List ℕ = c.args.listed.now.types.items in
    let w = c.in-Ok.walks in
    let walks : AreWalked (tree (frame image)) w.found w.ups.items = c.in-Ok.ensures.walked tells can in
    let tally : HasTally (frame image) types c.walk_all.new.tally = c.in-Ok.ensures.tally tells are can (λ fine. nothing_read (frame image) types c.in_ok-tally.tally _ c.in_ok-tally.ensures) in
    record { walked = walks.marks; counted = c.all_pass.ensures.counted image types (sym c.in-Ok.ensures.ups) walks tally (search rules) }
