use Rattle.std.proofs.Common.{rules, ◌≡◌, ◌≢◌, sym, ◌∙◌}
use Rattle.v7_mend.proofs.Decisions.{settled_none, settled_some}
use Rattle.v7_map.proofs.Whole.{as_long}
use Rattle.v7_mend.proofs.settle.settle.Goals as goal

pub returns-then-map-eq0-clause-done : goal.returns-then-map-eq0-clause-done
returns-then-map-eq0-clause-done g c = λ tells.
    let S = g.S.Stable in
    let image = S.image c.args.store.now in
    let shape = as_long S.sector_count g.met.S.Stable.clocked g.met.S.Stable.shape c.args.store.now tells in
    let zero : c.map_of-map.result ≡ 0 = search rules in
    c.settled.ensures.inode ∙ settled_none image c.args.inode.now c.args.links c.sectors.result (shape.size ∙ sym c.sectors.ensures) (c.requires.map tells) (sym c.map_of-map.ensures ∙ zero)

pub returns-clause-done : goal.returns-clause-done
returns-clause-done g c = λ tells.
    let S = g.S.Stable in
    let image = S.image c.args.store.now in
    let shape = as_long S.sector_count g.met.S.Stable.clocked g.met.S.Stable.shape c.args.store.now tells in
    let some : c.map_of-map.result ≢ 0 = search rules in
    c.settled-2.ensures.inode ∙ settled_some image c.args.inode.now c.args.links c.sectors.result (shape.size ∙ sym c.sectors.ensures) (c.requires.map tells)
    (λ z. some (c.map_of-map.ensures ∙ z)) c.map_of-map.result c.in_ok-block.block c.holds_address-stays.result c.map_of-map.ensures (c.in_ok-block.ensures.done tells) (search rules)
