use Rattle.std.proofs.Common.{◌≡◌, ◌≤◌, ◌^◌, refl, sym, subst}
use Rattle.nvram_map.specs.Overlay.{NoEntry}
use Rattle.presto_unit.specs.Parts.{rig_of}
use Rattle.server_volumes.specs.Ends.{Ends}
use Rattle.server_volumes.proofs.Serving.{ends_over}
use Rattle.server_volumes.proofs.stopping.stop_rig.Goals as goal

pub returns : goal.returns
returns g c =
    let r = g.R.Rig in
    let law = g.met.R.Rig in
    let unit' = c.stop_store-unit.result.0 in
    let took = c.take_rig.ensures in
    let is : c.take_rig.result ≡ rig_of unit' = took.rig in
    let few : (r.sizes (rig_of unit')).sectors ≤ 2 ^ 32 = subst (λ rig. (r.sizes rig).sectors ≤ 2 ^ 32) is took.few in
    subst (λ rig. Ends r c.args.volume rig c.stop_store-unit.result.1) (sym is)
    (ends_over r law.clocked law.shape law.board c.args.volume unit' c.stop_store-unit.result.1 c.stop_store-unit.ensures few (λ tells down. subst (λ rig. NoEntry (r.contents rig)) is (took.bare tells down)))
