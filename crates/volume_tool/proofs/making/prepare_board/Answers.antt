use Rattle.std.proofs.Common.{arith, ◌≡◌, ◌∙◌, ◌<◌, ◌≤◌, ◌^◌, ap, sym, subst}
use Rattle.rig.specs.Devices.{Sizes, with_kept}
use Rattle.volume_tool.proofs.Boards.{disk_named, once_done, ready_board}
use Rattle.volume_tool.proofs.making.prepare_board.Goals as goal

pub returns-clause-ready : goal.returns-clause-ready
returns-clause-ready g c =
    let r = g.R.Rig in
    let law = g.met.R.Rig in
    let mid = c.write.new.self in
    let sizes : r.sizes c.mark.new.rig ≡ r.sizes c.args.rig.now = c.mark.ensures.sizes ∙ c.format.ensures.stays.sizes ∙ c.write.ensures.sizes in
    let some : 0 < (r.sizes c.mark.new.rig).buffers = subst (λ (z : Sizes). 0 < z.buffers) (sym sizes) c.requires.board in
    let few : (r.sizes c.mark.new.rig).sectors ≤ 2 ^ 32 = subst (λ (z : Sizes). z.sectors ≤ 2 ^ 32) (sym sizes) (omega (arith, c.sectors-sectors.ensures)) in
    let named = disk_named r law.clocked law.shape law.board c.args.rig.now mid _ c.args.name c.titled.ensures c.requires.sectors c.in_ok-write.ensures.done in
    once_done c.mark.result c.mark.ensures.done c.mark.ensures.kept
    (λ done kept. ready_board r law.clocked law.shape law.board mid c.mark.new.rig c.args.name named some few (λ tells. done tells ∙ ap with_kept (c.in_ok-format.ensures.done tells)) kept)
