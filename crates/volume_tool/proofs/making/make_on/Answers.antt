use Rattle.std.proofs.Common.{sym, subst}
use Rattle.nvram_map.specs.Overlay.{NoEntry}
use Rattle.volume_tool.specs.Asking.{plan_read}
use Rattle.volume_tool.specs.Made.{MakesOn}
use Rattle.volume_tool.proofs.Boards.{makes_on}
use Rattle.volume_tool.proofs.making.make_on.Goals as goal

pub returns-in-Ok : goal.returns-in-Ok
returns-in-Ok g c =
    let r = g.R.Rig in
    let law = g.met.R.Rig in
    let made = c.make_unit-made.result in
    subst (λ back. MakesOn r (plan_read c.args.plan.now) c.args.rig back made.0) (sym c.into_rig.ensures.rig)
    (makes_on r law.clocked law.kept_told (plan_read c.args.plan.now) c.requires.ready c.requires.buffers c.in-Ok.unit made.1 c.in-Ok.ensures.rig c.in-Ok.ensures.down
    (λ tells down. subst (λ back. NoEntry (r.contents back)) c.into_rig.ensures.rig (c.into_rig.ensures.bare tells down)) made.0 c.make_unit-made.ensures)
