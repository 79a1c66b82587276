use Rattle.std.proofs.Common.{arith, ◌∙◌, List, ℕ, Err, ap}
use Rattle.run_lines.specs.Naming.{named_of}
use Rattle.run_lines.specs.Refusals.{host_line, host_status}
use Rattle.run_lines.proofs.Statuses.{host_not}
use Rattle.volume_tool.specs.Recovered.{RecoversAs}
use Rattle.volume_tool.specs.Words.{Recover}
use Rattle.volume_tool.proofs.Lent.{of_recovered, outcome_norig, outcome_rig, positive}
use Rattle.volume_tool.proofs.Tellings.{tells_as, tells_refused}
use Rattle.volume_tool.proofs.running.recover.Goals as goal

pub returns-in-Err : goal.returns-in-Err
returns-in-Err g c =
    let h = g.H.Host in
    let say = g.H.Say in
    let fault = c.in-Err.fault in
    let refused = c.in-Err.ensures in
    let refusal = c.host_refusal.ensures in
    let tells = tells_refused h say (host_status fault) (positive (host_status fault) (host_not fault 0 (λ e. omega (arith, e)) (λ e. omega (arith, e)))) refusal c.refuse.ensures.told c.refuse.ensures.status in
    outcome_norig h say g.H.R.Rig (Recover (named_of c.args.volume.now) c.args.accept_loss) fault tt refused.refused refused.posts refused.lines (λ is. refused.cause.failed (ap Err is)) (c.refuse.ensures.status ∙ refusal.status_is)
    (tells_as h say (ap (λ (line : List ℕ). host_line line fault) c.no_volume_line.ensures) tells)

pub returns-in-Ok : goal.returns-in-Ok
returns-in-Ok g c =
    let r = g.H.R.Rig in
    let found = c.in-Ok.ensures in
    let ran = c.recover_rig-status.ensures in
    let back = c.recover_rig-status.result.1 in
    let gave = c.give_back_rig.ensures in
    outcome_rig g.H.Host g.H.Say r (Recover (named_of c.args.volume.now) c.args.accept_loss) (RecoversAs r c.args.accept_loss c.in-Ok.rig back) found.gives found.posts found.lines ran.runs gave.back gave.posts gave.lines (of_recovered r c.in-Ok.rig back (named_of c.args.volume.now) c.args.accept_loss) ran.kept
