use Rattle.std.proofs.Common.{arith, ◌≡◌, ◌≤◌, ◌^◌, sym, subst}
use Rattle.nvram_map.specs.Overlay.{NoEntry}
use Rattle.presto_unit.specs.Parts.{rig_of}
use Rattle.run_lines.specs.Refusals.{unit_status}
use Rattle.run_lines.proofs.Statuses.{unit_not}
use Rattle.volume_tool.specs.Recovered.{RecoversAs}
use Rattle.volume_tool.specs.Course.{NoUnit}
use Rattle.volume_tool.specs.Kept.{Keeps, SameFiles}
use Rattle.volume_tool.proofs.Founds.{recovers_as}
use Rattle.volume_tool.proofs.Keeping.{files_same, keeps_opened, keeps_refused}
use Rattle.volume_tool.proofs.Lent.{positive}
use Rattle.volume_tool.proofs.Tellings.{tells_refused}
use Rattle.volume_tool.proofs.recovering.recover_rig.Goals as goal

pub returns-in-Err-clause-kept : goal.returns-in-Err-clause-kept
returns-in-Err-clause-kept g c = keeps_refused g.R.Rig g.met.R.Rig.clocked SameFiles files_same c.args.accept_loss c.in-Err.fault c.in-Err.ensures.refused

pub returns-in-Err-clause-runs : goal.returns-in-Err-clause-runs
returns-in-Err-clause-runs g c =
    let fault = c.in-Err.fault in
    record {
      course = NoUnit fault;
      found = c.in-Err.ensures.refused.reason;
      tells = tells_refused g.H.Host g.H.Say (unit_status fault) (positive (unit_status fault) (unit_not fault 0 (omega arith))) c.unit_refusal.ensures c.refuse.ensures.told c.refuse.ensures.status;
    }

pub returns-in-Ok-clause-kept : goal.returns-in-Ok-clause-kept
returns-in-Ok-clause-kept g c =
    let r = g.R.Rig in
    let law = g.met.R.Rig in
    let unit' = c.recover_store-status.new.store in
    let is : c.into_rig-rig.result ≡ rig_of unit' = c.into_rig-rig.ensures.rig in
    let here : (r.sizes c.into_rig-rig.result).sectors ≤ 2 ^ 32 = omega (arith, c.sectors-sectors.ensures) in
    let few : (r.sizes (rig_of unit')).sectors ≤ 2 ^ 32 = subst (λ rig. (r.sizes rig).sectors ≤ 2 ^ 32) is here in
    subst (λ back. Keeps r SameFiles c.args.rig back) (sym is)
    (keeps_opened r law.clocked SameFiles files_same law.shape law.board c.args.accept_loss c.in-Ok.opened c.in-Ok.ensures.opened unit' few c.recover_store-status.ensures.keeps)

pub returns-in-Ok-clause-runs : goal.returns-in-Ok-clause-runs
returns-in-Ok-clause-runs g c =
    let r = g.R.Rig in
    let runs = c.recover_store-status.ensures.runs in
    let found = recovers_as r g.met.R.Rig.clocked c.args.accept_loss c.in-Ok.opened c.in-Ok.ensures.opened c.recover_store-status.new.store (λ tells down. subst (λ back. NoEntry (r.contents back)) c.into_rig-rig.ensures.rig (c.into_rig-rig.ensures.bare tells down)) runs.course runs.found in
    record { course = runs.course; found = subst (λ back. RecoversAs r c.args.accept_loss c.args.rig back runs.course) (sym c.into_rig-rig.ensures.rig) found; tells = runs.tells }
