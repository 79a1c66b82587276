use Rattle.std.proofs.Common.{arith, ◌≡◌, ◌≤◌, ◌^◌, false, refl, sym, subst}
use Rattle.stable.specs.Store.{Same}
use Rattle.presto_unit.specs.Parts.{rig_of}
use Rattle.run_lines.specs.Refusals.{unit_status}
use Rattle.run_lines.proofs.Statuses.{unit_not}
use Rattle.run_lines.specs.Overlays.{unit_store}
use Rattle.volume_tool.specs.Checked.{ChecksAs}
use Rattle.volume_tool.specs.Course.{NoUnit}
use Rattle.volume_tool.specs.Kept.{Keeps}
use Rattle.volume_tool.proofs.Founds.{checks_as}
use Rattle.volume_tool.proofs.Keeping.{keeps_opened, keeps_refused, looked_keeps}
use Rattle.volume_tool.proofs.Lent.{positive}
use Rattle.volume_tool.proofs.Tellings.{tells_refused}
use Rattle.volume_tool.proofs.checking.check_rig.Goals as goal

pub returns-in-Err-clause-kept : goal.returns-in-Err-clause-kept
returns-in-Err-clause-kept g c = keeps_refused g.R.Rig g.met.R.Rig.clocked Same (λ i. refl) false c.in-Err.fault c.in-Err.ensures.refused

pub returns-in-Err-clause-runs : goal.returns-in-Err-clause-runs
returns-in-Err-clause-runs g c =
    let fault = c.in-Err.fault in
    record {
      course = NoUnit fault;
      found = c.in-Err.ensures.refused.reason;
      tells = tells_refused g.H.Host g.H.Say (unit_status fault) (positive (unit_status fault) (unit_not fault 0 (omega arith))) c.unit_refusal.ensures c.refuse.ensures.told c.refuse.ensures.status;
    }

pub returns-in-Ok-clause-kept : goal.returns-in-Ok-clause-kept
returns-in-Ok-clause-kept g c =
    let r = g.R.Rig in
    let law = g.met.R.Rig in
    let unit' = c.check_store-status.new.store in
    let is : c.into_rig-rig.result ≡ rig_of unit' = c.into_rig-rig.ensures.rig in
    let here : (r.sizes c.into_rig-rig.result).sectors ≤ 2 ^ 32 = omega (arith, c.sectors-sectors.ensures) in
    let few : (r.sizes (rig_of unit')).sectors ≤ 2 ^ 32 = subst (λ rig. (r.sizes rig).sectors ≤ 2 ^ 32) is here in
    subst (λ back. Keeps r Same c.args.rig back) (sym is)
    (keeps_opened r law.clocked Same (λ i. refl) law.shape law.board false c.in-Ok.opened c.in-Ok.ensures.opened unit' few (looked_keeps (unit_store r) c.check_store-status.ensures.looked))

pub returns-in-Ok-clause-runs : goal.returns-in-Ok-clause-runs
returns-in-Ok-clause-runs g c =
    let r = g.R.Rig in
    let runs = c.check_store-status.ensures.runs in
    let found = checks_as r g.met.R.Rig.clocked c.in-Ok.opened c.in-Ok.ensures.opened c.check_store-status.new.store runs.course runs.found in
    record { course = runs.course; found = subst (λ back. ChecksAs r c.args.rig back runs.course) (sym c.into_rig-rig.ensures.rig) found; tells = runs.tells }
