use Rattle.std.proofs.Common.{arith, ◌∙◌, Err, ap}
use Rattle.run_lines.specs.Refusals.{volume_status}
use Rattle.run_lines.proofs.Statuses.{volume_not}
use Rattle.volume_tool.specs.Course.{NoVolume, Checked}
use Rattle.volume_tool.proofs.Lent.{positive}
use Rattle.volume_tool.proofs.Tellings.{tells_as, tells_refused}
use Rattle.volume_tool.proofs.checking.check_store.Goals as goal

pub returns-in-Err-clause-runs : goal.returns-in-Err-clause-runs
returns-in-Err-clause-runs g c =
    let fault = c.in-Err.fault in
    record {
      course = NoVolume fault;
      found = (c.in-Err.ensures.inspected, λ is. c.in-Err.ensures.cause (ap Err is));
      tells = tells_refused g.H.Host g.H.Say (volume_status fault) (positive (volume_status fault) (volume_not fault 0 (omega arith))) c.volume_refusal.ensures c.refuse.ensures.told c.refuse.ensures.status;
    }

pub returns-in-Ok-clause-runs : goal.returns-in-Ok-clause-runs
returns-in-Ok-clause-runs g c = record { course = Checked c.in-Ok.seen; found = c.in-Ok.ensures.inspected; tells = tells_as g.H.Host g.H.Say (c.as_str.ensures.value ∙ c.seen_line.ensures) c.answer.ensures }
