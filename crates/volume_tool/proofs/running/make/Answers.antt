use Rattle.std.proofs.Common.{arith, refl, sym}
use Rattle.run_lines.specs.Naming.{named_of}
use Rattle.volume_tool.specs.Asking.{plan_read}
use Rattle.volume_tool.specs.Course.{Unfit, make_status}
use Rattle.volume_tool.specs.Words.{Make}
use Rattle.std.proofs.Common.{Some}
use Rattle.volume_tool.proofs.Lent.{make_not, make_not_host, outcome_told, positive}
use Rattle.volume_tool.proofs.Tellings.{tells_refused}
use Rattle.volume_tool.proofs.running.make.Goals as goal

pub returns-in-Err : goal.returns-in-Err
returns-in-Err g c =
    let fault = c.in-Err.fault in
    let given = Make (named_of c.args.volume.now) (plan_read c.args.plan.now) in
    outcome_told g.H.Host g.H.Say g.H.R.Rig (Some given) (Unfit fault) (given, refl, sym c.in-Err.ensures) refl (make_not_host fault)
    (tells_refused g.H.Host g.H.Say (make_status fault) (positive (make_status fault) (make_not fault 0 (omega arith))) c.make_refusal.ensures c.refuse.ensures.told c.refuse.ensures.status)
