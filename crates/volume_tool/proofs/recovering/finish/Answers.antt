use Rattle.std.proofs.Common.{arith, ◌∙◌, refl}
use Rattle.volume_tool.specs.Course.{NotStopped, Recovered}
use Rattle.volume_tool.proofs.Tellings.{tells_as, tells_refused}
use Rattle.volume_tool.proofs.recovering.finish.Goals as goal

pub returns-in-Err-clause-runs : goal.returns-in-Err-clause-runs
returns-in-Err-clause-runs g c = record {
  course = NotStopped;
  found = c.in-Err.ensures.cause.failed;
  tells = tells_refused g.H.Host g.H.Say 74 (omega arith) c.device_failed.ensures c.refuse.ensures.told c.refuse.ensures.status;
}

pub returns-in-Ok-clause-runs : goal.returns-in-Ok-clause-runs
returns-in-Ok-clause-runs g c = record {
  course = Recovered c.args.recovered c.args.mended.now.repaired.changed;
  found = (refl, refl, c.in-Ok.ensures.done, c.in-Ok.ensures.down);
  tells = tells_as g.H.Host g.H.Say (c.as_str.ensures.value ∙ c.recovered_line.ensures) c.answer.ensures;
}
