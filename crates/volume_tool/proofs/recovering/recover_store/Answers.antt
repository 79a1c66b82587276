use Rattle.std.proofs.Common.{arith, Err}
use Rattle.run_lines.specs.Refusals.{volume_status}
use Rattle.run_lines.proofs.Statuses.{volume_not}
use Rattle.volume_tool.specs.Course.{NoVolume}
use Rattle.volume_tool.specs.Kept.{SameFiles}
use Rattle.volume_tool.proofs.Keeping.{files_both, files_same, keeps_both, repair_keeps}
use Rattle.volume_tool.proofs.Lent.{positive}
use Rattle.volume_tool.proofs.Repairs.{fault_of, idle, stopped_as}
use Rattle.volume_tool.proofs.Tellings.{tells_later, tells_refused}
use Rattle.volume_tool.proofs.recovering.recover_store.Goals as goal

pub finish-requires-clause-idle : goal.finish-requires-clause-idle
finish-requires-clause-idle g c _ _ tells = idle (c.in-Ok.ensures.leaves tells)

pub returns-in-Err-clause-keeps : goal.returns-in-Err-clause-keeps
returns-in-Err-clause-keeps g c = repair_keeps g.S.Stable (Err c.in-Err.fault) c.in-Err.ensures.run

pub returns-in-Err-clause-runs : goal.returns-in-Err-clause-runs
returns-in-Err-clause-runs g c =
    let h = g.H.Host in
    let say = g.H.Say in
    let fault = c.in-Err.fault in
    let now = c.now-second.ensures in
    let tells = tells_refused h say (volume_status fault) (positive (volume_status fault) (volume_not fault 0 (omega arith))) c.volume_refusal.ensures c.refuse.ensures.told c.refuse.ensures.status in
    record {
      course = NoVolume fault;
      found = fault_of g.S.Stable fault c.in-Err.ensures.leaves c.in-Err.ensures.run;
      tells = tells_later h say record { rigs = now.rigs; posts = now.posts; faults = now.faults } now.lines tells;
    }

pub returns-in-Ok-clause-keeps : goal.returns-in-Ok-clause-keeps
returns-in-Ok-clause-keeps g c = keeps_both g.S.Stable g.met.S.Stable.clocked SameFiles files_same files_both (repair_keeps g.S.Stable _ c.in-Ok.ensures.run) c.finish.ensures.keeps

pub returns-in-Ok-clause-runs : goal.returns-in-Ok-clause-runs
returns-in-Ok-clause-runs g c =
    let runs = c.finish.ensures.runs in
    let now = c.now-second.ensures in
    record {
      course = runs.course;
      found = stopped_as g.S.Stable c.finish.new.store c.in-Ok.mended c.args.recovered c.now-second.result runs.course c.in-Ok.ensures.leaves c.in-Ok.ensures.run.puts.later runs.found;
      tells = tells_later g.H.Host g.H.Say record { rigs = now.rigs; posts = now.posts; faults = now.faults } now.lines runs.tells;
    }
