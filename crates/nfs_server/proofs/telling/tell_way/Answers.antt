use Rattle.std.proofs.Common.{sym, ap}
use Rattle.nfs_server.specs.Course.{end_lines}
use Rattle.run_lines.proofs.Sayings.{told_none, told_as}
use Rattle.nfs_server.proofs.telling.tell_way.Goals as goal

pub returns-in-Closed-clause-told : goal.returns-in-Closed-clause-told
returns-in-Closed-clause-told g c = told_as g.H.Host g.H.Say (sym (ap end_lines c.in-Closed.is)) (told_none g.H.Host g.H.Say)

pub returns-in-Halted-clause-told : goal.returns-in-Halted-clause-told
returns-in-Halted-clause-told g c = told_as g.H.Host g.H.Say (sym (ap end_lines c.in-Halted.is)) (told_none g.H.Host g.H.Say)
