use Rattle.std.proofs.Common.{◌+◌, ◌-◌}
use Rattle.presto_control.proofs.Waits.{Waiting}
use Rattle.presto_control.proofs.waiting.wait.Given as goal

abbrev pub invariant-waiting : goal.invariant-waiting
invariant-waiting g l = Waiting g.L.Link l.asked l.fn.link l.link l.idles l.others

abbrev pub decreases-waiting : goal.decreases-waiting
decreases-waiting g l = 68 - (l.idles + l.others)
