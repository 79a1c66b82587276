use Rattle.std.proofs.Common.{arith}
use Rattle.presto_control.proofs.Waits.{waits_idle, waits_other}
use Rattle.presto_control.proofs.waiting.wait.Goals as goal

pub waiting-preserved-then-idles-lt-IDLES : goal.waiting-preserved-then-idles-lt-IDLES
waiting-preserved-then-idles-lt-IDLES g c = waits_idle g.L.Link c.args.asked.now c.waiting.idles c.waiting.others c.waiting.invariant c.in-Idle.ensures (omega (arith, c.if-idles-lt-IDLES.true))

pub waiting-preserved : goal.waiting-preserved
waiting-preserved g c = waits_other g.L.Link c.args.asked.now c.waiting.idles c.waiting.others c.waiting.invariant c.in-Other.ensures (omega (arith, c.if-others-lt-OTHERS.true))
