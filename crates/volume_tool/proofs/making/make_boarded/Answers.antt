use Rattle.std.proofs.Common.{arith}
use Rattle.presto_unit.specs.Parts.{rig_of}
use Rattle.volume_tool.specs.Asking.{plan_read}
use Rattle.volume_tool.proofs.Boards.{makes_unit, puts_state}
use Rattle.volume_tool.proofs.making.make_boarded.Goals as goal

pub returns : goal.returns
returns g c =
    let r = g.R.Rig in
    let made = c.make-made.ensures in
    record {
      made = made.made;
      says = makes_unit _ (plan_read c.args.plan.now) c.make-made.result c.requires.fits made.answered;
      later = made.crash.later;
      opens = λ tells named opens. made.opens tells named (r.moment (rig_of c.args.unit)) (omega arith) opens;
      state = puts_state made.snapshot;
      board = λ some. c.make-made.new.store.board;
    }
