use Rattle.std.proofs.Common.{arith}
use Rattle.presto_unit.specs.Parts.{rig_of}
use Rattle.run_lines.specs.Overlays.{unit_store}
use Rattle.volume_tool.specs.Asking.{plan_read}
use Rattle.volume_tool.proofs.Boards.{makes_unit, puts_state}
use Rattle.volume_tool.proofs.making.make_bare.Goals as goal

pub returns : goal.returns
returns g c =
    let r = g.R.Rig in
    let made = c.make-made.ensures in
    record {
      made = made.made;
      says = makes_unit (unit_store r) (plan_read c.args.plan.now) c.make-made.result c.requires.fits made.answered;
      later = made.crash.later;
      opens = λ tells named opens. made.opens tells named (r.moment (rig_of c.args.unit)) (omega arith) opens;
      state = puts_state made.snapshot;
      board = λ some. let none = c.requires.none in absurd (omega (arith, none, some));
    }
