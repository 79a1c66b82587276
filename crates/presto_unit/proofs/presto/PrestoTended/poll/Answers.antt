use Rattle.std.proofs.Common.{ap, arith}
use Rattle.stable.proofs.Clocked.{through}
use Rattle.nvram_map.specs.Overlay.{overlay}
use Rattle.presto_unit.proofs.Opening.{same_shown, opens_looked}
use Rattle.presto_unit.proofs.presto.PrestoTended.poll.Goals as goal

pub returns-clause-keeps : goal.returns-clause-keeps
returns-clause-keeps g c =
    let law = g.met.R.Rig in
    let read = c.battery-battery.ensures in
    record {
      image = λ tells. ap overlay read.contents;
      crash = through (λ s. s.rig) c.args.self.now _ (same_shown g.R.Rig law.clocked read.sizes read.crash);
      opens = opens_looked g.R.Rig law.clocked read.sizes read.crash;
      later = omega (arith, read.faults);
      sectors = ap (λ z. z.sectors) read.sizes;
    }
