use Rattle.std.proofs.Common.{ap, rules}
use Rattle.stable.proofs.Clocked.{through}
use Rattle.nvram_map.specs.Overlay.{overlay}
use Rattle.presto_unit.proofs.Opening.{same_shown, opens_looked}
use Rattle.presto_unit.proofs.presto.PrestoSteeredStore.stop_after.Goals as goal

pub returns : goal.returns
returns g c =
    let law = g.met.R.Rig in
    let same = c.stop_after.ensures in
    record {
      image = ap overlay same.contents;
      crash = through (λ s. s.rig) c.args.self.now _ (same_shown g.R.Rig law.clocked same.sizes same.crash);
      opens = opens_looked g.R.Rig law.clocked same.sizes same.crash;
      moment = same.moment;
      faults = same.faults;
      sectors = ap (λ z. z.sectors) same.sizes;
      snapshot = search rules;
    }
