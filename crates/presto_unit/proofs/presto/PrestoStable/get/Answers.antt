use Rattle.std.proofs.Common.{refl, ap, rules}
use Rattle.stable.proofs.Clocked.{through}
use Rattle.rig.specs.Devices.{Sizes}
use Rattle.nvram_map.specs.Overlay.{overlay}
use Rattle.presto_unit.proofs.Opening.{same_shown}
use Rattle.presto_unit.proofs.presto.PrestoStable.get.Goals as goal

pub returns-clause-looked : goal.returns-clause-looked
returns-clause-looked g c =
    let looked = c.read_through.ensures.looked in
    record {
      image = ap overlay looked.contents;
      crash = through (λ s. s.rig) c.args.self.now _ (same_shown g.R.Rig g.met.R.Rig.clocked looked.sizes looked.crash);
      opens = search rules;
      later = looked.later;
      sectors = ap (λ (z : Sizes). z.sectors) looked.sizes;
      snapshot = refl;
    }
