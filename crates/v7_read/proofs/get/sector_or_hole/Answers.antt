use Rattle.stable.proofs.Looking.{no_look}
use Rattle.v7_read.proofs.get.sector_or_hole.Goals as goal

pub returns-then-address-eq0-clause-looked : goal.returns-then-address-eq0-clause-looked
returns-then-address-eq0-clause-looked g c = no_look g.S.Stable g.met.S.Stable.clocked c.args.store.now

pub returns-clause-looked : goal.returns-clause-looked
returns-clause-looked g c = c.get_sector.ensures.looked
