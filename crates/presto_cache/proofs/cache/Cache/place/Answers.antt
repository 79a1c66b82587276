use Rattle.presto_cache.proofs.Sparing.{placed_free}
use Rattle.presto_cache.proofs.cache.Cache.place.Goals as goal

pub returns-in-None : goal.returns-in-None
returns-in-None c = placed_free c.args.sector c.find.result c.lowest_entry.result c.args.self.now.unused c.find.ensures c.in-None.is c.lowest_entry.ensures
