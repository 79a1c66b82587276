use Rattle.presto_cache.proofs.Known.{known_at}
use Rattle.presto_unit.proofs.Whole.{none_set}
use Rattle.presto_unit.proofs.presto.Presto.into_rig.Goals as goal

pub returns-clause-bare : goal.returns-clause-bare
returns-clause-bare g c =
    let self = c.args.self in
    let law = g.met.R.Rig in
    λ tells down. none_set (g.R.Rig.sizes self.rig) self.cache (g.R.Rig.contents self.rig) (known_at g.R.Rig law.clocked law.shape law.kept_told law.board self.knows tells) (self.clean down)
