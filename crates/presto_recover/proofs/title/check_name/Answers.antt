use Rattle.std.proofs.Common.{ap, sym, arith}
use Rattle.stable.specs.Store.{name_in}
use Rattle.presto_cache.proofs.Known.{known_at}
use Rattle.presto_cache.proofs.Seen.{read_bare}
use Rattle.presto_recover.proofs.title.check_name.Goals as goal

pub returns-in-None-clause-same : goal.returns-in-None-clause-same
returns-in-None-clause-same g c tells =
    let law = g.met.R.Rig in
    let known = known_at g.R.Rig law.clocked law.shape law.kept_told law.board c.requires.knows tells in
    ap name_in (read_bare known 1 (omega (arith, c.requires.sectors)) (sym c.in-None.ensures))
