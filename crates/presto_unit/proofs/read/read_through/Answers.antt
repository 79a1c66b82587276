use Rattle.std.proofs.Common.{◌∙◌, sym}
use Rattle.presto_cache.proofs.Known.{known_at}
use Rattle.presto_cache.proofs.Runs.{on_ok}
use Rattle.presto_cache.proofs.Places.{entry_found}
use Rattle.presto_cache.proofs.Seen.{read_bare}
use Rattle.presto_unit.proofs.read.read_through.Goals as goal

pub read_entry-requires-clause-dirty : goal.read_entry-requires-clause-dirty
read_entry-requires-clause-dirty g c =
    let there = entry_found c.args.cache.now.slots.items c.args.sector c.in-Some.index (sym c.in-Some.ensures) in
    record { within = there.0; dirty = there.1 }

pub read_entry-requires-clause-sector : goal.read_entry-requires-clause-sector
read_entry-requires-clause-sector g c = (entry_found c.args.cache.now.slots.items c.args.sector c.in-Some.index (sym c.in-Some.ensures)).2

pub returns-in-None-clause-done : goal.returns-in-None-clause-done
returns-in-None-clause-done g c tells =
    let law = g.met.R.Rig in
    let known = known_at g.R.Rig law.clocked law.shape law.kept_told law.board c.requires.knows tells in
    on_ok (λ is. is ∙ sym (read_bare known c.args.sector c.requires.sector (sym c.in-None.ensures))) c.read.result (c.read.ensures.done tells)
