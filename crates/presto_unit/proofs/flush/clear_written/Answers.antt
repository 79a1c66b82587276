use Rattle.stable.proofs.Clocked.{weaker}
use Rattle.presto_cache.proofs.Puts.{keep_off_disk, puts_kept_on_board}
use Rattle.presto_cache.specs.Slots.{at, sector_of}
use Rattle.presto_unit.proofs.flush.clear_written.Goals as goal

pub returns-in-Ok-clause-crash : goal.returns-in-Ok-clause-crash
returns-in-Ok-clause-crash g c =
    let law = g.met.R.Rig in
    let sector = sector_of (at c.args.cache.now.slots.items c.args.index) in
    weaker c.drop_entry.ensures.crash (λ d left put. keep_off_disk sector (puts_kept_on_board (c.requires.written (law.clocked.told _ _ d left)) put))

pub returns-in-Err-clause-crash : goal.returns-in-Err-clause-crash
returns-in-Err-clause-crash g c =
    let law = g.met.R.Rig in
    let sector = sector_of (at c.args.cache.now.slots.items c.args.index) in
    weaker c.drop_entry.ensures.crash (λ d left put. keep_off_disk sector (puts_kept_on_board (c.requires.written (law.clocked.told _ _ d left)) put))
