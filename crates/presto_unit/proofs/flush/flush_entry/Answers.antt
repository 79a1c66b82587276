use Rattle.std.proofs.Common.{◌∙◌, sym, ap, subst, ℕ, Option}
use Rattle.rig.specs.Devices.{Devices}
use Rattle.presto_cache.specs.Slots.{at, sector_of, spelled}
use Rattle.presto_unit.specs.Disk.{FlushesOne, IsOnDisk}
use Rattle.presto_unit.proofs.Runs.{flushes_looked, flushes_on, unset_on_disk}
use Rattle.presto_unit.proofs.flush.flush_entry.Goals as goal

pub clear_written-requires-clause-written : goal.clear_written-requires-clause-written
clear_written-requires-clause-written g c tells =
    let law = g.met.R.Rig in
    let s = sector_of (at c.args.cache.now.slots.items c.args.index) in
    subst (λ (d : Devices). IsOnDisk s d) (sym c.buffer_at.ensures.looked.contents)
    (unset_on_disk g.R.Rig law.clocked law.shape law.kept_told law.board c.args.index c.requires.knows c.requires.dirty tells
    (c.in-Ok-None.ensures.read.word tells ∙ ap (λ (o : Option ℕ). spelled s o) c.in-Ok-None.field-0-is))

pub returns-in-Err-clause-crash : goal.returns-in-Err-clause-crash
returns-in-Err-clause-crash g c =
    let law = g.met.R.Rig in
    flushes_looked g.R.Rig law.clocked law.shape law.kept_told law.board _ c.requires.knows c.buffer_at.ensures.looked.crash

pub returns-in-Ok-None-clause-crash : goal.returns-in-Ok-None-clause-crash
returns-in-Ok-None-clause-crash g c =
    let law = g.met.R.Rig in
    let s = sector_of (at c.args.cache.now.slots.items c.args.index) in
    flushes_on g.R.Rig law.clocked s c.buffer_at.ensures.looked.sizes (flushes_looked g.R.Rig law.clocked law.shape law.kept_told law.board s c.requires.knows c.buffer_at.ensures.looked.crash) c.clear_written.ensures.crash

pub returns-in-Err-write_out-clause-crash : goal.returns-in-Err-write_out-clause-crash
returns-in-Err-write_out-clause-crash g c =
    let law = g.met.R.Rig in
    let s = sector_of (at c.args.cache.now.slots.items c.args.index) in
    flushes_on g.R.Rig law.clocked s c.buffer_at.ensures.looked.sizes (flushes_looked g.R.Rig law.clocked law.shape law.kept_told law.board s c.requires.knows c.buffer_at.ensures.looked.crash)
    (subst (λ (n : ℕ). FlushesOne g.R.Rig n c.buffer_at.new.rig c.write_out.new.rig) c.sector_at-sector.ensures c.write_out.ensures.crash)

pub returns-in-Ok-clause-crash : goal.returns-in-Ok-clause-crash
returns-in-Ok-clause-crash g c =
    let law = g.met.R.Rig in
    let s = sector_of (at c.args.cache.now.slots.items c.args.index) in
    flushes_on g.R.Rig law.clocked s (c.write_out.ensures.stays.sizes ∙ c.buffer_at.ensures.looked.sizes)
    (flushes_on g.R.Rig law.clocked s c.buffer_at.ensures.looked.sizes (flushes_looked g.R.Rig law.clocked law.shape law.kept_told law.board s c.requires.knows c.buffer_at.ensures.looked.crash)
    (subst (λ (n : ℕ). FlushesOne g.R.Rig n c.buffer_at.new.rig c.write_out.new.rig) c.sector_at-sector.ensures c.write_out.ensures.crash))
    c.clear_written-in-Ok.ensures.crash
