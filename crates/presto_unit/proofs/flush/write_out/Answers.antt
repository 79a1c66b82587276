use Rattle.std.proofs.Common.{◌∙◌, sym, ap, [], get_or}
use Rattle.rig.specs.Devices.{Devices}
use Rattle.presto_unit.proofs.Runs.{knows_same, holds_same, knows_written, flushes_looked, flushes_on, flushes_written, stands_written}
use Rattle.presto_unit.proofs.flush.write_out.Goals as goal

pub returns-in-Err-clause-crash : goal.returns-in-Err-clause-crash
returns-in-Err-clause-crash g c =
    let law = g.met.R.Rig in
    flushes_looked g.R.Rig law.clocked law.shape law.kept_told law.board c.args.sector c.requires.knows c.load_buffer.ensures.crash

pub returns-in-Err-write-clause-knows : goal.returns-in-Err-write-clause-knows
returns-in-Err-write-clause-knows g c =
    let law = g.met.R.Rig in
    let load = c.load_buffer.ensures in
    knows_written g.R.Rig law.clocked law.shape law.kept_told law.board c.args.sector _ c.write.ensures.sizes c.write.ensures.is_kept c.write.ensures.crash
    (knows_same g.R.Rig load.contents load.sizes load.is_kept c.requires.knows)

pub returns-in-Err-write-clause-crash : goal.returns-in-Err-write-clause-crash
returns-in-Err-write-clause-crash g c =
    let law = g.met.R.Rig in
    let r = g.R.Rig in
    let s = c.args.sector in
    let load = c.load_buffer.ensures in
    flushes_on r law.clocked s load.sizes (flushes_looked r law.clocked law.shape law.kept_told law.board s c.requires.knows load.crash)
    (flushes_written r law.clocked law.shape law.kept_told law.board c.args.index s c.args.buffer _ (knows_same r load.contents load.sizes load.is_kept c.requires.knows)
    c.requires.dirty c.requires.sector (holds_same r c.args.index s c.args.buffer load.contents load.sizes c.requires.holds)
    (λ tells. c.in-Ok.ensures.done tells ∙ ap (λ (d : Devices). get_or d.buffers c.args.buffer []) (sym load.contents)) c.write.ensures.crash)

pub returns-in-Ok-write-clause-written : goal.returns-in-Ok-write-clause-written
returns-in-Ok-write-clause-written g c tells =
    let law = g.met.R.Rig in
    let r = g.R.Rig in
    let s = c.args.sector in
    let load = c.load_buffer.ensures in
    stands_written r law.clocked law.shape law.kept_told law.board c.args.index s c.args.buffer _ (knows_same r load.contents load.sizes load.is_kept c.requires.knows)
    c.requires.dirty c.requires.sector (holds_same r c.args.index s c.args.buffer load.contents load.sizes c.requires.holds)
    (λ told. c.in-Ok.ensures.done told ∙ ap (λ (d : Devices). get_or d.buffers c.args.buffer []) (sym load.contents)) tells (c.in-Ok-write.ensures.done tells)

pub returns-in-Ok-write-clause-crash : goal.returns-in-Ok-write-clause-crash
returns-in-Ok-write-clause-crash g c =
    let law = g.met.R.Rig in
    let r = g.R.Rig in
    let s = c.args.sector in
    let load = c.load_buffer.ensures in
    flushes_on r law.clocked s load.sizes (flushes_looked r law.clocked law.shape law.kept_told law.board s c.requires.knows load.crash)
    (flushes_written r law.clocked law.shape law.kept_told law.board c.args.index s c.args.buffer _ (knows_same r load.contents load.sizes load.is_kept c.requires.knows)
    c.requires.dirty c.requires.sector (holds_same r c.args.index s c.args.buffer load.contents load.sizes c.requires.holds)
    (λ tells. c.in-Ok.ensures.done tells ∙ ap (λ (d : Devices). get_or d.buffers c.args.buffer []) (sym load.contents)) c.write.ensures.crash)
