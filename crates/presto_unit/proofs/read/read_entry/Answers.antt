use Rattle.std.proofs.Common.{◌≡◌, ◌<◌, Some, None, ◌∙◌, sym, ap, subst, get_or, [], ℕ, Option, IfSome}
use Rattle.rig.specs.Devices.{Devices}
use Rattle.nvram_map.specs.Overlay.{entries}
use Rattle.presto_cache.specs.Slots.{spelled}
use Rattle.presto_cache.proofs.Known.{known_at}
use Rattle.presto_cache.proofs.Runs.{on_ok}
use Rattle.presto_cache.proofs.Seen.{read_set, read_unset}
use Rattle.presto_unit.proofs.read.read_entry.Goals as goal

pub returns-in-Some-clause-done : goal.returns-in-Some-clause-done
returns-in-Some-clause-done g c tells =
    let law = g.met.R.Rig in
    let x = g.R.Rig.contents c.args.rig.now in
    let sizes = g.R.Rig.sizes c.args.rig.now in
    let s = c.args.sector in
    let known = known_at g.R.Rig law.clocked law.shape law.kept_told law.board c.requires.knows tells in
    let read = c.in_ok-buffer.ensures.read in
    let w : get_or (entries x) c.args.index 0 ≡ spelled s (Some c.in-Some.buffer) =
    read.word tells ∙ ap (λ (n : ℕ). spelled n c.in_ok-buffer.buffer) c.requires.sector ∙ ap (λ (o : Option ℕ). spelled s o) c.in-Some.is in
    let low : c.in-Some.buffer < sizes.buffers = subst (λ (o : Option ℕ). IfSome o (λ b. b < sizes.buffers)) c.in-Some.is read.in_range in
    on_ok (λ is. is ∙ ap (λ (d : Devices). get_or d.buffers c.in-Some.buffer []) c.buffer_at.ensures.looked.contents
    ∙ sym (read_set known c.args.index s c.requires.dirty.within c.requires.dirty.dirty c.requires.sector c.in-Some.buffer low w))
    c.load_buffer.result (c.load_buffer.ensures.done tells)

pub returns-in-None-clause-done : goal.returns-in-None-clause-done
returns-in-None-clause-done g c tells =
    let law = g.met.R.Rig in
    let x = g.R.Rig.contents c.args.rig.now in
    let s = c.args.sector in
    let known = known_at g.R.Rig law.clocked law.shape law.kept_told law.board c.requires.knows tells in
    let w : get_or (entries x) c.args.index 0 ≡ spelled s None =
    c.in_ok-buffer.ensures.read.word tells ∙ ap (λ (n : ℕ). spelled n c.in_ok-buffer.buffer) c.requires.sector ∙ ap (λ (o : Option ℕ). spelled s o) c.in-None.is in
    on_ok (λ is. is ∙ ap (λ (d : Devices). get_or d.disk s []) c.buffer_at.ensures.looked.contents
    ∙ sym (read_unset known c.args.index s c.requires.dirty.within c.requires.dirty.dirty c.requires.sector w))
    c.read.result (c.read.ensures.done tells)
