use Rattle.std.proofs.Common.{◌<◌, ◌≤◌, ◌∙◌, sym, ap, refl, subst, ⊎_elim, arith}
use Rattle.stable.proofs.Clocked.{through}
use Rattle.stable.specs.States.{IsCommanded}
use Rattle.stable.specs.declared.command.Command.{Command}
use Rattle.presto_states.specs.Table.{after}
use Rattle.presto_states.specs.declared.table.Happening.{Happening}
use Rattle.rig.specs.Devices.{Sizes, Readings}
use Rattle.presto_unit.specs.Happenings.{left_answer}
use Rattle.presto_unit.specs.Shown.{shown}
use Rattle.presto_unit.proofs.Commands.{flushed, upped, idle_entries}
use Rattle.presto_unit.proofs.Entries.{no_dirty_sure}
use Rattle.presto_unit.proofs.Happenings.{flushed_up, flushed_up_none, flushed_down}
use Rattle.presto_unit.proofs.Room.{none_dirty}
use Rattle.presto_unit.proofs.Runs.{flushes_none, flushes_as_all, flushes_looked}
use Rattle.presto_unit.proofs.Units.{nothing_run, asked_run, flushes_run}
use Rattle.presto_unit.proofs.presto.PrestoTended.command.Goals as goal

pub returns-then-is_idle-clause-keeps : goal.returns-then-is_idle-clause-keeps
returns-then-is_idle-clause-keeps g c =
    let self = c.args.self.now in
    let kept = nothing_run g.R.Rig g.met.R.Rig.clocked self.rig in
    record { image = kept.image; crash = through (λ s. s.rig) self self kept.crash; opens = kept.opens; later = kept.later; sectors = refl }

pub returns-then-is_idle-clause-crash : goal.returns-then-is_idle-clause-crash
returns-then-is_idle-clause-crash g c =
    let law = g.met.R.Rig in
    flushes_as_all g.R.Rig law.clocked 0 (flushes_none g.R.Rig law.clocked law.shape law.kept_told law.board 0 c.args.self.now.knows)

pub returns-in-Up-clause-keeps : goal.returns-in-Up-clause-keeps
returns-in-Up-clause-keeps g c =
    let self = c.args.self.now in
    let kept = asked_run g.R.Rig g.met.R.Rig.clocked c.go_up.ensures.asked in
    record { image = kept.image; crash = through (λ s. s.rig) self _ kept.crash; opens = kept.opens; later = kept.later; sectors = ap (λ (z : Sizes). z.sectors) c.go_up.ensures.asked.sizes }

pub returns-in-Up-clause-crash : goal.returns-in-Up-clause-crash
returns-in-Up-clause-crash g c =
    let law = g.met.R.Rig in
    flushes_as_all g.R.Rig law.clocked 0 (flushes_looked g.R.Rig law.clocked law.shape law.kept_told law.board 0 c.args.self.now.knows c.go_up.ensures.asked.crash)

pub returns-in-Up-clause-snapshot : goal.returns-in-Up-clause-snapshot
returns-in-Up-clause-snapshot g c =
    let self = c.args.self.now in
    let before = g.R.Rig.faults self.rig in
    let now = g.R.Rig.faults c.go_up.new.rig in
    let counts = c.go_up.ensures.counts in
    let old = shown self.track.state self.cache self.tally in
    let new = shown c.go_up.new.track.state self.cache c.go_up.new.tally in
    subst (λ (a : Command). IsCommanded a c.go_up.result before now old new) (sym c.in-Up.is)
    (upped c.go_up.result before now old new c.go_up.ensures.answered counts.ups
    (λ ne. let u = counts.unread ne in (u.2, u.1))
    (omega (arith, c.go_up.ensures.asked.faults)) refl counts.puts counts.polls counts.tries)

pub invariant_of-self-in_default : goal.invariant_of-self-in_default
invariant_of-self-in_default g c =
    let self = c.args.self.now in
    let new = c.flush_all-first.new.cache in
    let all = c.flush_all-first.ensures in
    let first = c.flush_all-first.result in
    let state_is = c.happen.ensures.state ∙ ap (λ (h : Happening). after self.track.state h) c.flushing.ensures in
    record {
      knows = all.knows;
      sure = λ up. no_dirty_sure new.slots.items (none_dirty new (all.flushed.none (flushed_up_none self.track.state c.args.command first c.in_default.not-Up (c.is_idle.ensures.busy c.if-is_idle.false) (sym state_is ∙ up))));
      clean = λ down. ⊎_elim
          (λ was. let e = self.clean was in omega (arith, e, all.adds.count))
          (λ none. all.flushed.none none)
          (flushed_down self.track.state c.args.command first (sym state_is ∙ down));
      board = λ up. subst (λ (z : Sizes). 0 < z.buffers) (sym all.stays.sizes) (self.board (flushed_up self.track.state c.args.command first (sym state_is ∙ up)));
      polled = subst (λ (r : Readings). self.tally.polls ≤ r.count) (sym all.stays.readings) self.polled;
    }

pub returns-in_default-clause-keeps : goal.returns-in_default-clause-keeps
returns-in_default-clause-keeps g c =
    let law = g.met.R.Rig in
    let self = c.args.self.now in
    let all = c.flush_all-first.ensures in
    let kept = flushes_run g.R.Rig law.clocked (λ tells. law.kept_told self.rig tells ∙ self.knows.kept) all.stays all.crash in
    record { image = kept.image; crash = through (λ s. s.rig) self _ kept.crash; opens = kept.opens; later = kept.later; sectors = ap (λ (z : Sizes). z.sectors) all.stays.sizes }

pub returns-in_default-clause-idle : goal.returns-in_default-clause-idle
returns-in_default-clause-idle g c =
    let self = c.args.self.now in
    idle_entries self.track.state c.args.command _ _ c.in_default.not-Up (c.is_idle.ensures.busy c.if-is_idle.false) self.clean c.flush_all-first.ensures.flushed.tried

pub returns-in_default-clause-snapshot : goal.returns-in_default-clause-snapshot
returns-in_default-clause-snapshot g c =
    let self = c.args.self.now in
    let all = c.flush_all-first.ensures in
    let new = c.flush_all-first.new.cache in
    let before = g.R.Rig.faults self.rig in
    let now = g.R.Rig.faults c.flush_all-first.new.rig in
    flushed c.args.command c.flush_all-first.result c.left_answer.result before now (shown self.track.state self.cache self.tally) (shown c.happen.new.self.state new self.tally)
    c.in_default.not-Up (c.is_idle.ensures.busy c.if-is_idle.false) self.clean all.flushed.none all.flushed.some all.flushed.device all.flushed.rose all.flushed.later all.adds.count
    (c.left_answer.ensures ∙ ap left_answer c.dirty.ensures.listed)
    (c.happen.ensures.state ∙ ap (λ (h : Happening). after self.track.state h) c.flushing.ensures)
    refl refl refl refl refl
