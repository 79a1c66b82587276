use Rattle.std.proofs.Common.{◌<◌, ◌≤◌, ◌∙◌, sym, ap, refl, subst, List, ℕ, arith}
use Rattle.stable.proofs.Clocked.{through}
use Rattle.stable.specs.States.{StaysOrFails, IsDeviceError}
use Rattle.stable.specs.declared.state.State.{State}
use Rattle.rig.specs.Devices.{Sizes, Readings}
use Rattle.presto_states.specs.Table.{after}
use Rattle.presto_states.specs.declared.table.Happening.{Happening}
use Rattle.presto_cache.specs.Slots.{NoDoubt}
use Rattle.presto_cache.specs.declared.slot.Slot.{Slot}
use Rattle.presto_unit.specs.Disk.{FlushesOne}
use Rattle.presto_unit.specs.Happenings.{failing}
use Rattle.presto_unit.proofs.Happenings.{failed_state, failed_up}
use Rattle.presto_unit.proofs.Entries.{no_doubt, stuck_adds, stuck_length, length_some}
use Rattle.presto_unit.proofs.Room.{sector_of_oldest}
use Rattle.presto_unit.proofs.Runs.{flushes_none, flushes_as_all}
use Rattle.presto_unit.proofs.Units.{nothing_run, flushes_run}
use Rattle.presto_unit.proofs.presto.PrestoTended.flush_one.Goals as goal

pub returns-in_default-clause-keeps : goal.returns-in_default-clause-keeps
returns-in_default-clause-keeps g c =
    let self = c.args.self.now in
    let kept = nothing_run g.R.Rig g.met.R.Rig.clocked self.rig in
    record { image = kept.image; crash = through (λ s. s.rig) self self kept.crash; opens = kept.opens; later = kept.later; sectors = refl }

pub returns-in_default-clause-crash : goal.returns-in_default-clause-crash
returns-in_default-clause-crash g c =
    let law = g.met.R.Rig in
    flushes_none g.R.Rig law.clocked law.shape law.kept_told law.board _ c.args.self.now.knows

pub invariant_of-self-in-Ok : goal.invariant_of-self-in-Ok
invariant_of-self-in-Ok g c =
    let self = c.args.self.now in
    let new = c.flush_oldest.new.cache in
    let sent = c.in-Ok.ensures in
    let entry = c.in-Some.ensures.dirty in
    let oldest = sym c.oldest.ensures.oldest ∙ c.in-Some.is in
    let some = length_some self.cache c.in-Some.index oldest in
    record {
      knows = sent.knows;
      sure = λ up. subst (λ (l : List Slot). NoDoubt l) (sym sent.tried.slots) (no_doubt self.cache.slots.items c.in-Some.index entry.0 (self.sure up));
      clean = λ down. absurd (let none = self.clean down in omega (arith, none, some));
      board = λ up. subst (λ (z : Sizes). 0 < z.buffers) (sym sent.stays.sizes) (self.board up);
      polled = subst (λ (r : Readings). self.tally.polls ≤ r.count) (sym sent.stays.readings) self.polled;
    }

pub returns-in-Ok-clause-keeps : goal.returns-in-Ok-clause-keeps
returns-in-Ok-clause-keeps g c =
    let law = g.met.R.Rig in
    let self = c.args.self.now in
    let sent = c.flush_oldest.ensures in
    let kept = flushes_run g.R.Rig law.clocked (λ tells. law.kept_told self.rig tells ∙ self.knows.kept) sent.stays (flushes_as_all g.R.Rig law.clocked _ sent.crash) in
    record { image = kept.image; crash = through (λ s. s.rig) self _ kept.crash; opens = kept.opens; later = kept.later; sectors = ap (λ (z : Sizes). z.sectors) sent.stays.sizes }

pub returns-in-Err-clause-keeps : goal.returns-in-Err-clause-keeps
returns-in-Err-clause-keeps g c =
    let law = g.met.R.Rig in
    let self = c.args.self.now in
    let sent = c.flush_oldest.ensures in
    let kept = flushes_run g.R.Rig law.clocked (λ tells. law.kept_told self.rig tells ∙ self.knows.kept) sent.stays (flushes_as_all g.R.Rig law.clocked _ sent.crash) in
    record { image = kept.image; crash = through (λ s. s.rig) self _ kept.crash; opens = kept.opens; later = kept.later; sectors = ap (λ (z : Sizes). z.sectors) sent.stays.sizes }

pub returns-in-Ok-clause-crash : goal.returns-in-Ok-clause-crash
returns-in-Ok-clause-crash g c =
    let self = c.args.self.now in
    subst (λ (n : ℕ). FlushesOne g.R.Rig n self.rig c.flush_oldest.new.rig) (sector_of_oldest self.cache c.in-Some.index (sym c.oldest.ensures.oldest ∙ c.in-Some.is)) c.flush_oldest.ensures.crash

pub returns-in-Err-clause-crash : goal.returns-in-Err-clause-crash
returns-in-Err-clause-crash g c =
    let self = c.args.self.now in
    subst (λ (n : ℕ). FlushesOne g.R.Rig n self.rig c.flush_oldest.new.rig) (sector_of_oldest self.cache c.in-Some.index (sym c.oldest.ensures.oldest ∙ c.in-Some.is)) c.flush_oldest.ensures.crash

pub returns-in-Err-clause-adds : goal.returns-in-Err-clause-adds
returns-in-Err-clause-adds g c =
    stuck_adds c.args.self.now.cache c.in-Some.index c.in-Some.ensures.dirty.0 c.in-Some.ensures.dirty.1 (sym c.oldest.ensures.oldest ∙ c.in-Some.is) _ c.in-Err.ensures.tried

pub returns-in-Err-clause-snapshot : goal.returns-in-Err-clause-snapshot
returns-in-Err-clause-snapshot g c =
    let self = c.args.self.now in
    let before = g.R.Rig.faults self.rig in
    let now = g.R.Rig.faults c.flush_oldest.new.rig in
    let why = c.in-Err.cause in
    let oldest = sym c.oldest.ensures.oldest ∙ c.in-Some.is in
    let failed = c.in-Err.ensures.device.failed in
    let state_is = c.happen.ensures.state ∙ ap (λ (h : Happening). after self.track.state h) c.failing.ensures in
    record {
      answer = (
        length_some self.cache c.in-Some.index oldest,
        (
          stuck_length self.cache c.in-Some.index c.in-Some.ensures.dirty.0 c.in-Some.ensures.dirty.1 oldest c.flush_oldest.new.cache c.in-Err.ensures.tried,
          (
            failed.1,
            (
              subst (λ (s : State). StaysOrFails self.track.state s before now) (sym state_is) (failed_state self.track.state why before now failed.0 failed.1),
              (
                (λ up. subst IsDeviceError (sym (state_is ∙ ap (λ (s : State). after s (failing why)) up ∙ failed_up why failed.0)) failed.0),
                c.saturating_add-self.ensures,
              ),
            ),
          ),
        ),
      );
      battery = refl;
      puts = refl;
      polls = refl;
      ups = refl;
    }
