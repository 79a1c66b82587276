use Rattle.std.proofs.Common.{rules, refl, ◌∙◌}
use Rattle.files_model.specs.Batch.{calls_of}
use Rattle.plan_file.specs.Planned.{plan_puts}
use Rattle.stable.specs.Store.{Image}
use Rattle.stable.proofs.Clocked.{ends, weaker}
use Rattle.v7_map.specs.View.{view}
use Rattle.volume.proofs.Committing.{crash_planned, put_planned, rest_torn}
use Rattle.volume.proofs.Counting.{cost_looked, cost_planned}
use Rattle.volume.proofs.batch.make_batch.Goals as goal

pub returns-in-Err-Failed-clause-snapshot : goal.returns-in-Err-Failed-clause-snapshot
returns-in-Err-Failed-clause-snapshot g c =
    let looked = c.in-Err-Failed.ensures.looked in
    cost_looked g.S.Stable g.met.S.Stable.counted c.args.store.now c.plan_writes.new.store plan_puts _ looked.later looked.snapshot

pub returns-in-Err-NoMemory-clause-snapshot : goal.returns-in-Err-NoMemory-clause-snapshot
returns-in-Err-NoMemory-clause-snapshot g c =
    let looked = c.in-Err-NoMemory.ensures.looked in
    cost_looked g.S.Stable g.met.S.Stable.counted c.args.store.now c.plan_writes.new.store plan_puts _ looked.later looked.snapshot

pub returns-in-Ok-run_plan-clause-committed : goal.returns-in-Ok-run_plan-clause-committed
returns-in-Ok-run_plan-clause-committed g c =
    let S = g.S.Stable in
    let clocked = g.met.S.Stable.clocked in
    let rest = c.requires.rest in
    let made = c.in-Ok.ensures in
    let image : Image = S.image c.args.store.now in
    record {
      leaves = λ told.
          let planned = made.planned told (rest.strong told refl) (rest.are_sets told refl) in
          (planned.answered, (λ z. view (put_planned c.in-Ok.planned.plan.puts image (S.image c.plan_writes.new.store) (S.image c.run_plan.new.store) made.looked.image (c.in-Ok-run_plan.ensures.done told) z)) ∙ planned.plan.after);
      hurts = refl;
      replies = (made.fits.count_is, made.fits.forms);
      cause = search rules;
      crash = weaker
          (crash_planned S clocked (calls_of c.args.file c.args.batch.now) c.args.now c.args.store.now c.plan_writes.new.store c.run_plan.new.store c.in-Ok.planned.plan.puts rest.weak made.looked made.fits.plan.past
          (λ told. (made.planned told (rest.strong told refl) (rest.are_sets told refl)).plan) c.in-Ok-run_plan.ensures.crash)
          (λ d left moment. record { files = moment.0; name = moment.1 });
    }

pub returns-in-Ok-run_plan-clause-snapshot : goal.returns-in-Ok-run_plan-clause-snapshot
returns-in-Ok-run_plan-clause-snapshot g c =
    let rest = c.requires.rest in
    let made = c.in-Ok.ensures in
    cost_planned g.S.Stable _ c.args.store.now c.plan_writes.new.store c.run_plan.new.store plan_puts _ made.looked made.fits.plan.few
    (λ told. (made.planned told (rest.strong told refl) (rest.are_sets told refl)).cheap) c.in-Ok-run_plan.ensures.snapshot

pub returns-clause-rest : goal.returns-clause-rest
returns-clause-rest g c =
    let S = g.S.Stable in
    let rest = c.requires.rest in
    let made = c.in-Ok.ensures in
    rest_torn S.tells (S.image c.args.store.now) (S.image c.plan_writes.new.store) (S.image c.run_plan.new.store) (S.sector_count c.args.store.now) (S.sector_count c.run_plan.new.store)
    c.args.sets.now c.plan_writes.new.sets (calls_of c.args.file c.args.batch.now) c.args.now c.in-Ok.planned.plan.puts made.looked.image (c.in-Err.ensures.sectors ∙ made.looked.sectors) made.takes rest
    (λ told. (made.planned told (rest.strong told refl) (rest.are_sets told refl)).plan) (ends g.met.S.Stable.clocked c.in-Err.ensures.crash)

pub returns-clause-committed : goal.returns-clause-committed
returns-clause-committed g c =
    let S = g.S.Stable in
    let clocked = g.met.S.Stable.clocked in
    let rest = c.requires.rest in
    let made = c.in-Ok.ensures in
    let crash =
    crash_planned S clocked (calls_of c.args.file c.args.batch.now) c.args.now c.args.store.now c.plan_writes.new.store c.run_plan.new.store c.in-Ok.planned.plan.puts rest.weak made.looked made.fits.plan.past
    (λ told. (made.planned told (rest.strong told refl) (rest.are_sets told refl)).plan) c.in-Err.ensures.crash in
    record {
      leaves = λ told. (ends clocked crash told).0.torn;
      hurts = refl;
      replies = tt;
      cause = search rules;
      crash = weaker crash (λ d left moment. record { files = moment.0; name = moment.1 });
    }

pub returns-clause-snapshot : goal.returns-clause-snapshot
returns-clause-snapshot g c =
    let rest = c.requires.rest in
    let made = c.in-Ok.ensures in
    cost_planned g.S.Stable _ c.args.store.now c.plan_writes.new.store c.run_plan.new.store plan_puts _ made.looked made.fits.plan.few
    (λ told. (made.planned told (rest.strong told refl) (rest.are_sets told refl)).cheap) c.in-Err.ensures.snapshot
