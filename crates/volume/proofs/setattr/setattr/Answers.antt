use Rattle.std.proofs.Common.{rules, arith, List, [], ◌∷◌, refl, ap, ◌∙◌}
use Rattle.files_model.specs.declared.call.Call.TheVariants.{Setattr}
use Rattle.files_model.specs.Torn.{Asked}
use Rattle.plan_file.specs.Set.{given, set_puts}
use Rattle.stable.specs.Store.{Image}
use Rattle.stable.proofs.Clocked.{ends, weaker}
use Rattle.v7_map.specs.View.{view}
use Rattle.v7_map.proofs.Whole.{as_long}
use Rattle.volume.proofs.Applying.{torn_same}
use Rattle.volume.proofs.Committing.{crash_planned, put_planned, rest_torn}
use Rattle.volume.proofs.Counting.{cost_looked, cost_planned}
use Rattle.volume.proofs.Naming.{name_same}
use Rattle.volume.proofs.Setting.{rest_set, set_form, set_hurts}
use Rattle.volume.proofs.setattr.setattr.Goals as goal

pub returns-in-Err-Failed-clause-applied : goal.returns-in-Err-Failed-clause-applied
returns-in-Err-Failed-clause-applied g c =
    let S = g.S.Stable in
    let weak = c.requires.rest.weak in
    let looked = c.in-Err-Failed.ensures.looked in
    let old : Image = S.image c.args.store.now in
    let calls : List Asked = (Setattr c.args.file c.args.wanted.now, c.args.cred.now) ∷ [] in
    record {
      leaves = λ told. (torn_same calls c.args.now old (S.image c.plan_setattr.new.store) looked.image (weak told)).torn;
      hurts = set_hurts c.args.file c.args.wanted.now;
      form = tt;
      cause = search rules;
      crash = weaker looked.crash (λ d left same. record { files = torn_same calls c.args.now old d same (weak (g.met.S.Stable.clocked.told _ _ d left)); name = name_same old d same });
    }

pub returns-in-Err-Failed-clause-snapshot : goal.returns-in-Err-Failed-clause-snapshot
returns-in-Err-Failed-clause-snapshot g c =
    let looked = c.in-Err-Failed.ensures.looked in
    cost_looked g.S.Stable g.met.S.Stable.counted c.args.store.now c.plan_setattr.new.store (set_puts c.args.wanted.now) (set_puts c.args.wanted.now) looked.later looked.snapshot

pub returns-in-Err-NoMemory-clause-snapshot : goal.returns-in-Err-NoMemory-clause-snapshot
returns-in-Err-NoMemory-clause-snapshot g c =
    let looked = c.in-Err-NoMemory.ensures.looked in
    cost_looked g.S.Stable g.met.S.Stable.counted c.args.store.now c.plan_setattr.new.store (set_puts c.args.wanted.now) (set_puts c.args.wanted.now) looked.later looked.snapshot

pub returns-in-Ok-run_plan-clause-rest : goal.returns-in-Ok-run_plan-clause-rest
returns-in-Ok-run_plan-clause-rest g c =
    let S = g.S.Stable in
    let rest = c.requires.rest in
    let made = c.in-Ok.ensures in
    let sectors = c.sectors.ensures ∙ c.in-Ok-run_plan.ensures.sectors ∙ made.looked.sectors in
    rest_set S.tells (S.image c.args.store.now) (S.image c.plan_setattr.new.store) (S.image c.run_plan.new.store) (S.sector_count c.args.store.now) (S.sector_count c.run_plan.new.store) c.args.sets.now c.give_back.new.blocks
    c.args.file c.args.wanted.now c.args.cred.now c.args.now c.in-Ok.planned.plan.puts c.in-Ok.planned.reply c.in-Ok.planned.freed.items made.looked.image (c.in-Ok-run_plan.ensures.sectors ∙ made.looked.sectors)
    (λ told. (as_long S.sector_count g.met.S.Stable.clocked g.met.S.Stable.shape c.args.store.now told).size) rest (λ told. made.planned told (rest.strong told refl)) c.in-Ok-run_plan.ensures.done
    (λ le. c.give_back.ensures.given (omega (arith, le, sectors)) ∙ ap (λ l. given l c.args.sets.now.blocks) c.as_slice.ensures.value)
    (λ fit b free. let high = c.give_back.ensures.within (λ a h. let low = fit a h in omega (arith, low, sectors)) b free in omega (arith, high, sectors))

pub returns-in-Ok-run_plan-clause-applied : goal.returns-in-Ok-run_plan-clause-applied
returns-in-Ok-run_plan-clause-applied g c =
    let S = g.S.Stable in
    let rest = c.requires.rest in
    let made = c.in-Ok.ensures in
    let old : Image = S.image c.args.store.now in
    let calls : List Asked = (Setattr c.args.file c.args.wanted.now, c.args.cred.now) ∷ [] in
    record {
      leaves = λ told.
          let planned = made.planned told (rest.strong told refl) in
          (planned.answered, (λ z. view (put_planned c.in-Ok.planned.plan.puts old (S.image c.plan_setattr.new.store) (S.image c.run_plan.new.store) made.looked.image (c.in-Ok-run_plan.ensures.done told) z)) ∙ planned.plan.after);
      hurts = refl;
      form = set_form c.args.file c.args.wanted.now c.in-Ok.planned.reply made.form;
      cause = search rules;
      crash = weaker
          (crash_planned S g.met.S.Stable.clocked calls c.args.now c.args.store.now c.plan_setattr.new.store c.run_plan.new.store c.in-Ok.planned.plan.puts rest.weak made.looked made.fits.past
          (λ told. (made.planned told (rest.strong told refl)).plan) c.in-Ok-run_plan.ensures.crash)
          (λ d left moment. record { files = moment.0; name = moment.1 });
    }

pub returns-in-Ok-run_plan-clause-snapshot : goal.returns-in-Ok-run_plan-clause-snapshot
returns-in-Ok-run_plan-clause-snapshot g c =
    let made = c.in-Ok.ensures in
    cost_planned g.S.Stable _ c.args.store.now c.plan_setattr.new.store c.run_plan.new.store (set_puts c.args.wanted.now) (set_puts c.args.wanted.now) made.looked made.fits.few (λ told. made.fits.few) c.in-Ok-run_plan.ensures.snapshot

pub returns-clause-rest : goal.returns-clause-rest
returns-clause-rest g c =
    let S = g.S.Stable in
    let rest = c.requires.rest in
    let made = c.in-Ok.ensures in
    let calls : List Asked = (Setattr c.args.file c.args.wanted.now, c.args.cred.now) ∷ [] in
    rest_torn S.tells (S.image c.args.store.now) (S.image c.plan_setattr.new.store) (S.image c.run_plan.new.store) (S.sector_count c.args.store.now) (S.sector_count c.run_plan.new.store)
    c.args.sets.now c.args.sets.now calls c.args.now c.in-Ok.planned.plan.puts made.looked.image (c.in-Err.ensures.sectors ∙ made.looked.sectors) (record { blocks = λ a free. free; inodes = refl }) rest
    (λ told. (made.planned told (rest.strong told refl)).plan) (ends g.met.S.Stable.clocked c.in-Err.ensures.crash)

pub returns-clause-applied : goal.returns-clause-applied
returns-clause-applied g c =
    let S = g.S.Stable in
    let rest = c.requires.rest in
    let made = c.in-Ok.ensures in
    let calls : List Asked = (Setattr c.args.file c.args.wanted.now, c.args.cred.now) ∷ [] in
    let crash =
    crash_planned S g.met.S.Stable.clocked calls c.args.now c.args.store.now c.plan_setattr.new.store c.run_plan.new.store c.in-Ok.planned.plan.puts rest.weak made.looked made.fits.past
    (λ told. (made.planned told (rest.strong told refl)).plan) c.in-Err.ensures.crash in
    record {
      leaves = λ told. (ends g.met.S.Stable.clocked crash told).0.torn;
      hurts = set_hurts c.args.file c.args.wanted.now;
      form = tt;
      cause = search rules;
      crash = weaker crash (λ d left moment. record { files = moment.0; name = moment.1 });
    }

pub returns-clause-snapshot : goal.returns-clause-snapshot
returns-clause-snapshot g c =
    let made = c.in-Ok.ensures in
    cost_planned g.S.Stable _ c.args.store.now c.plan_setattr.new.store c.run_plan.new.store (set_puts c.args.wanted.now) (set_puts c.args.wanted.now) made.looked made.fits.few (λ told. made.fits.few) c.in-Err.ensures.snapshot
