use Rattle.std.proofs.Common.{ℕ, ◌≤◌, length, refl, sym, subst}
use Rattle.files_model.specs.Torn.{Asked}
use Rattle.volume.specs.Costs.{call_cost, most_puts}
use Rattle.v7_map.specs.View.{view}
use Rattle.volume.proofs.CarriedOut.{applies_looked, fewer_fit, planned_looked}
use Rattle.volume.proofs.Counting.{cost_looked, cost_planned}
use Rattle.volume.proofs.NamedCalls.{is-change, cost-is}
use Rattle.volume.proofs.names.change_names.Goals as goal

pub carry_out-requires-clause-fit : goal.carry_out-requires-clause-fit
carry_out-requires-clause-fit g c =
    let S = g.S.Stable in
    let made = c.in-Ok.ensures in
    fewer_fit (S.sector_count c.args.store.now) (S.sector_count c.plan_names.new.store) c.args.sets.now c.plan_names.new.sets made.looked.sectors made.takes.takes c.requires.rest.fits

pub returns-in-Ok-clause-rest : goal.returns-in-Ok-clause-rest
returns-in-Ok-clause-rest g c =
    let S = g.S.Stable in
    let rest = c.requires.rest in
    let made = c.in-Ok.ensures in
    let asked : Asked = (c.args.call.now, c.args.cred.now) in
    (c.carry_out.ensures.carried asked.0 asked.1 c.args.now (is-change asked.0 c.requires.named) made.can.form (λ told.
    planned_looked (S.image c.args.store.now) (S.image c.plan_names.new.store) asked c.args.now c.plan_names.new.sets c.in-Ok.planned made.looked.image
    (made.planned told (rest.strong told refl) (rest.are_sets told refl)))).rest

pub returns-in-Ok-clause-applied : goal.returns-in-Ok-clause-applied
returns-in-Ok-clause-applied g c =
    let S = g.S.Stable in
    let rest = c.requires.rest in
    let made = c.in-Ok.ensures in
    let asked : Asked = (c.args.call.now, c.args.cred.now) in
    applies_looked S g.met.S.Stable.clocked asked.0 asked.1 c.args.now c.args.store.now c.plan_names.new.store c.carry_out.new.store _ c.carry_out.result rest.weak made.looked
    (c.carry_out.ensures.carried asked.0 asked.1 c.args.now (is-change asked.0 c.requires.named) made.can.form (λ told.
    planned_looked (S.image c.args.store.now) (S.image c.plan_names.new.store) asked c.args.now c.plan_names.new.sets c.in-Ok.planned made.looked.image
    (made.planned told (rest.strong told refl) (rest.are_sets told refl)))).applied

pub returns-in-Err-Failed-clause-snapshot : goal.returns-in-Err-Failed-clause-snapshot
returns-in-Err-Failed-clause-snapshot g c =
    let looked = c.in-Err-Failed.ensures.looked in
    cost_looked g.S.Stable g.met.S.Stable.counted c.args.store.now c.plan_names.new.store _ _ looked.later looked.snapshot

pub returns-in-Err-NoMemory-clause-snapshot : goal.returns-in-Err-NoMemory-clause-snapshot
returns-in-Err-NoMemory-clause-snapshot g c =
    let looked = c.in-Err-NoMemory.ensures.looked in
    cost_looked g.S.Stable g.met.S.Stable.counted c.args.store.now c.plan_names.new.store _ _ looked.later looked.snapshot

pub returns-in-Ok-clause-snapshot : goal.returns-in-Ok-clause-snapshot
returns-in-Ok-clause-snapshot g c =
    let made = c.in-Ok.ensures in
    let files = view (g.S.Stable.image c.args.store.now) in
    let same = cost-is files c.args.call.now c.args.cred.now c.args.now c.requires.named in
    cost_planned g.S.Stable _ c.args.store.now c.plan_names.new.store c.carry_out.new.store (most_puts c.args.call.now) (call_cost files c.args.call.now c.args.cred.now c.args.now) made.looked made.can.fits.few
    (λ told. subst (λ (n : ℕ). length c.in-Ok.planned.plan.puts ≤ n) (sym same) made.can.fits.few) c.carry_out.ensures.puts
