use Rattle.std.proofs.Common.{rules, arith, ◌≡◌, ◌<◌, ◌+◌, ◌-◌, subst}
use Rattle.v7_map.specs.Image.{isize_of}
use Rattle.v7_mend.specs.Changes.{Differ, HasInodes}
use Rattle.v7_mend.specs.Repairs.{SettledTo}
use Rattle.v7_mend.proofs.Differing.{differ_put}
use Rattle.v7_mend.proofs.Running.{answered, few_answered, fails, puts_then}
use Rattle.v7_mend.proofs.SettleSteps.{settle_moment, settle_step, settle_maps}
use Rattle.v7_mend.proofs.settle_all.settle_all.Goals as goal

pub settle_sector-requires-clause-maps : goal.settle_sector-requires-clause-maps
settle_sector-requires-clause-maps g c = λ tells.
    let S = g.S.Stable in
    let below : c.loop-sector.sector < isize_of (S.image c.args.store.now) = let e = c.requires.isize tells in let lt = c.loop-sector-test.true in omega (arith, e, lt) in
    settle_maps (S.image c.args.store.now) (S.image c.loop-sector.store) c.args.links.now c.loop-sector.sector (c.requires.weak tells) (c.loop-sector.invariant.done tells) (c.requires.links tells) (omega arith) below

pub returns-in_err-changed-clause-puts : goal.returns-in_err-changed-clause-puts
returns-in_err-changed-clause-puts g c =
    let S = g.S.Stable in
    let few = c.loop-sector.invariant.few in
    let low = c.loop-sector.auto.sector in
    let end = c.loop-sector-test.true in
    fails S (c.args.isize - 2) (omega arith) c.loop-sector.invariant.puts c.in_err-changed.ensures.puts (λ d left cut.
    let tells = g.met.S.Stable.clocked.told _ _ d left in
    let below : c.loop-sector.sector < isize_of (S.image c.args.store.now) = let e = c.requires.isize tells in let lt = c.loop-sector-test.true in omega (arith, e, lt) in
    settle_moment (S.image c.args.store.now) (S.image c.loop-sector.store) c.args.links.now c.loop-sector.sector (c.requires.weak tells) (c.loop-sector.invariant.done tells) (c.requires.links tells) (omega arith) below d cut)
    c.from_residual.result c.from_residual.ensures.0

pub loop-sector-preserved : goal.loop-sector-preserved
loop-sector-preserved g c =
    let S = g.S.Stable in
    let i = c.loop-sector.invariant in
    let so_far = i.few in
    let few = few_answered S c.in_ok-changed.ensures.puts in
    record {
      done = λ tells.
          let below : c.loop-sector.sector < isize_of (S.image c.args.store.now) = let e = c.requires.isize tells in let lt = c.loop-sector-test.true in omega (arith, e, lt) in
          settle_step (S.image c.args.store.now) (S.image c.loop-sector.store) c.args.links.now c.loop-sector.sector (c.requires.weak tells) (i.done tells) (c.requires.links tells) (omega arith) below
          (S.image c.settle_sector.new.store) (c.in_ok-changed.ensures.done tells);
      exact = λ tells. differ_put (HasInodes c.loop-sector.sector) (HasInodes (c.loop-sector.sector + 1)) (S.image c.args.store.now) (S.image c.loop-sector.store) (S.image c.settle_sector.new.store) c.loop-sector.changed c.in_ok-changed.field-0 c.loop-sector.sector
          (λ q in'. let lt = in'.1 in (in'.0, omega (arith, lt))) (λ some q in' e. let lt = in'.1 in omega (arith, lt, e)) (λ some. (omega arith, omega arith)) (i.exact tells) (c.in_ok-changed.ensures.needed tells);
      puts = puts_then S i.puts (answered S c.in_ok-changed.ensures.puts) (λ d left cut.
          let tells = g.met.S.Stable.clocked.told _ _ d left in
          let below : c.loop-sector.sector < isize_of (S.image c.args.store.now) = let e = c.requires.isize tells in let lt = c.loop-sector-test.true in omega (arith, e, lt) in
          settle_moment (S.image c.args.store.now) (S.image c.loop-sector.store) c.args.links.now c.loop-sector.sector (c.requires.weak tells) (i.done tells) (c.requires.links tells) (omega arith) below d cut);
      few = omega (arith, few, so_far);
    }

pub returns-clause-done : goal.returns-clause-done
returns-clause-done g c = λ tells.
    let low = c.requires.low in
    let end : c.loop-sector.sector ≡ c.args.isize = search rules in
    subst (λ n. SettledTo (g.S.Stable.image c.args.store.now) (g.S.Stable.image c.loop-sector.store) c.args.links.now n) end (c.loop-sector.invariant.done tells)

pub returns-clause-exact : goal.returns-clause-exact
returns-clause-exact g c = λ tells.
    let low = c.requires.low in
    let end : c.loop-sector.sector ≡ c.args.isize = search rules in
    subst (λ n. Differ (HasInodes n) (g.S.Stable.image c.args.store.now) (g.S.Stable.image c.loop-sector.store) c.loop-sector.changed) end (c.loop-sector.invariant.exact tells)
