use Rattle.std.proofs.Common.{rules, arith, ◌≤◌, ◌-◌, refl}
use Rattle.stable.proofs.Clocked.{started, goes_on, ends}
use Rattle.v7_map.proofs.Whole.{as_long}
use Rattle.v7_make.specs.Made.{KeepsButInodes}
use Rattle.v7_make.proofs.FreshSteps.{fresh_step, fresh_end}
use Rattle.v7_make.proofs.Outside.{inodes_none, inodes_more}
use Rattle.v7_make.proofs.Puts.{some_none, some_one, some_then, some_wider}
use Rattle.v7_make.proofs.put_fresh.put_inodes.Goals as goal

pub loop-sector-init : goal.loop-sector-init
loop-sector-init g c =
    let S = g.S.Stable in
    record {
      done = λ tells s low high. absurd (omega (arith, low, high));
      crash = started g.met.S.Stable.clocked c.args.store.now (KeepsButInodes c.args.isize (S.image c.args.store.now)) (λ tells. inodes_none (S.image c.args.store.now) c.args.isize);
      opens = λ t le opens. opens;
      faults = omega arith;
      sectors = refl;
      snapshot = some_none _ _ _ (g.met.S.Stable.counted c.args.store.now);
    }

pub returns-in_err-put-clause-crash : goal.returns-in_err-put-clause-crash
returns-in_err-put-clause-crash g c =
    let S = g.S.Stable in
    let i = c.loop-sector.invariant in
    goes_on i.crash c.put.ensures.crash (λ d left cut.
    let tells = g.met.S.Stable.clocked.told _ _ d left in
    inodes_more (S.image c.args.store.now) (S.image c.loop-sector.store) d c.args.isize c.loop-sector.sector c.fresh_inodes.result c.loop-sector.auto.sector c.loop-sector-test.true (ends g.met.S.Stable.clocked i.crash tells) cut)

pub returns-in_err-put-clause-opens : goal.returns-in_err-put-clause-opens
returns-in_err-put-clause-opens g c = λ t le opens.
    let i = c.loop-sector.invariant in
    let later = i.crash.later in
    let low : 2 ≤ c.loop-sector.sector = c.loop-sector.auto.sector in
    c.put.ensures.opens (λ one. absurd (omega (arith, one, low))) t (omega (arith, le, later)) (i.opens t le opens)

pub returns-in_err-put-clause-snapshot : goal.returns-in_err-put-clause-snapshot
returns-in_err-put-clause-snapshot g c =
    let low : 2 ≤ c.loop-sector.sector = c.loop-sector.auto.sector in
    let below = c.loop-sector-test.true in
    some_then (c.loop-sector.sector - 2) 1 _ _ _ _ _ _ _ (omega (arith, low, below)) c.loop-sector.invariant.faults c.put.ensures.cause.later c.loop-sector.invariant.snapshot (some_one _ _ _ _ c.put.ensures.snapshot)

pub loop-sector-preserved : goal.loop-sector-preserved
loop-sector-preserved g c =
    let S = g.S.Stable in
    let i = c.loop-sector.invariant in
    let low : 2 ≤ c.loop-sector.sector = c.loop-sector.auto.sector in
    record {
      done = λ tells.
          let shape = as_long S.sector_count g.met.S.Stable.clocked g.met.S.Stable.shape c.loop-sector.store tells in
          let size = shape.size in
          let place = c.requires.place in
          let below = c.loop-sector-test.true in
          fresh_step c.args.isize c.args.now c.loop-sector.sector (S.image c.loop-sector.store) (S.image c.put.new.self) c.fresh_inodes.result (omega (arith, size, place, below, i.sectors)) (i.done tells) c.fresh_inodes.ensures (c.in_ok-put.ensures.done tells);
      crash = goes_on i.crash c.put.ensures.crash (λ d left cut.
          let tells = g.met.S.Stable.clocked.told _ _ d left in
          inodes_more (S.image c.args.store.now) (S.image c.loop-sector.store) d c.args.isize c.loop-sector.sector c.fresh_inodes.result low c.loop-sector-test.true (ends g.met.S.Stable.clocked i.crash tells) cut);
      opens = λ t le opens. let later = i.crash.later in c.put.ensures.opens (λ one. absurd (omega (arith, one, low))) t (omega (arith, le, later)) (i.opens t le opens);
      faults = omega (arith, i.faults, c.put.ensures.cause.later);
      sectors = search rules;
      snapshot = some_then (c.loop-sector.sector - 2) 1 _ _ _ _ _ _ _ (omega (arith, low)) i.faults c.put.ensures.cause.later i.snapshot (some_one _ _ _ _ c.put.ensures.snapshot);
    }

pub returns-clause-done : goal.returns-clause-done
returns-clause-done g c = λ tells. fresh_end c.args.isize c.args.now c.loop-sector.sector (g.S.Stable.image c.loop-sector.store) (search rules) (c.loop-sector.invariant.done tells)

pub returns-clause-snapshot : goal.returns-clause-snapshot
returns-clause-snapshot g c =
    let low = c.requires.low in
    let end = c.loop-sector.auto.sector-end (omega (arith, low)) in
    some_wider (c.loop-sector.sector - 2) (c.args.isize - 2) _ _ _ _ (omega (arith, end)) c.loop-sector.invariant.snapshot
