use Rattle.std.proofs.Common.{rules, arith, ◌≤◌, ◌+◌}
use Rattle.stable.proofs.Clocked.{goes_on}
use Rattle.stable.proofs.Counted.{one_made}
use Rattle.stable.proofs.PutLists.{some_more, done_more, each_put, put_at}
use Rattle.stable.proofs.run.put_each.Goals as goal

pub returns-in_err-put-clause-crash : goal.returns-in_err-put-clause-crash
returns-in_err-put-clause-crash g c =
    goes_on c.loop-put.invariant.crash c.put.ensures.crash (λ image left cut.
    some_more _ c.loop-put.put-index _ _ image c.loop-put-test.true (c.loop-put.invariant.done (g.met.S.Stable.clocked.told _ _ image left)) cut)

pub returns-in_err-put-clause-opens : goal.returns-in_err-put-clause-opens
returns-in_err-put-clause-opens g c past t le opens =
    let high : 2 ≤ (put_at c.args.puts.now c.loop-put.put-index).0 = each_put _ c.args.puts.now c.loop-put.put-index past c.loop-put-test.true in
    c.put.ensures.opens (λ one. absurd (omega (arith, high, one))) t (omega (arith, le, c.loop-put.invariant.crash.later)) (c.loop-put.invariant.opens past t le opens)

pub returns-in_err-put-clause-snapshot : goal.returns-in_err-put-clause-snapshot
returns-in_err-put-clause-snapshot g c = record {
  count = c.loop-put.put-index + 1;
  few = omega (arith, c.loop-put-test.true);
  made = one_made c.loop-put.put-index _ _ _ _ _ _ c.loop-put.invariant.faults c.put.ensures.cause.later c.loop-put.invariant.snapshot c.put.ensures.snapshot;
}

pub loop-put-preserved : goal.loop-put-preserved
loop-put-preserved g c = record {
  done = λ tells. done_more _ c.loop-put.put-index _ _ _ c.loop-put-test.true (c.loop-put.invariant.done tells) (c.in_ok-put.ensures.done tells);
  crash = goes_on c.loop-put.invariant.crash c.put.ensures.crash (λ image left cut.
      some_more _ c.loop-put.put-index _ _ image c.loop-put-test.true (c.loop-put.invariant.done (g.met.S.Stable.clocked.told _ _ image left)) cut);
  opens = λ past t le opens.
      let high : 2 ≤ (put_at c.args.puts.now c.loop-put.put-index).0 = each_put _ c.args.puts.now c.loop-put.put-index past c.loop-put-test.true in
      c.put.ensures.opens (λ one. absurd (omega (arith, high, one))) t (omega (arith, le, c.loop-put.invariant.crash.later)) (c.loop-put.invariant.opens past t le opens);
  faults = omega arith;
  sectors = search rules;
  snapshot = one_made c.loop-put.put-index _ _ _ _ _ _ c.loop-put.invariant.faults c.put.ensures.cause.later c.loop-put.invariant.snapshot c.put.ensures.snapshot;
}
