use Rattle.std.proofs.Common.{arith}
use Rattle.nfs_worker.proofs.Accounts.{is_account}
use Rattle.nfs_worker.proofs.Turns.{turns_none, turns_within, turns_more, worked_closed, worked_halted}
use Rattle.nfs_worker.proofs.working.work.Goals as goal

pub loop-count-init : goal.loop-count-init
loop-count-init g c = record {
  taken = turns_none g.S.Stable g.L.Link g.C.Clock (is_account g.S.Stable g.met.S.Stable.clocked) c.args.cells.now.volumes.items c.args.cells.now.desk c.args.post.now.link c.args.post.now.clock c.args.pass.now c.requires.rest;
  rest = c.requires.rest;
  desk = c.requires.desk;
}

pub turn-requires-clause-few : goal.turn-requires-clause-few
turn-requires-clause-few g c =
    let within = turns_within g.S.Stable g.L.Link g.C.Clock (is_account g.S.Stable g.met.S.Stable.clocked) c.loop-count.invariant.taken in
    let fewer = c.loop-count-test.true in
    let few = c.requires.few in
    omega (arith, within, fewer, few)

pub returns-in-Closed : goal.returns-in-Closed
returns-in-Closed g c = worked_closed g.S.Stable g.L.Link g.C.Clock (is_account g.S.Stable g.met.S.Stable.clocked) c.loop-count.invariant.taken c.turn.result c.turn.ensures.took c.turn.ensures.asked c.args.turns c.loop-count-test.true c.in-Closed.is

pub returns-in-Halted : goal.returns-in-Halted
returns-in-Halted g c = worked_halted g.S.Stable g.L.Link g.C.Clock (is_account g.S.Stable g.met.S.Stable.clocked) c.loop-count.invariant.taken c.turn.result c.turn.ensures.took c.turn.ensures.asked c.args.turns c.loop-count-test.true c.in-Halted.is

pub loop-count-preserved : goal.loop-count-preserved
loop-count-preserved g c = record {
  taken = turns_more g.S.Stable g.L.Link g.C.Clock (is_account g.S.Stable g.met.S.Stable.clocked) c.loop-count.invariant.taken c.turn.result c.turn.ensures.took c.turn.ensures.asked c.in_default.not-Closed;
  rest = c.turn.ensures.rest;
  desk = c.turn.ensures.desk;
}
