use Rattle.std.proofs.Common.{arith}
use Rattle.xdr_rpc.specs.Calls.{ids}
use Rattle.xdr_rpc.proofs.Numbers.{goes_on, ends, is_done}
use Rattle.xdr_rpc.proofs.credential.ids_from.Goals as goal

pub returns-in_err-word : goal.returns-in_err-word
returns-in_err-word c = rw c.from_residual.ensures (ends c.loop.found.items c.args.count c.loop.counter c.loop.rest.now (ids c.args.count c.args.bytes.now) c.loop-test.true c.in_err-word.ensures.value c.loop.invariant.0)

pub loop-preserved : goal.loop-preserved
loop-preserved c = (
  rw (c.push.ensures.items, c.id_from.ensures) (goes_on c.loop.found.items c.args.count c.loop.counter c.loop.rest.now c.in_ok-word.word c.in_ok-word.after.now (ids c.args.count c.args.bytes.now) c.loop-test.true c.in_ok-word.ensures.value c.loop.invariant.0),
  omega (arith, c.push.ensures.len, c.loop.invariant.1),
)

pub returns : goal.returns
returns c = is_done c.loop.found.items c.args.count c.loop.counter c.loop.rest.now (ids c.args.count c.args.bytes.now) c.loop-test.false c.loop.invariant.0
