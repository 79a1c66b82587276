use Rattle.std.proofs.Common.{arith, ◌≡◌, sym, length, take}
use Rattle.std.proofs.lemmas.List.{length-take-le, take_all}
use Rattle.rig.proofs.packet.front_of.Goals as goal

pub slice_bounds-result-end : goal.slice_bounds-result-end
slice_bounds-result-end c = sym (length-take-le 9216 c.args.bytes.now (omega arith))

pub returns-then-bytes-gt-PACKET_BYTES-clause-fits :
    goal.returns-then-bytes-gt-PACKET_BYTES-clause-fits
returns-then-bytes-gt-PACKET_BYTES-clause-fits c =
    let e : length (take 9216 c.args.bytes.now) ≡ 9216 = length-take-le 9216 c.args.bytes.now (omega arith) in omega (arith, e)

pub returns-clause-front : goal.returns-clause-front
returns-clause-front c = sym (take_all 9216 c.args.bytes.now (omega arith))
