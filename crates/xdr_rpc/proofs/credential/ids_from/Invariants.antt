use Rattle.std.proofs.Common.{◌≡◌, ◌-◌}
use Rattle.arrayvec.specs.ArrayVec.{array_vec_len}
use Rattle.xdr_rpc.specs.Calls.{ids}
use Rattle.xdr_rpc.proofs.Numbers.{with_front}
use Rattle.xdr_rpc.proofs.credential.ids_from.Given as goal

abbrev pub invariant-loop : goal.invariant-loop
invariant-loop l = (with_front l.found.items (ids (l.count - l.counter) l.rest) ≡ ids l.count l.bytes) × (array_vec_len l.found ≡ l.counter)
