use Rattle.std.proofs.Common.{◌≡◌, ap, ◌∙◌}
use Rattle.std.proofs.lemmas.Result.{IfOk-weaker}
use Rattle.xdr_rpc.specs.declared.rpc.RpcRead.TheVariants as read
use Rattle.xdr_rpc.specs.Order.{call_of, read_as}
use Rattle.xdr_rpc.proofs.Served.{served_again}
use Rattle.xdr_rpc.proofs.rpc.read_rpc.Goals as goal

pub returns-clause-sent : goal.returns-clause-sent
returns-clause-sent c = λ version call can is. IfOk-weaker c.read_exactly.result (λ r. r ≡ read_as (call_of c.args.bytes.now)) (λ r. r ≡ read.Call call) (λ r e. e ∙ ap (λ b. read_as (call_of b)) is ∙ ap read_as (served_again version call can)) c.read_exactly.ensures.ok
