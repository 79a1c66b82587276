use Rattle.std.proofs.Common.{◌≡◌, ap, ◌∙◌}
use Rattle.std.proofs.lemmas.Result.{IfOk-weaker}
use Rattle.datagrams.specs.declared.datagram.Datagram.TheVariants as datagram
use Rattle.datagrams.specs.Meaning.{meaning}
use Rattle.datagrams.proofs.Sent.{meaning_again}
use Rattle.datagrams.proofs.datagram.read_datagram.Goals as goal

pub returns-clause-sent : goal.returns-clause-sent
returns-clause-sent c = λ rpc volume call sends is.
    IfOk-weaker c.read_exactly.result (λ d. d ≡ meaning c.args.bytes.now c.args.volumes) (λ d. d ≡ datagram.Asks rpc.xid volume rpc.cred call)
    (λ d e. e ∙ ap (λ b. meaning b c.args.volumes) is ∙ meaning_again rpc c.args.volumes volume call sends)
    c.read_exactly.ensures.ok
