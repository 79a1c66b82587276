-- A call on a volume that was sent is read as that call.
use Rattle.std.proofs.Common.{◌≡◌, ℕ, refl, ap, ◌∙◌}
use Rattle.files_model.specs.declared.call.Call.{Call}
use Rattle.xdr_rpc.specs.declared.call.RpcCall.{RpcCall}
use Rattle.xdr_rpc.specs.Sending.{sent_as}
use Rattle.xdr_rpc.proofs.Served.{served_again}
use Rattle.nfs2_wire.specs.declared.all_calls.NfsCall.TheVariants as read
use Rattle.nfs2_wire.specs.AllCalls.{nfs_call}
use Rattle.nfs2_wire.specs.AllSending.{procedure_of}
use Rattle.nfs2_wire.proofs.AllSent.{arguments_again}
use Rattle.datagrams.specs.declared.datagram.Datagram.{Datagram}
use Rattle.datagrams.specs.declared.datagram.Datagram.TheVariants.{Asks}
use Rattle.datagrams.specs.Meaning.{asked, nfs_meaning, meaning, meaning_of}
use Rattle.datagrams.specs.Sending.{Sends}

asked_again : (rpc : RpcCall) (volumes volume : ℕ) (call : Call) → Sends rpc volumes volume call → asked rpc volumes ≡ Asks rpc.xid volume rpc.cred call
unfolding asked
asked_again rpc volumes volume call sends =
    let found : nfs_call rpc.procedure rpc.args volumes ≡ read.Call volume call =
    ap (λ p. nfs_call p rpc.args volumes) sends.procedure ∙ ap (λ b. nfs_call (procedure_of call) b volumes) sends.args ∙ arguments_again volumes volume call sends.rest sends.fits in
    rw (sends.program, found) refl

pub meaning_again : (rpc : RpcCall) (volumes volume : ℕ) (call : Call) → Sends rpc volumes volume call → meaning (sent_as 2 rpc) volumes ≡ Asks rpc.xid volume rpc.cred call
unfolding meaning
meaning_again rpc volumes volume call sends = ap (λ found. meaning_of found volumes) (served_again 2 rpc sends.can) ∙ asked_again rpc volumes volume call sends
