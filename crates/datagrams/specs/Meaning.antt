-- What a datagram means (docs/FORMATS.md, "Meaning of a datagram").
use Rattle.std.specs.Prelude.{ℕ, List, Ok, Err, ◌==◌, nat_lt, if◌then◌else◌}
use Rattle.files_model.specs.declared.call.Call.{Call}
use Rattle.files_model.specs.declared.credential.Cred.{Cred}
use Rattle.files_model.specs.declared.reply.Reply.TheVariants.{Refused as Refusal}
use Rattle.files_model.specs.declared.reply.Stat.TheVariants as stat
use Rattle.xdr_rpc.specs.declared.call.RpcCall.{RpcCall}
use Rattle.xdr_rpc.specs.declared.refusal.Cause.TheVariants.{Done, Garbage, TooWeak}
use Rattle.xdr_rpc.specs.declared.tests_in_order.Unserved.TheVariants.{NoReply, Refused}
use Rattle.xdr_rpc.specs.Order.{Test, call_of}
use Rattle.xdr_rpc.specs.Refusals.{refusal}
use Rattle.nfs2_wire.specs.declared.all_calls.NfsCall.{NfsCall}
use Rattle.nfs2_wire.specs.declared.all_calls.NfsCall.TheVariants as read
use Rattle.nfs2_wire.specs.AllCalls.{nfs_call}
use Rattle.nfs2_wire.specs.Replies.{bytes_of}
use Rattle.datagrams.specs.declared.datagram.Datagram.{Datagram}
use Rattle.presto_rpc.specs.declared.control.Control.{Control}
use Rattle.presto_rpc.specs.declared.control.Control.TheVariants as asks
use Rattle.presto_rpc.specs.Controls.{control}
use Rattle.presto_rpc.specs.Replies.{answer_bytes}
use Rattle.datagrams.specs.declared.datagram.Datagram.TheVariants.{NoMeaning, Outside, Asks, Mount, Command, Status, Halt}

-- a handle that names no file of an open volume is answered STALE
abbrev pub nfs_meaning : RpcCall → NfsCall → Datagram
nfs_meaning rpc (read.Call volume call) = Asks rpc.xid volume rpc.cred call
nfs_meaning rpc read.Stale = Outside (bytes_of rpc.xid (Refusal stat.Stale) 0)
nfs_meaning rpc read.Void = Outside (refusal rpc.xid Done)
nfs_meaning rpc read.Garbage = Outside (refusal rpc.xid Garbage)

-- of one of so many open volumes; another one is answered by code 4, there is no such volume
abbrev pub on_open : ℕ → ℕ → ℕ → Datagram → Datagram
on_open xid volume volumes asked = if nat_lt volume volumes then asked else Outside (answer_bytes xid 4 0)

abbrev pub control_meaning : ℕ → Control → ℕ → Datagram
control_meaning xid (asks.Command volume command) volumes = on_open xid volume volumes (Command xid volume command)
control_meaning xid (asks.Status volume) volumes = on_open xid volume volumes (Status xid volume)
control_meaning xid asks.Halt volumes = Halt xid
control_meaning xid asks.Void volumes = Outside (refusal xid Done)
control_meaning xid asks.TooWeak volumes = Outside (refusal xid TooWeak)
control_meaning xid asks.Garbage volumes = Outside (refusal xid Garbage)

-- a call by its program, where so many volumes are open: NFS, MOUNT, or the control program
unfoldable pub asked : RpcCall → ℕ → Datagram
asked rpc volumes =
    if rpc.program == 100003 then nfs_meaning rpc (nfs_call rpc.procedure rpc.args volumes)
    else if rpc.program == 100005 then Mount rpc
    else control_meaning rpc.xid (control rpc) volumes

abbrev pub meaning_of : Test RpcCall → ℕ → Datagram
meaning_of (Ok rpc) volumes = asked rpc volumes
meaning_of (Err NoReply) volumes = NoMeaning
meaning_of (Err (Refused xid cause)) volumes = Outside (refusal xid cause)

-- what a datagram means where so many volumes are open
unfoldable pub meaning : List ℕ → ℕ → Datagram
meaning bytes volumes = meaning_of (call_of bytes) volumes
