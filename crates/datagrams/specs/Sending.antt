-- How calls on volumes are sent.
use Rattle.std.specs.Prelude.{◌≡◌, ℕ, List}
use Rattle.files_model.specs.declared.call.Call.{Call}
use Rattle.xdr_rpc.specs.declared.call.RpcCall.{RpcCall}
use Rattle.xdr_rpc.specs.Sending.{CanBeServed}
use Rattle.nfs2_wire.specs.AllSending.{arguments_of, procedure_of, CanBeCalled}

-- an RPC call is a call on one of so many open volumes
pub record Sends (rpc : RpcCall) (volumes volume : ℕ) (asked : Call) : Type 0 where
  pub can : CanBeServed 2 rpc
  pub program : rpc.program ≡ 100003
  pub procedure : rpc.procedure ≡ procedure_of asked
  pub rest : List ℕ
  pub args : rpc.args ≡ arguments_of volume asked rest
  pub fits : CanBeCalled volumes volume asked
