-- How a control is sent (docs/FORMATS.md, "Control program").
use Rattle.std.specs.Prelude.{ℕ, ◌<◌, ◌^◌, List, [], ◌∷◌, Option, Some, None, Ok, Err, ◌==◌, if◌then◌else◌}
use Rattle.files_model.specs.declared.credential.Cred.{Cred}
use Rattle.stable.specs.declared.command.Command.{Command}
use Rattle.stable.specs.declared.command.Command.TheVariants as command
use Rattle.xdr_rpc.specs.declared.call.RpcCall.{RpcCall}
use Rattle.xdr_rpc.specs.Words.{words}
use Rattle.xdr_rpc.specs.Order.{Test, call_of}
use Rattle.xdr_rpc.specs.Sending.{sent_as}
use Rattle.presto_rpc.specs.declared.control.Control.{Control}
use Rattle.presto_rpc.specs.declared.control.Control.TheVariants as asks
use Rattle.presto_rpc.specs.Controls.{control}

abbrev pub program_number : ℕ
program_number = 0x20001094

-- user 0 without groups
abbrev pub root : Cred
root = record { uid = 0; gid = 0; gids = [] }

-- a call of the control program by user 0 of a machine without a name
abbrev pub control_call : ℕ → ℕ → List ℕ → RpcCall
control_call xid procedure args = record { xid = xid; program = program_number; procedure = procedure; cred = root; machine = []; args = args }

abbrev pub command_number : Command → ℕ
command_number command.Up = 1
command_number command.Down = 2
command_number command.Flush = 3
command_number command.Reset = 4

-- what can be asked for: a command, a status or the end
abbrev pub IsAsked : Control → Type 0
IsAsked (asks.Command volume command) = Unit {0}
IsAsked (asks.Status volume) = Unit {0}
IsAsked asks.Halt = Unit {0}
IsAsked _ = ⊥

-- its volume fits a word
abbrev pub Fits : Control → Type 0
Fits (asks.Command volume command) = volume < 2 ^ 32
Fits (asks.Status volume) = volume < 2 ^ 32
Fits _ = Unit {0}

abbrev pub procedure_of : Control → ℕ
procedure_of (asks.Command volume command) = command_number command
procedure_of (asks.Status volume) = 5
procedure_of asks.Halt = 6
procedure_of _ = 0

abbrev pub arguments_of : Control → List ℕ
arguments_of (asks.Command volume command) = words (volume ∷ [])
arguments_of (asks.Status volume) = words (volume ∷ [])
arguments_of _ = []

-- the datagram of a call of this version of the program
unfoldable pub asked_bytes : ℕ → ℕ → List ℕ → List ℕ
asked_bytes xid procedure args = sent_as 1 (control_call xid procedure args)

abbrev pub control_bytes : ℕ → Control → List ℕ
control_bytes xid c = asked_bytes xid (procedure_of c) (arguments_of c)

abbrev pub asked_by : Test RpcCall → Option Control
asked_by (Ok call) = if call.program == program_number then Some (control call) else None
asked_by (Err why) = None

-- what a datagram asks of the control program
abbrev pub control_in : List ℕ → Option Control
control_in bytes = asked_by (call_of bytes)
