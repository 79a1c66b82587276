-- What a call of the control program asks for (docs/FORMATS.md, "Control program").
use Rattle.std.specs.Prelude.{ℕ, List, Option, Some, None, ◌==◌, nat_lt, if◌then◌else◌, ◌||◌}
use Rattle.stable.specs.declared.command.Command.TheVariants as command
use Rattle.xdr_rpc.specs.declared.call.RpcCall.{RpcCall}
use Rattle.xdr_rpc.specs.Words.{◌>>=◌, word}
use Rattle.presto_rpc.specs.declared.control.Control.{Control}
use Rattle.presto_rpc.specs.declared.control.Control.TheVariants as asks

-- the number of a volume; bytes after it are passed over
unfoldable pub volume_arg : List ℕ → Option ℕ
volume_arg args = do
  volume ← word args
  Some volume.0

abbrev pub on_volume : Option ℕ → (ℕ → Control) → Control
on_volume None asked = asks.Garbage
on_volume (Some volume) asked = asked volume

-- procedure, user and arguments: 5 is asked by all, the others by user 0
abbrev pub control_by : ℕ → ℕ → List ℕ → Control
control_by procedure uid args =
    if (procedure == 0) || nat_lt 6 procedure then asks.Void
    else if procedure == 5 then on_volume (volume_arg args) (λ volume. asks.Status volume)
    else if uid == 0
    then if procedure == 1 then on_volume (volume_arg args) (λ volume. asks.Command volume command.Up)
    else if procedure == 2 then on_volume (volume_arg args) (λ volume. asks.Command volume command.Down)
    else if procedure == 3 then on_volume (volume_arg args) (λ volume. asks.Command volume command.Flush)
    else if procedure == 4 then on_volume (volume_arg args) (λ volume. asks.Command volume command.Reset)
    else asks.Halt
    else asks.TooWeak

abbrev pub control : RpcCall → Control
control c = control_by c.procedure c.cred.uid c.args
