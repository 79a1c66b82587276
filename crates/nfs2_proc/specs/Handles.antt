-- What a call on a volume is answered by.
use Rattle.std.specs.Prelude.{◌≡◌, ℕ, Bool}
use Rattle.files_model.specs.declared.call.Call.{Call}
use Rattle.files_model.specs.declared.credential.Cred.{Cred}
use Rattle.files_model.specs.declared.reply.Reply.TheVariants as reply
use Rattle.files_model.specs.declared.reply.Stat.TheVariants as stat
use Rattle.nfs2_wire.specs.Replies.{bytes_of}
use Rattle.stable.specs.declared.store.Stable.{Ghosts}
use Rattle.volume.specs.Applied.{Applies}
use Rattle.volume.specs.declared.outcome.Outcome.{Outcome}
use Rattle.volume.specs.declared.outcome.Outcome.TheVariants as outcome
use Rattle.nfs2_proc.specs.declared.handling.Handled.{Handled}
use Rattle.nfs2_proc.specs.declared.handling.Handled.TheVariants as handled

-- What answers a call that came to this: the bytes of its reply; those of IO where a device failed; and where there was no memory, nothing, with the room given back.
abbrev pub IsAnswered : ℕ → ℕ → ℕ → Outcome → Handled → Type 0
IsAnswered number xid room (outcome.Reply reply) (handled.Bytes bytes) = bytes ≡ bytes_of xid reply number
IsAnswered number xid room outcome.Io (handled.Bytes bytes) = bytes ≡ bytes_of xid (reply.Refused stat.Io) number
IsAnswered number xid room outcome.NoMemory (handled.NoMemory left) = left ≡ room
IsAnswered number xid room came result = ⊥

-- The call was made on the volume of this number, and came to an outcome, which is answered so. `s` is what the store's type tells.
pub record Handles {S : Type 0} (s : Ghosts S) (old new : S) (was is : Bool) (number xid : ℕ) (call : Call) (cred : Cred) (now room : ℕ) (result : Handled) : Type 0 where
  pub came : Outcome
  pub applied : Applies s old new was is call cred now came
  pub answered : IsAnswered number xid room came result
