-- What is answered outside the histories of the volumes, one datagram after the other (docs/FORMATS.md, "MOUNT" and "Control program").
use Rattle.std.specs.Prelude.{◌≡◌, ℕ, ◌+◌, ◌-◌, ◌%◌, ◌^◌, List, [], ◌∷◌, length, slice_index}
use Rattle.files_model.specs.declared.address.Address.{Address}
use Rattle.files_model.specs.declared.attributes.FileId.{FileId}
use Rattle.stable.specs.declared.command.Answer.{Answer}
use Rattle.stable.specs.declared.command.Answer.TheVariants as answer
use Rattle.stable.specs.declared.command.Command.{Command as Asked}
use Rattle.stable.specs.declared.snapshot.Snapshot.{Snapshot}
use Rattle.stable.specs.declared.store.Stable.{Ghosts}
use Rattle.stable.specs.States.{IsCommanded}
use Rattle.rig.specs.Links.{Heard}
use Rattle.rig.specs.Links.Heard.{Datagram, Idle, Closed, Failed}
use Rattle.xdr_rpc.specs.declared.call.RpcCall.{RpcCall}
use Rattle.mount1.specs.Calls.{reply_to, rows_after}
use Rattle.mount1.specs.Rows.{with_rows}
use Rattle.presto_rpc.specs.Replies.{answer_bytes, status_bytes}
use Rattle.datagrams.specs.declared.datagram.Datagram.{Datagram as Meaning}
use Rattle.datagrams.specs.declared.datagram.Datagram.TheVariants.{NoMeaning, Outside, Asks, Mount, Command, Status, Halt}
use Rattle.datagrams.specs.Meaning.{meaning}
use Rattle.nfs_worker.specs.Tending.{IsUntended}
use Rattle.nfs_worker.specs.declared.desk.Desk.{Desk}

-- ---- the list of mounts

-- as the workers are opened: no machine has mounted anything
abbrev pub new_desk : List FileId → List ℕ → Desk
new_desk roots puts = record { mounts = record { volumes = length roots; rows = [] }; roots = roots; first_puts = puts }

-- after a call of MOUNT
abbrev pub after_call : Desk → RpcCall → Desk
after_call desk rpc = record { mounts = with_rows desk.mounts (rows_after desk.mounts rpc); roots = desk.roots; first_puts = desk.first_puts }

-- ---- the control program

abbrev pub code_of : Answer → ℕ
code_of answer.Done = 0
code_of (answer.Left n) = 1
code_of answer.BatteryLow = 2
code_of answer.NotDown = 3

abbrev pub left_in : Answer → ℕ
left_in answer.Done = 0
left_in (answer.Left n) = n
left_in answer.BatteryLow = 0
left_in answer.NotDown = 0

-- the reply to a command that was answered so
abbrev pub command_reply : ℕ → Answer → List ℕ
command_reply xid told = answer_bytes xid (code_of told) (left_in told)

-- the puts since there were so many, as counts modulo 2 ^ 64
abbrev pub puts_since : ℕ → ℕ → ℕ
puts_since first puts = (puts + (2 ^ 64 - first)) % 2 ^ 64

-- the reply to STATUS
abbrev pub status_reply : ℕ → ℕ → Snapshot → List ℕ
status_reply xid first shown = status_bytes xid shown.state shown.dirty shown.battery (puts_since first shown.puts)

-- ---- one answer

-- what is seen of a volume's store before and after: its counts of faults and its snapshots
pub record Change : Type 0 where
  pub faults : ℕ
  pub faults_after : ℕ
  pub old : Snapshot
  pub new : Snapshot

abbrev pub change_of : {S : Type 0} → Ghosts S → S → S → Change
change_of s old new = record { faults = s.faults old; faults_after = s.faults new; old = s.snapshot_of old; new = s.snapshot_of new }

-- a command was carried out, and the reply says what became of it
pub record IsObeyed (xid : ℕ) (asked : Asked) (change : Change) (reply : List ℕ) : Type 0 where
  pub told : Answer
  pub commanded : IsCommanded asked told change.faults change.faults_after change.old change.new
  pub reply_is : reply ≡ command_reply xid told

-- A datagram of this meaning was answered outside any history by these bytes; then the desk is the second one.
abbrev pub Tells : Desk → Meaning → Change → List ℕ → Desk → Type 0
Tells desk NoMeaning change reply then = ⊥
Tells desk (Asks xid volume cred call) change reply then = ⊥
Tells desk (Outside answer) change reply then = (reply ≡ answer) × (then ≡ desk) × IsUntended change.old change.new
Tells desk (Mount rpc) change reply then = (reply ≡ reply_to desk.mounts desk.roots rpc) × (then ≡ after_call desk rpc) × IsUntended change.old change.new
Tells desk (Command xid volume asked) change reply then = IsObeyed xid asked change reply × (then ≡ desk)
Tells desk (Status xid volume) change reply then = (reply ≡ status_reply xid (slice_index desk.first_puts volume) change.new) × (then ≡ desk) × (change.new ≡ change.old)
Tells desk (Halt xid) change reply then = (reply ≡ answer_bytes xid 0 0) × (then ≡ desk) × IsUntended change.old change.new

-- ---- one answer after the other

-- what was heard was answered so, to who asked
abbrev pub TellsTo : ℕ → Desk → Heard → (Address × List ℕ) → Desk → Type 0
TellsTo volumes desk (Datagram from bytes) answer then = (change : Change) × (answer.0 ≡ from) × Tells desk (meaning bytes volumes) change answer.1 then
TellsTo volumes desk Idle answer then = ⊥
TellsTo volumes desk Closed answer then = ⊥
TellsTo volumes desk Failed answer then = ⊥

-- the answers outside any history, to what was heard, in order, and each at most once; the desk goes on by them
pub data Answered : ℕ → Desk → List Heard → List (Address × List ℕ) → Desk → Type 0 where
  silent : (volumes : ℕ) (desk then : Desk) → then ≡ desk → Answered volumes desk [] [] then
  passed : (volumes : ℕ) (desk then : Desk) (one : Heard) (heard : List Heard) (answers : List (Address × List ℕ)) → Answered volumes desk heard answers then → Answered volumes desk (one ∷ heard) answers then
  told : (volumes : ℕ) (desk mid then : Desk) (one : Heard) (heard : List Heard) (answer : Address × List ℕ) (answers : List (Address × List ℕ)) → TellsTo volumes desk one answer mid → Answered volumes mid heard answers then
      → Answered volumes desk (one ∷ heard) (answer ∷ answers) then
