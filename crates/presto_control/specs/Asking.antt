-- One call of the control program.
use Rattle.std.specs.Prelude.{◌≡◌, ◌⊎◌}
use Rattle.stable.specs.Counts.{Rose}
use Rattle.files_model.specs.declared.address.Address.{Address}
use Rattle.rig.specs.Links.{gains}
use Rattle.rig.specs.declared.link.Link.{Ghosts}
use Rattle.presto_rpc.specs.declared.control.Control.{Control}
use Rattle.presto_rpc.specs.Sending.{control_bytes}
use Rattle.presto_control.specs.declared.waiting.Ending.{Ending}
use Rattle.presto_control.specs.declared.waiting.Ending.TheVariants as ending
use Rattle.presto_control.specs.Answers.{call_number}
use Rattle.presto_control.specs.Waiting.{Waited}

-- nothing was sent, and nothing was waited for
pub record IsUnsent {L : Type 0} (l : Ghosts L) (old new : L) (result : Ending) : Type 0 where
  pub left : l.left new ≡ l.left old
  pub sent : l.sent new ≡ l.sent old
  pub broken : result ≡ ending.Broken
  pub failed : Rose (l.faults old) (l.faults new)

-- the link took exactly this datagram, and then its reply was waited for
pub record IsSent {L : Type 0} (l : Ghosts L) (asked : Control) (to : Address) (old new : L) (result : Ending) : Type 0 where
  pub then : L
  pub took : l.sent then ≡ gains (l.sent old) (to, control_bytes call_number asked)
  pub left : l.left then ≡ l.left old
  pub waited : Waited l asked then new result

abbrev pub Asks : {L : Type 0} → Ghosts L → Control → Address → L → L → Ending → Type 0
Asks l asked to old new result = IsUnsent l old new result ⊎ IsSent l asked to old new result
