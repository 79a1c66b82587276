-- What a reply of the control program answers (docs/FORMATS.md, "Control program").
use Rattle.std.specs.Prelude.{ℕ, List, Option, Some, None, ◌==◌, if◌then◌else◌}
use Rattle.presto_rpc.specs.declared.control.Control.{Control}
use Rattle.presto_rpc.specs.declared.reply_reading.ControlReply.{ControlReply}
use Rattle.presto_rpc.specs.declared.reply_reading.ControlReply.TheVariants as reply
use Rattle.presto_rpc.specs.Replies.{control_reply}
use Rattle.presto_control.specs.declared.answers.Answer.{Answer}
use Rattle.presto_control.specs.declared.answers.Answer.TheVariants as answer

-- the transaction number of the call: `PRES`
abbrev pub call_number : ℕ
call_number = 0x50524553

-- the codes of the control program
abbrev pub coded : ℕ → ℕ → Answer
coded code n =
    if code == 0 then answer.Done
    else if code == 1 then answer.Left n
    else if code == 2 then answer.BatteryLow
    else if code == 3 then answer.NotDown
    else if code == 4 then answer.NoVolume
    else answer.Refused

abbrev pub answer_of : ControlReply → Option Answer
answer_of (reply.Answer code n) = Some (coded code n)
answer_of (reply.Status state dirty battery puts) = Some (answer.Status state dirty battery puts)
answer_of reply.Refused = Some answer.Refused
answer_of reply.Other = None

-- what a datagram answers to what was asked; none where it is no reply to that call
abbrev pub answer_in : Control → List ℕ → Option Answer
answer_in asked bytes = answer_of (control_reply call_number asked bytes)
