-- The replies of the control program: what is written, and what is read (docs/FORMATS.md, "Control program").
use Rattle.std.specs.Prelude.{ℕ, ◌+◌, ◌*◌, ◌/◌, ◌%◌, Bool, true, false, List, [], ◌∷◌, Option, Some, None, ◌==◌, nat_le, if◌then◌else◌, ◌&&◌, ◌||◌}
use Rattle.stable.specs.declared.battery.Battery.{Battery}
use Rattle.stable.specs.declared.battery.Battery.TheVariants.{Good, Low}
use Rattle.stable.specs.declared.state.State.{State}
use Rattle.stable.specs.declared.state.State.TheVariants.{Up, Down, Error}
use Rattle.stable.specs.declared.state.Cause.TheVariants as cause
use Rattle.xdr_rpc.specs.Words.{◌>>=◌, word, words}
use Rattle.xdr_rpc.specs.Refusals.{accepted}
use Rattle.presto_rpc.specs.declared.control.Control.{Control}
use Rattle.presto_rpc.specs.declared.control.Control.TheVariants as asks
use Rattle.presto_rpc.specs.declared.reply_reading.ControlReply.{ControlReply}
use Rattle.presto_rpc.specs.declared.reply_reading.ControlReply.TheVariants as reply

-- ---- writing

abbrev pub state_number : State → ℕ
state_number Down = 0
state_number Up = 1
state_number (Error cause.Disk) = 2
state_number (Error cause.Board) = 3
state_number (Error cause.Battery) = 4

abbrev pub battery_number : Battery → ℕ
battery_number Good = 1
battery_number Low = 0

-- the reply to a command: a code and a number
unfoldable pub answer_bytes : ℕ → ℕ → ℕ → List ℕ
answer_bytes xid code n = words (xid ∷ accepted 0 (code ∷ n ∷ []))

-- the reply to a question for the status: code 0, state, dirty, battery, and the puts as two words, the high one first
unfoldable pub status_bytes : ℕ → State → ℕ → Battery → ℕ → List ℕ
status_bytes xid state dirty battery puts =
    words (xid ∷ accepted 0 (0 ∷ state_number state ∷ dirty ∷ battery_number battery ∷ (puts / 4294967296) ∷ (puts % 4294967296) ∷ []))

-- ---- reading

abbrev pub state_of : ℕ → Option State
state_of n =
    if n == 0 then Some Down
    else if n == 1 then Some Up
    else if n == 2 then Some (Error cause.Disk)
    else if n == 3 then Some (Error cause.Board)
    else if n == 4 then Some (Error cause.Battery)
    else None

abbrev pub battery_of : ℕ → Option Battery
battery_of n = if n == 0 then Some Low else if n == 1 then Some Good else None

-- the bytes after the first two words of a reply to the call of that transaction number
unfoldable pub reply_to : ℕ → List ℕ → Option (List ℕ)
reply_to xid bytes = do
  number ← word bytes
  kind ← word number.1
  if (number.0 == xid) && (kind.0 == 1) then Some kind.1 else None

-- the bytes of its result, where it is accepted, has no verifier, and is done
unfoldable pub result_in : List ℕ → Option (List ℕ)
result_in bytes = do
  denied ← word bytes
  flavour ← word denied.1
  size ← word flavour.1
  state ← word size.1
  if (denied.0 == 0) && (flavour.0 == 0) && (size.0 == 0) && (state.0 == 0) then Some state.1 else None

-- the codes of what was asked, each with its number: Done 0, Left 1 with how many, BatteryLow 2, NotDown 3, no such volume 4
abbrev pub is_answer : Control → ℕ → ℕ → Bool
is_answer (asks.Command volume command) code n = nat_le code 4 && ((code == 1) || (n == 0))
is_answer (asks.Status volume) code n = (code == 4) && (n == 0)
is_answer asks.Halt code n = (code == 0) && (n == 0)
is_answer _ code n = false

abbrev pub asks_status : Control → Bool
asks_status (asks.Status volume) = true
asks_status _ = false

-- the number after a code
unfoldable pub answer_in : Control → ℕ → List ℕ → Option ControlReply
answer_in asked code bytes = do
  n ← word bytes
  if is_answer asked code n.0 then Some (reply.Answer code n.0) else None

-- the words of a status, after its code
unfoldable pub status_in : List ℕ → Option ControlReply
status_in bytes = do
  state_word ← word bytes
  dirty ← word state_word.1
  battery_word ← word dirty.1
  high ← word battery_word.1
  low ← word high.1
  state ← state_of state_word.0
  battery ← battery_of battery_word.0
  Some (reply.Status state dirty.0 battery (high.0 * 4294967296 + low.0))

-- a code, and what belongs to it
unfoldable pub said_in : Control → List ℕ → Option ControlReply
said_in asked bytes = do
  code ← word bytes
  if asks_status asked && (code.0 == 0) then status_in code.1 else answer_in asked code.0 code.1

unfoldable pub said : Control → List ℕ → Option ControlReply
said asked bytes = do
  result ← result_in bytes
  said_in asked result

abbrev pub or_refused : Option ControlReply → ControlReply
or_refused None = reply.Refused
or_refused (Some said) = said

abbrev pub reply_of : Control → Option (List ℕ) → ControlReply
reply_of asked None = reply.Other
reply_of asked (Some rest) = or_refused (said asked rest)

-- what a datagram says to what was asked by a call of that transaction number. Bytes after the last word are passed over
abbrev pub control_reply : ℕ → Control → List ℕ → ControlReply
control_reply xid asked bytes = reply_of asked (reply_to xid bytes)
