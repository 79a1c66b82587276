-- A reply or a control that was written is read again, whatever follows it.
use Rattle.std.proofs.Common.{◌≡◌, ℕ, ◌+◌, ◌*◌, ◌/◌, ◌%◌, ◌^◌, ◌<◌, true, false, eqb, ◌&&◌, List, [], ◌∷◌, ◌++◌, Some, None, refl, ap, ◌∙◌, append_assoc, arith}
use Rattle.std.proofs.lemmas.Bool.{and_parts, eqb-true, eq-eqb}
use Rattle.stable.specs.declared.battery.Battery.{Battery}
use Rattle.stable.specs.declared.battery.Battery.TheVariants.{Good, Low}
use Rattle.stable.specs.declared.command.Command.{Command}
use Rattle.stable.specs.declared.command.Command.TheVariants as command
use Rattle.stable.specs.declared.state.State.{State}
use Rattle.stable.specs.declared.state.State.TheVariants.{Up, Down, Error}
use Rattle.stable.specs.declared.state.Cause.TheVariants as cause
use Rattle.xdr_rpc.specs.Words.{words}
use Rattle.xdr_rpc.specs.Order.{refused}
use Rattle.xdr_rpc.specs.Sending.{sent_as, CanBeServed}
use Rattle.xdr_rpc.specs.Sending.{asks as sent_asks}
use Rattle.xdr_rpc.proofs.RoundTrip.{words_again}
use Rattle.xdr_rpc.proofs.Served.{served_again}
use Rattle.presto_rpc.specs.declared.control.Control.{Control}
use Rattle.presto_rpc.specs.declared.control.Control.TheVariants as asks
use Rattle.presto_rpc.specs.declared.reply_reading.ControlReply.TheVariants as reply
use Rattle.presto_rpc.specs.Controls.{volume_arg, control}
use Rattle.presto_rpc.specs.Replies.{state_number, battery_number, answer_bytes, status_bytes, state_of, battery_of, reply_to, result_in, is_answer, asks_status, answer_in, status_in, said_in, said, control_reply}
use Rattle.presto_rpc.specs.Sending.{IsAsked, Fits, procedure_of, arguments_of, control_call, asked_bytes, control_bytes, asked_by, control_in}

-- ---- replies

-- the first two words
reply_again : (xid : ℕ) (ns rest : List ℕ) → xid < 2 ^ 32 → reply_to xid (words (xid ∷ 1 ∷ ns) ++ rest) ≡ Some (words ns ++ rest)
unfolding reply_to
reply_again xid ns rest lt = rw (words_again xid (1 ∷ ns) rest lt, words_again 1 ns rest (omega arith), eq-eqb xid xid refl) refl

-- accepted, no verifier, done
result_again : (ns rest : List ℕ) → result_in (words (0 ∷ 0 ∷ 0 ∷ 0 ∷ ns) ++ rest) ≡ Some (words ns ++ rest)
unfolding result_in
result_again ns rest =
    rw (words_again 0 (0 ∷ 0 ∷ 0 ∷ ns) rest (omega arith), words_again 0 (0 ∷ 0 ∷ ns) rest (omega arith), words_again 0 (0 ∷ ns) rest (omega arith), words_again 0 ns rest (omega arith)) refl

number_again : (asked : Control) (code n : ℕ) (rest : List ℕ) → n < 2 ^ 32 → is_answer asked code n ≡ true → answer_in asked code (words (n ∷ []) ++ rest) ≡ Some (reply.Answer code n)
unfolding answer_in
number_again asked code n rest lt is = rw (words_again n [] rest lt, is) refl

-- an answer to a question for the status has another code than 0
no_status : (asked : Control) (code n : ℕ) → is_answer asked code n ≡ true → (asks_status asked && eqb code 0) ≡ false
no_status (asks.Command volume command) code n is = refl
no_status (asks.Status volume) code n is =
    let four : code ≡ 4 = eqb-true code 4 (and_parts (eqb code 4) (eqb n 0) is).0 in
    rw four refl
no_status asks.Halt code n is = refl
no_status asks.Void code n is = refl
no_status asks.TooWeak code n is = refl
no_status asks.Garbage code n is = refl

answer_said : (asked : Control) (code n : ℕ) (rest : List ℕ) → code < 2 ^ 32 → n < 2 ^ 32 → is_answer asked code n ≡ true → said_in asked (words (code ∷ n ∷ []) ++ rest) ≡ Some (reply.Answer code n)
unfolding said_in
answer_said asked code n rest lt fits is = rw (words_again code (n ∷ []) rest lt, no_status asked code n is, number_again asked code n rest fits is) refl

pub answer_again : (xid code n : ℕ) (asked : Control) (rest : List ℕ) → xid < 2 ^ 32 → code < 2 ^ 32 → n < 2 ^ 32 → is_answer asked code n ≡ true → control_reply xid asked (answer_bytes xid code n ++ rest) ≡ reply.Answer code n
unfolding answer_bytes said
answer_again xid code n asked rest x lt fits is =
    rw (reply_again xid (0 ∷ 0 ∷ 0 ∷ 0 ∷ code ∷ n ∷ []) rest x, result_again (code ∷ n ∷ []) rest, answer_said asked code n rest lt fits is) refl

-- ---- the status

state_again : (s : State) → state_of (state_number s) ≡ Some s
state_again Down = refl
state_again Up = refl
state_again (Error cause.Disk) = refl
state_again (Error cause.Board) = refl
state_again (Error cause.Battery) = refl

state_fits : (s : State) → state_number s < 2 ^ 32
state_fits Down = omega arith
state_fits Up = omega arith
state_fits (Error cause.Disk) = omega arith
state_fits (Error cause.Board) = omega arith
state_fits (Error cause.Battery) = omega arith

battery_again : (b : Battery) → battery_of (battery_number b) ≡ Some b
battery_again Good = refl
battery_again Low = refl

battery_fits : (b : Battery) → battery_number b < 2 ^ 32
battery_fits Good = omega arith
battery_fits Low = omega arith

words_of_puts : (puts : ℕ) → (puts / 4294967296) * 4294967296 + puts % 4294967296 ≡ puts
words_of_puts puts = omega arith

status_said : (state : State) (dirty : ℕ) (battery : Battery) (puts : ℕ) (rest : List ℕ) → dirty < 2 ^ 32 → puts < 2 ^ 64
    → status_in (words (state_number state ∷ dirty ∷ battery_number battery ∷ (puts / 4294967296) ∷ (puts % 4294967296) ∷ []) ++ rest) ≡ Some (reply.Status state dirty battery puts)
unfolding status_in
status_said state dirty battery puts rest lt many =
    let high : ℕ = puts / 4294967296 in
    let low : ℕ = puts % 4294967296 in
    rw (
      words_again (state_number state) (dirty ∷ battery_number battery ∷ high ∷ low ∷ []) rest (state_fits state),
      words_again dirty (battery_number battery ∷ high ∷ low ∷ []) rest lt,
      words_again (battery_number battery) (high ∷ low ∷ []) rest (battery_fits battery),
      words_again high (low ∷ []) rest (omega arith),
      words_again low [] rest (omega arith),
      state_again state,
      battery_again battery,
      words_of_puts puts,
    ) refl

status_after_code : (volume : ℕ) (ns rest : List ℕ) → said_in (asks.Status volume) (words (0 ∷ ns) ++ rest) ≡ status_in (words ns ++ rest)
unfolding said_in
status_after_code volume ns rest = rw (words_again 0 ns rest (omega arith)) refl

pub status_again : (xid volume : ℕ) (state : State) (dirty : ℕ) (battery : Battery) (puts : ℕ) (rest : List ℕ) → xid < 2 ^ 32 → dirty < 2 ^ 32 → puts < 2 ^ 64
    → control_reply xid (asks.Status volume) (status_bytes xid state dirty battery puts ++ rest) ≡ reply.Status state dirty battery puts
unfolding status_bytes said
status_again xid volume state dirty battery puts rest x lt many =
    let shown : List ℕ = state_number state ∷ dirty ∷ battery_number battery ∷ (puts / 4294967296) ∷ (puts % 4294967296) ∷ [] in
    rw (reply_again xid (0 ∷ 0 ∷ 0 ∷ 0 ∷ 0 ∷ shown) rest x, result_again (0 ∷ shown) rest, status_after_code volume shown rest, status_said state dirty battery puts rest lt many) refl

-- ---- controls

volume_again : (volume : ℕ) (rest : List ℕ) → volume < 2 ^ 32 → volume_arg (words (volume ∷ []) ++ rest) ≡ Some volume
unfolding volume_arg
volume_again volume rest lt = rw (words_again volume [] rest lt) refl

control_again : (xid : ℕ) (c : Control) (rest : List ℕ) → Fits c → IsAsked c → control (control_call xid (procedure_of c) (arguments_of c ++ rest)) ≡ c
control_again xid (asks.Command volume command.Up) rest lt is = rw (volume_again volume rest lt) refl
control_again xid (asks.Command volume command.Down) rest lt is = rw (volume_again volume rest lt) refl
control_again xid (asks.Command volume command.Flush) rest lt is = rw (volume_again volume rest lt) refl
control_again xid (asks.Command volume command.Reset) rest lt is = rw (volume_again volume rest lt) refl
control_again xid (asks.Status volume) rest lt is = rw (volume_again volume rest lt) refl
control_again xid asks.Halt rest lt is = refl
control_again xid _ rest lt is = absurd is

-- what follows the datagram follows its arguments
longer : (xid procedure : ℕ) (args rest : List ℕ) → asked_bytes xid procedure args ++ rest ≡ sent_as 1 (control_call xid procedure (args ++ rest))
unfolding asked_bytes sent_as
longer xid procedure args rest = append_assoc _ args rest

is_served : (xid : ℕ) (c : Control) (args : List ℕ) → IsAsked c → refused (sent_asks 1 (control_call xid (procedure_of c) args)) ≡ None
is_served xid (asks.Command volume command.Up) args is = refl
is_served xid (asks.Command volume command.Down) args is = refl
is_served xid (asks.Command volume command.Flush) args is = refl
is_served xid (asks.Command volume command.Reset) args is = refl
is_served xid (asks.Status volume) args is = refl
is_served xid asks.Halt args is = refl
is_served xid _ args is = absurd is

procedure_fits : (c : Control) → procedure_of c < 2 ^ 32
procedure_fits (asks.Command volume command.Up) = omega arith
procedure_fits (asks.Command volume command.Down) = omega arith
procedure_fits (asks.Command volume command.Flush) = omega arith
procedure_fits (asks.Command volume command.Reset) = omega arith
procedure_fits (asks.Status volume) = omega arith
procedure_fits asks.Halt = omega arith
procedure_fits _ = omega arith

can_be_served : (xid : ℕ) (c : Control) (args : List ℕ) → xid < 2 ^ 32 → IsAsked c → CanBeServed 1 (control_call xid (procedure_of c) args)
can_be_served xid c args x is = record {
  xid = x;
  program = omega arith;
  version = omega arith;
  procedure = procedure_fits c;
  served = is_served xid c args is;
  caller = record { machine = omega arith; user = omega arith; group = omega arith; few_groups = omega arith; groups = tt };
}

pub sent_again : (xid : ℕ) (c : Control) (rest : List ℕ) → xid < 2 ^ 32 → Fits c → IsAsked c → control_in (control_bytes xid c ++ rest) ≡ Some c
sent_again xid c rest x lt is =
    let args : List ℕ = arguments_of c ++ rest in
    ap control_in (longer xid (procedure_of c) (arguments_of c) rest)
    ∙ ap asked_by (served_again 1 (control_call xid (procedure_of c) args) (can_be_served xid c args x is))
    ∙ ap (λ (found : Control). Some found) (control_again xid c rest lt is)
