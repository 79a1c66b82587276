-- Which replies a call can have, by their form and their bounds.
use Rattle.std.specs.Prelude.{◌+◌, ◌≤◌, ℕ, length}
use Rattle.std.specs.List.{sum_by}
use Rattle.files_model.specs.declared.call.Call.{Call}
use Rattle.files_model.specs.declared.call.Call.TheVariants as call
use Rattle.files_model.specs.declared.entries.Entry.{Entry}
use Rattle.files_model.specs.declared.reply.Reply.{Reply}
use Rattle.files_model.specs.declared.reply.Reply.TheVariants as reply
use Rattle.xdr_rpc.specs.Words.{padding}

-- a refusal or attributes alone, as WRITE answers
abbrev pub IsShort : Reply → Type 0
IsShort (reply.Refused status) = Unit {0}
IsShort (reply.Attr attr) = Unit {0}
IsShort _ = ⊥

-- the bytes of an entry: the name with its padding, and four words
abbrev pub entry_room : Entry → ℕ
entry_room e = 16 + (length e.name + padding (length e.name))

-- a text of at most 1,024 bytes, data of at most 8,192, and entries that with the end mark take at most 8,192 (RFC 1094 2.2.6, 2.2.7 and 2.2.17)
abbrev pub IsBounded : Reply → Type 0
IsBounded (reply.Text text) = length text ≤ 1024
IsBounded (reply.Data attr bytes) = length bytes ≤ 8192
IsBounded (reply.Entries list end) = 12 + sum_by entry_room list ≤ 8192
IsBounded _ = Unit {0}

-- what a call can be answered with
abbrev pub CanAnswer : Call → Reply → Type 0
CanAnswer (call.Write file offset bytes) r = IsShort r
CanAnswer _ r = IsBounded r
