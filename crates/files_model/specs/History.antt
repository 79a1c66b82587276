-- Histories of calls on a volume.
use Rattle.std.specs.Prelude.{◌≡◌, ℕ, ◌+◌, List, [], ◌∷◌, map}
use Rattle.files_model.specs.declared.address.Address.{Address}
use Rattle.files_model.specs.declared.call.Call.{Call}
use Rattle.files_model.specs.declared.credential.Cred.{Cred}
use Rattle.files_model.specs.declared.reply.Reply.{Reply}
use Rattle.files_model.specs.declared.reply.Reply.TheVariants as reply
use Rattle.files_model.specs.declared.reply.Stat.TheVariants as stat
use Rattle.files_model.specs.Files.{Files}
use Rattle.files_model.specs.Step.{step}
use Rattle.files_model.specs.Torn.{Asked, Torn}

-- a call as it came: its transaction number, its sender, and who calls
pub record Item : Type 0 where
  pub xid : ℕ
  pub from : Address
  pub call : Call
  pub cred : Cred

abbrev pub asked_of : Item → Asked
asked_of item = (item.call, item.cred)

-- A call was done, and answered so; calls failed, each answered IO; or calls were cut by a crash. `worker` is the one whose hold it was.
pub data Event : Type 0 where
  Done : (worker : ℕ) (item : Item) (now : ℕ) (reply : Reply) → Event
  Failed : (worker : ℕ) (items : List Item) (now : ℕ) (left : Files) → Event
  Cut : (calls : List Asked) (now : ℕ) (left : Files) → Event

abbrev pub after_event : Files → Event → Files
after_event files (Done worker item now reply) = (step files item.call item.cred now).1
after_event files (Failed worker items now left) = left
after_event files (Cut calls now left) = left

-- the reply is that of the step, and what failed or was cut leaves files that are torn
abbrev pub IsLegalNext : Files → Event → Type 0
IsLegalNext files (Done worker item now reply) = reply ≡ (step files item.call item.cred now).0
IsLegalNext files (Failed worker items now left) = Torn files (map asked_of items) now left
IsLegalNext files (Cut calls now left) = Torn files calls now left

-- the files after a history
abbrev pub after : Files → List Event → Files
after files [] = files
after files (event ∷ events) = after (after_event files event) events

abbrev pub IsLegal : Files → List Event → Type 0
IsLegal files [] = Unit {0}
IsLegal files (event ∷ events) = IsLegalNext files event × IsLegal (after_event files event) events

-- the calls of an event, as they came
abbrev pub items_of : Event → List Item
items_of (Done worker item now reply) = item ∷ []
items_of (Failed worker items now left) = items
items_of (Cut calls now left) = []

-- each call with its reply
abbrev pub answers_of : Event → List (Item × Reply)
answers_of (Done worker item now reply) = (item, reply) ∷ []
answers_of (Failed worker items now left) = map (λ item. (item, reply.Refused stat.Io)) items
answers_of (Cut calls now left) = []

-- the calls of an event with their time, as `Torn` takes them
abbrev pub calls_of : Event → List Asked
calls_of (Done worker item now reply) = asked_of item ∷ []
calls_of (Failed worker items now left) = map asked_of items
calls_of (Cut calls now left) = calls

abbrev pub time_of : Event → ℕ
time_of (Done worker item now reply) = now
time_of (Failed worker items now left) = now
time_of (Cut calls now left) = now

-- how many events failed
abbrev pub failures : List Event → ℕ
failures [] = 0
failures (Done worker item now reply ∷ events) = failures events
failures (Failed worker items now left ∷ events) = failures events + 1
failures (Cut calls now left ∷ events) = failures events
