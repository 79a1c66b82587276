-- The lines and statuses of a run (docs/CALLS.md, "The control of a server").
use Rattle.std.specs.Prelude.{ℕ, List, ◌++◌, codes}
use Rattle.std.specs.Fmt.{decimal}
use Rattle.stable.specs.declared.battery.Battery.{Battery}
use Rattle.stable.specs.declared.battery.Battery.TheVariants.{Good, Low}
use Rattle.stable.specs.declared.state.State.{State}
use Rattle.stable.specs.declared.state.State.TheVariants.{Up, Down, Error}
use Rattle.stable.specs.declared.state.Cause.TheVariants as cause
use Rattle.presto_control.specs.declared.answers.Answer.{Answer}
use Rattle.presto_control.specs.declared.answers.Answer.TheVariants as answer

abbrev pub usage_line : List ℕ
usage_line = codes "usage: prestoctl ADDRESS up|down|flush|reset|status|halt [V]"

abbrev pub silent_line : List ℕ
silent_line = codes "no answer"

abbrev pub broken_line : List ℕ
broken_line = codes "link failed"

abbrev pub state_word : State → List ℕ
state_word Up = codes "up"
state_word Down = codes "down"
state_word (Error cause.Disk) = codes "error disk"
state_word (Error cause.Board) = codes "error board"
state_word (Error cause.Battery) = codes "error battery"

abbrev pub battery_word : Battery → List ℕ
battery_word Good = codes "good"
battery_word Low = codes "low"

abbrev pub left_line : ℕ → List ℕ
left_line n = codes "left " ++ decimal n

abbrev pub status_line : State → ℕ → Battery → ℕ → List ℕ
status_line state dirty battery puts = codes "state " ++ state_word state ++ codes " dirty " ++ decimal dirty ++ codes " battery " ++ battery_word battery ++ codes " puts " ++ decimal puts

abbrev pub answer_line : Answer → List ℕ
answer_line answer.Done = codes "done"
answer_line (answer.Left n) = left_line n
answer_line answer.BatteryLow = codes "battery low"
answer_line answer.NotDown = codes "not down"
answer_line answer.NoVolume = codes "no volume"
answer_line (answer.Status state dirty battery puts) = status_line state dirty battery puts
answer_line answer.Refused = codes "refused"

-- 0 where it was done or its status was told, else 1
abbrev pub answer_status : Answer → ℕ
answer_status answer.Done = 0
answer_status (answer.Left n) = 1
answer_status answer.BatteryLow = 1
answer_status answer.NotDown = 1
answer_status answer.NoVolume = 1
answer_status (answer.Status state dirty battery puts) = 0
answer_status answer.Refused = 1
