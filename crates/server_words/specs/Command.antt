-- `nfsd` as a command of `clap`, and the words that it accepts (docs/CALLS.md, "Words").
use Rattle.std.specs.Prelude.{true, List, Option, Some, None, codes, if◌then◌else◌}
use Rattle.clap.specs.Words.{App, Row, Rule, Text, fault_of, matches_of, new_app, new_rule, with_rule}
use Rattle.clap.specs.Walk.{is_empty}
use Rattle.clap.specs.Simple.{on_top}
use Rattle.clap.specs.declared.builder.action.ArgAction.TheVariants.{SetTrue}

-- the last positional: one to four words that stand together, and one is required
abbrev pub volumes : Rule
volumes = record (new_rule (codes "volume")) { required = true; range = Some (record { start_inclusive = 1; end_inclusive = 4 }) }

-- an option with one value, a text
abbrev pub number : Text → Rule
number name = record (new_rule name) { long = Some name }

-- a flag
abbrev pub flag : Text → Rule
flag name = record (new_rule name) { long = Some name; action = Some SetTrue }

-- a command without arguments; no word in front names the program, and help and version are off
abbrev pub bare : App
bare = on_top (λ top. record top { no_binary_name = true; disable_help_flag = true; disable_version_flag = true }) (new_app (codes "nfsd"))

-- the command: its volumes, three options and two flags
abbrev pub nfsd : App
nfsd = with_rule (with_rule (with_rule (with_rule (with_rule (with_rule bare volumes)
    (number (codes "workers"))) (number (codes "turns"))) (number (codes "port")))
    (flag (codes "down"))) (flag (codes "accept-loss"))

-- what the command finds in the words where it accepts them: where it has no fault to find with them
abbrev pub accepted : List Text → Option (List Row)
accepted words = if is_empty (fault_of nfsd words) then Some (matches_of nfsd words) else None
