-- The words of the command line (docs/CALLS.md, "The control of a server").
use Rattle.std.specs.Prelude.{ℕ, List, [], ◌∷◌, Option, Some, None, if◌then◌else◌, codes}
use Rattle.std.specs.Option.{option_and_then}
use Rattle.std.specs.Str.{bytes_eq}
use Rattle.stable.specs.declared.command.Command.TheVariants as command
use Rattle.presto_rpc.specs.declared.control.Control.{Control}
use Rattle.presto_rpc.specs.declared.control.Control.TheVariants as asks
use Rattle.run_lines.specs.Numbers.{number_of}

-- a command to a volume, or its status
abbrev pub on_volume : List ℕ → ℕ → Option Control
on_volume verb volume =
    if bytes_eq verb (codes "up") then Some (asks.Command volume command.Up)
    else if bytes_eq verb (codes "down") then Some (asks.Command volume command.Down)
    else if bytes_eq verb (codes "flush") then Some (asks.Command volume command.Flush)
    else if bytes_eq verb (codes "reset") then Some (asks.Command volume command.Reset)
    else if bytes_eq verb (codes "status") then Some (asks.Status volume)
    else None

-- what all words ask for, of a volume from 0 to 3 or of the server; none where they aren't of the grammar
abbrev pub asked_by : List (List ℕ) → Option Control
asked_by [] = None
asked_by (verb ∷ []) = if bytes_eq verb (codes "halt") then Some asks.Halt else None
asked_by (verb ∷ volume ∷ []) = option_and_then (on_volume verb) (number_of 3 volume)
asked_by (verb ∷ volume ∷ more ∷ rest) = None
