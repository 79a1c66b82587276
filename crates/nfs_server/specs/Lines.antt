-- The lines that are said of a whole run (docs/CALLS.md, "Lines and statuses").
use Rattle.std.specs.Prelude.{ℕ, List, ◌++◌, codes}
use Rattle.std.specs.Fmt.{decimal}

abbrev pub usage_line : List ℕ
usage_line = codes "usage: nfsd VOLUME.. [--workers N] [--turns T] [--port P] [--down] [--accept-loss]"

abbrev pub numbers_line : ℕ → ℕ → ℕ → List ℕ
numbers_line received answered dropped = codes "received " ++ decimal received ++ codes " answered " ++ decimal answered ++ codes " dropped " ++ decimal dropped

abbrev pub no_port_line : ℕ → List ℕ
no_port_line port = codes "cannot open port " ++ decimal port
