-- What a clock counts.
use Rattle.std.specs.Prelude.{ℕ, Option, Some, None, nat_eq, if◌then◌else◌}
use Rattle.stable.specs.Counts.{one_more}

-- the count of changes after an answer: one more exactly where it differs from the one before
abbrev pub changes_after : Option ℕ → ℕ → ℕ → ℕ
changes_after None second n = n
changes_after (Some before) second n = if nat_eq before second then n else one_more n
