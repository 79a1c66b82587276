-- The blocks that a directory takes.
use Rattle.std.specs.Prelude.{ℕ, ◌/◌, ◌%◌, ◌==◌, if◌then◌else◌}

-- the blocks that a directory of this size takes when it gets longer by a slot
unfoldable pub added_blocks : ℕ → ℕ
added_blocks size = if size % 512 == 0 then (if size / 512 == 10 then 2 else 1) else 0
