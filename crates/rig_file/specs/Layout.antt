-- Where all stands in a board's file: the words, the buffers, and a byte that says whether the memory was kept (docs/FORMATS.md, "Board file").
use Rattle.std.specs.Prelude.{ℕ, ◌+◌, ◌*◌}

-- a buffer stands behind the words and the buffers before it
abbrev pub buffer_at : ℕ → ℕ → ℕ
buffer_at buffers i = 8 * (buffers + 1) + 512 * i

-- the byte stands behind the words and the buffers
abbrev pub kept_at : ℕ → ℕ
kept_at buffers = 8 * (buffers + 1) + 512 * buffers

-- how long the file is
abbrev pub board_bytes : ℕ → ℕ
board_bytes buffers = kept_at buffers + 1
