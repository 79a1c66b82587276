-- What a rig has of a board that may be there.
use Rattle.std.specs.Prelude.{ℕ, ◌+◌, Bool, true, Option, Some, None}
use Rattle.rig_file.specs.declared.board_file.BoardFile.{BoardFile}

-- its buffers
abbrev pub buffers_of : Option BoardFile → ℕ
buffers_of None = 0
buffers_of (Some board) = board.buffers

-- its words, one more than it has buffers
abbrev pub words_of : Option BoardFile → ℕ
words_of None = 0
words_of (Some board) = board.buffers + 1

-- whether it kept its memory; without a board nothing is lost
abbrev pub kept_of : Option BoardFile → Bool
kept_of None = true
kept_of (Some board) = board.kept
