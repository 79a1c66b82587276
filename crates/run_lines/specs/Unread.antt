-- What is said where the words of a program can't be read.
use Rattle.std.specs.Prelude.{ℕ, List}
use Rattle.run_lines.specs.Lines.{no_memory_line}
use Rattle.run_lines.specs.declared.program.Unread.{Unread}
use Rattle.run_lines.specs.declared.program.Unread.TheVariants as why

abbrev pub unread_status : Unread → ℕ
unread_status why.NoMemory = 75
unread_status why.NotText = 64

abbrev pub unread_line : List ℕ → Unread → List ℕ
unread_line usage why.NoMemory = no_memory_line
unread_line usage why.NotText = usage
