use Rattle.std.proofs.Common.{◌≡◌, ◌+◌, ◌≤◌, ◌++◌, length, map, take}
use Rattle.run_lines.specs.Lines.{printed}
use Rattle.run_lines.proofs.lines.push_name.Given as goal

abbrev pub invariant-loop-byte : goal.invariant-loop-byte
invariant-loop-byte l = record { bytes : l.line.bytes ≡ l.fn.line.bytes ++ map printed (take l.byte-index l.name); room : length l.line.bytes ≤ 100 + l.byte-index }
