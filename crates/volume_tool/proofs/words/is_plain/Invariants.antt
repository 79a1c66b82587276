use Rattle.std.proofs.Common.{◌≡◌, drop}
use Rattle.std.specs.Char.{is_ascii_alphanumeric}
use Rattle.std.specs.List.{list_all}
use Rattle.volume_tool.proofs.words.is_plain.Given as goal

abbrev pub invariant-loop-byte : goal.invariant-loop-byte
invariant-loop-byte l = record { rest : list_all is_ascii_alphanumeric (drop l.byte-index l.text) ≡ list_all is_ascii_alphanumeric l.text }
