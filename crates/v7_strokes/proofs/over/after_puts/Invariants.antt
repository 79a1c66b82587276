use Rattle.std.proofs.Common.{◌≡◌, take}
use Rattle.v7_strokes.specs.Over.{sector_after}
use Rattle.v7_strokes.proofs.over.after_puts.Given as goal

abbrev pub invariant-loop-put : goal.invariant-loop-put
invariant-loop-put l = record {
  sofar : l.bytes ≡ sector_after (take l.put-index l.puts) l.sector l.read;
}
