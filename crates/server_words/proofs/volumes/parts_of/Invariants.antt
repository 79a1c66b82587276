use Rattle.std.proofs.Common.{◌≡◌, ◌++◌, drop, map}
use Rattle.std.specs.Prelude.{flat_map}
use Rattle.run_lines.specs.Naming.{named_of}
use Rattle.server_words.specs.Words.{parts_of}
use Rattle.server_words.proofs.volumes.parts_of.Given as goal

abbrev pub invariant-loop-volume : goal.invariant-loop-volume
invariant-loop-volume l = map (λ part. part.now) l.parts.items ++ flat_map parts_of (map named_of (drop l.volume-index l.volumes)) ≡ flat_map parts_of (map named_of l.volumes)
