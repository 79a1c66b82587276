use Rattle.std.proofs.Common.{◌≡◌, ◌≤◌, ◌-◌, ◌*◌}
use Rattle.std.specs.List.{range_with_len, sum_by, list_all}
use Rattle.stable.specs.Store.{Image}
use Rattle.v7_map.specs.Frame.{frame}
use Rattle.v7_damage.specs.Undamaged.{IsUndamaged}
use Rattle.v7_inspect.specs.Tidy.{is_strong_at}
use Rattle.v7_inspect.specs.Usage.{named_needs}
use Rattle.v7_inspect.proofs.summed.sum_up.Given as goal

abbrev pub invariant-loop-ino : goal.invariant-loop-ino
invariant-loop-ino l = record {
  used : (image : Image) → IsUndamaged image l.known → l.used ≡ sum_by (named_needs image) (range_with_len 1 (l.ino - 1));
  strong : (image : Image) → IsUndamaged image l.known → l.strong ≡ list_all (is_strong_at (frame image)) (range_with_len 1 (l.ino - 1));
  few : l.used ≤ 256 * l.ino;
}
