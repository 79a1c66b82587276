use Rattle.std.proofs.Common.{◌≡◌, ◌-◌, length}
use Rattle.stable.specs.Looked.{Looked}
use Rattle.v7_damage.specs.Stored.{Keeps}
use Rattle.v7_damage.specs.Undamaged.{IsUndamaged}
use Rattle.v7_inspect.specs.Usage.{AreNeeded}
use Rattle.v7_inspect.proofs.judged.mark_inodes.Given as goal

abbrev pub invariant-loop-ino : goal.invariant-loop-ino
invariant-loop-ino g l =
    let S = g.S.Stable in
    record {
      marks : S.tells → IsUndamaged (S.image l.fn.store) l.known → AreNeeded (S.image l.fn.store) l.fn.needed 0 → AreNeeded (S.image l.fn.store) l.needed (l.ino - 1);
      long : length l.needed ≡ length l.fn.needed;
      keeps : S.tells → Keeps (S.image l.fn.store) l.reader;
      looked : Looked S l.fn.store l.store;
    }
