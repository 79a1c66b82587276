use Rattle.std.proofs.Common.{◌≡◌, length}
use Rattle.stable.specs.Looked.{Looked}
use Rattle.v7_damage.specs.Stored.{Keeps}
use Rattle.v7_damage.specs.Undamaged.{IsUndamaged}
use Rattle.v7_repair.specs.Free.{is_fresh}
use Rattle.v7_repair.proofs.Giving.{HasBelow}
use Rattle.v7_repair.proofs.free.give_numbers.Given as goal

abbrev pub invariant-loop-ino : goal.invariant-loop-ino
invariant-loop-ino g l =
    let S = g.S.Stable in
    record {
      has : S.tells → IsUndamaged (S.image l.fn.store) l.known → HasBelow (is_fresh (S.image l.fn.store)) l.sets.inodes l.ino;
      long : length l.sets.inodes ≡ length l.known.types.items;
      blocks : l.sets.blocks ≡ l.fn.sets.blocks;
      keeps : S.tells → Keeps (S.image l.fn.store) l.reader;
      looked : Looked S l.fn.store l.store;
    }
