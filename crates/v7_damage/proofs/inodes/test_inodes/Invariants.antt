use Rattle.std.proofs.Common.{◌≡◌, ◌<◌, ◌+◌, ◌-◌, ℕ, [], length, get_or}
use Rattle.stable.specs.Looked.{Looked}
use Rattle.v7_map.specs.Frame.{frame}
use Rattle.v7_damage.specs.Marks.{AreSeen}
use Rattle.v7_damage.specs.Stored.{Keeps}
use Rattle.v7_damage.specs.Tables.{AreBodies, HasTables}
use Rattle.v7_damage.specs.Tests.{HasNumbers, first_failing, tests_of_inodes, earlier_blocks}
use Rattle.v7_damage.proofs.inodes.test_inodes.Given as goal

abbrev pub invariant-loop-ino : goal.invariant-loop-ino
invariant-loop-ino g l =
    let S = g.S.Stable in
    record {
      rest : S.tells → HasNumbers (S.image l.fn.store) l.isize l.fsize l.inodes → AreSeen l.fn.seen []
          → first_failing (frame (S.image l.fn.store)) (tests_of_inodes (frame (S.image l.fn.store)) 1 l.inodes) ≡ first_failing (frame (S.image l.fn.store)) (tests_of_inodes (frame (S.image l.fn.store)) l.ino (l.inodes + 1 - l.ino));
      seen : S.tells → HasNumbers (S.image l.fn.store) l.isize l.fsize l.inodes → AreSeen l.fn.seen [] → AreSeen l.seen (earlier_blocks (frame (S.image l.fn.store)) l.ino 0);
      fits : length l.seen ≡ length l.fn.seen;
      types : S.tells → HasNumbers (S.image l.fn.store) l.isize l.fsize l.inodes → (i : ℕ) → i < l.ino → get_or l.types.items i 0 ≡ ((frame (S.image l.fn.store)).head i).type;
      bodies : S.tells → HasNumbers (S.image l.fn.store) l.isize l.fsize l.inodes → AreBodies (S.image l.fn.store) l.bodies l.ino;
      tables : HasTables l.ino l.types.items l.bodies;
      keeps : S.tells → Keeps (S.image l.fn.store) l.reader;
      looked : Looked S l.fn.store l.store;
    }
