use Rattle.std.proofs.Common.{◌≡◌, ◌*◌, min}
use Rattle.stable.specs.Looked.{Looked}
use Rattle.v7_damage.specs.Stored.{body_slots}
use Rattle.v7_damage.specs.Tables.{CanRead, block_by}
use Rattle.v7_damage.proofs.slots.read_directory.Given as goal

abbrev pub invariant-loop-index : goal.invariant-loop-index
invariant-loop-index g l =
    let S = g.S.Stable in
    record {
      slots : S.tells → CanRead (S.image l.fn.store) l.bodies l.ino → l.slots.items ≡ body_slots (S.image l.fn.store) (block_by l.bodies l.sectors) (min (32 * l.index) l.count);
      looked : Looked S l.fn.store l.store;
    }
