use Rattle.std.proofs.Common.{length}
use Rattle.stable.specs.Looked.{Looked}
use Rattle.v7_map.specs.Frame.{frame}
use Rattle.v7_map.specs.Tree.{tree}
use Rattle.v7_damage.specs.Names.{AreTypes, HasNoted, HasRoom}
use Rattle.v7_damage.specs.Walk.{AreWalked, CanWalk}
use Rattle.v7_damage.proofs.noted.note_directories.Given as goal

abbrev pub invariant-loop-ino : goal.invariant-loop-ino
invariant-loop-ino g l =
    let S = g.S.Stable in
    record {
      noted : S.tells → AreTypes (frame (S.image l.fn.store)) l.listed.types.items → CanWalk (S.image l.fn.store) l.listed.types.items l.listed.bodies
          → AreWalked (tree (frame (S.image l.fn.store))) l.walks.found l.walks.ups.items
          → HasNoted (S.image l.fn.store) l.listed.types.items l.listed.bodies l.walks l.parents l.kept l.ino;
      room : HasRoom (length l.listed.types.items) l.parents l.kept;
      looked : Looked S l.fn.store l.store;
    }
