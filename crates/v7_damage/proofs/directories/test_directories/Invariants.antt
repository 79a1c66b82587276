use Rattle.std.proofs.Common.{◌≡◌, ◌-◌, length}
use Rattle.stable.specs.Store.{Image}
use Rattle.v7_map.specs.Frame.{frame}
use Rattle.v7_map.specs.Tree.{tree}
use Rattle.v7_damage.specs.Names.{ComesBefore, HasNoted, tests_of_directories}
use Rattle.v7_damage.specs.Tests.{first_failing}
use Rattle.v7_damage.proofs.directories.test_directories.Given as goal

abbrev pub invariant-loop-ino : goal.invariant-loop-ino
invariant-loop-ino l = record {
  rest : (image : Image) → HasNoted image l.listed.types.items l.listed.bodies l.walks l.noted.parents l.noted.kept (length l.listed.types.items)
      → first_failing (frame image) (tests_of_directories (tree (frame image)) 1 (length l.listed.types.items - 1)) ≡ first_failing (frame image) (tests_of_directories (tree (frame image)) l.ino (length l.listed.types.items - l.ino));
  before : (image : Image) → HasNoted image l.listed.types.items l.listed.bodies l.walks l.noted.parents l.noted.kept (length l.listed.types.items) → ComesBefore l.ino l.noted.kept;
}
