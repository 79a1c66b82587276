-- The walk through directories, as a list that grows and a mark for each number in it.
use Rattle.std.specs.Prelude.{◌≡◌, ℕ, true, Bool, List, get_or, length, ◌==◌, count_by}
use Rattle.stable.specs.Store.{Image}
use Rattle.v7_map.specs.Frame.{frame, is_directory}
use Rattle.v7_map.specs.Tree.{Tree, is_walked}
use Rattle.v7_map.specs.Weak.{parent}
use Rattle.v7_damage.specs.Marks.{mark_at, is_among}
use Rattle.v7_damage.specs.Tables.{CanRead}
use Rattle.v7_damage.specs.declared.bodies.Bodies.{Bodies}

-- the type at a number is that of a directory
abbrev pub is_dir_in : List ℕ → ℕ → Bool
is_dir_in types i = get_or types i 0 == 4

-- the marks are those of the numbers in the list, each of which stands there once
pub record AreListed (marks : List Bool) (xs : List ℕ) : Type 0 where
  pub each : (i : ℕ) → mark_at marks i ≡ is_among xs i
  pub once : length xs ≡ count_by (λ b. b) marks

-- the marks of the walked directories, and where `..` of each leads
pub record AreWalked (t : Tree) (found : List Bool) (ups : List ℕ) : Type 0 where
  pub marks : (i : ℕ) → mark_at found i ≡ is_walked t i
  pub up : (i : ℕ) → is_walked t i ≡ true → get_or ups i 0 ≡ parent t i

-- the types are those of the image's inodes, and each directory can be read
pub record CanWalk (image : Image) (types : List ℕ) (bodies : Bodies) : Type 0 where
  pub types_are : (i : ℕ) → is_dir_in types i ≡ is_directory ((frame image).head i)
  pub read : (i : ℕ) → is_directory ((frame image).head i) ≡ true → CanRead image bodies i
