-- Nodes of files, as strokes change them.
use Rattle.std.specs.Prelude.{ℕ, Option, Some, None, if◌then◌else◌}
use Rattle.std.specs.Ordering.{nat_cmp}
use Rattle.std.specs.FinMap.{FinMap, insert, remove}
use Rattle.files_model.specs.Files.{Node, Files}
use Rattle.stable.specs.Store.{Image}
use Rattle.v7_map.specs.Frame.{frame}
use Rattle.v7_map.specs.Tree.{tree, is_named}
use Rattle.v7_map.specs.View.{node_at}

-- the node of inode i, if a name leads to it
abbrev pub node_if : Image → ℕ → Option Node
node_if image i = if is_named (tree (frame image)) i then Some (node_at image i) else None

-- a map with a key set or left out
abbrev pub put_option : {X : Type 0} → FinMap nat_cmp X → ℕ → Option X → FinMap nat_cmp X
put_option m k None = remove m k
put_option m k (Some x) = insert m k x

-- files with node i set or gone, and node p set
abbrev pub changed : Files → ℕ → Option Node → ℕ → Node → Files
changed files i x p y = record files { nodes = insert (put_option files.nodes i x) p y }

-- files with the generation of i-number i set
abbrev pub with_generation : Files → ℕ → ℕ → Files
with_generation files i g = record files { generations = insert files.generations i g }
