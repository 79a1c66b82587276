-- The blocks that files take.
use Rattle.std.specs.Prelude.{ℕ, ◌+◌, ◌-◌, Bool, Option, Some, None, nat_lt, nat_le, if◌then◌else◌, is_some, ◌&&◌}
use Rattle.std.specs.List.{range_with_len, count_by, sum_by, list_any}
use Rattle.std.specs.FinMap.{get}
use Rattle.files_model.specs.Files.{Node, Files, sectors_of}
use Rattle.files_model.specs.Permission.{is_directory}

-- the greatest size of a file in bytes, 138 sectors
abbrev pub size_limit : ℕ
size_limit = 70656

-- a directory holds every sector of its list of slots
abbrev pub is_held : Node → ℕ → Bool
is_held n k = if is_directory n.kind then nat_lt k (sectors_of n.size) else is_some (get n.sectors k)

-- the blocks of addresses that a node needs: one, where a sector of index 10 or more is held
abbrev pub map_blocks : Node → ℕ
map_blocks n = if list_any (λ k. nat_le 10 k && is_held n k) (range_with_len 0 (sectors_of n.size)) then 1 else 0

abbrev pub node_usage : Node → ℕ
node_usage n = count_by (is_held n) (range_with_len 0 (sectors_of n.size)) + map_blocks n

abbrev pub usage_at : Option Node → ℕ
usage_at None = 0
usage_at (Some n) = node_usage n

-- the blocks that all nodes take
unfoldable pub usage : Files → ℕ
usage files = sum_by (λ i. usage_at (get files.nodes i)) (range_with_len 1 files.inodes)

abbrev pub free : Files → ℕ
free files = files.blocks - usage files
