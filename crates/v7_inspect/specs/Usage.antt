-- The blocks that are in use.
use Rattle.std.specs.Prelude.{◌≡◌, ◌≢◌, ◌<◌, ℕ, Bool, List, length, nat_le, ◌==◌, ◌&&◌, ◌||◌, not, if◌then◌else◌}
use Rattle.std.specs.List.{range_with_len, list_any}
use Rattle.stable.specs.Store.{Image}
use Rattle.v7_map.specs.Frame.{Body, Single, frame}
use Rattle.v7_map.specs.Tree.{tree, is_named}
use Rattle.v7_damage.specs.Marks.{mark_at}
use Rattle.v7_damage.specs.Summaries.{needs, sectors_in_size}

-- block b is one of the first n sectors of a body, or the one of addresses where one of these from the tenth on stands somewhere
abbrev pub needs_block : (ℕ → ℕ) → ℕ → ℕ → ℕ → Bool
needs_block at single n b = list_any (λ k. at k == b) (range_with_len 0 n) || (list_any (λ k. nat_le 10 k && not (at k == 0)) (range_with_len 0 n) && (single == b))

-- inode i is named and needs block b
unfoldable pub is_needed_by : Image → ℕ → ℕ → Bool
is_needed_by image b i =
    let f = frame image in
    is_named (tree f) i && needs_block (λ k. f.address i (Body k)) (f.address i Single) (sectors_in_size (f.head i).size) b

-- the marks of the blocks that the named ones of the first n inodes need; 0 is no block
pub record AreNeeded (image : Image) (marks : List Bool) (n : ℕ) : Type 0 where
  pub each : (b : ℕ) → b ≢ 0 → b < length marks → mark_at marks b ≡ list_any (is_needed_by image b) (range_with_len 1 n)

-- the blocks that inode i needs, none where no slot names it
abbrev pub named_needs : Image → ℕ → ℕ
named_needs image i = if is_named (tree (frame image)) i then needs (frame image) i else 0
