-- The blocks of a link's text.
use Rattle.std.specs.Prelude.{ℕ, ◌+◌, ◌<◌, ◌≤◌, min, Bool, List, [], ◌∷◌, Some}
use Rattle.std.specs.List.{AllByRecursion}
use Rattle.index_sets.specs.Free.{IsLowestFrom}
use Rattle.plan_symlink.specs.declared.text_blocks.TextBlocks.{TextBlocks}
use Rattle.plan_symlink.specs.declared.text_blocks.TextBlocks.TheVariants as blocks

-- the blocks as a list, the first one first
abbrev pub text_list : TextBlocks → List ℕ
text_list blocks.Empty = []
text_list (blocks.One first) = first ∷ []
text_list (blocks.Two first second) = first ∷ second ∷ []

-- these are the lowest free ones from a number on, in rising order
abbrev pub AreLowestFrom : List Bool → ℕ → List ℕ → Type 0
AreLowestFrom free from [] = Unit {0}
AreLowestFrom free from (a ∷ rest) = IsLowestFrom free from (Some a) × AreLowestFrom free (a + 1) rest

-- they are past the super-block and among so many sectors, and an inode can name them
abbrev pub AreWithin : ℕ → List ℕ → Type 0
AreWithin sectors blocks = AllByRecursion (λ a. (2 ≤ a) × (a < min sectors 1048576)) blocks
