-- The inodes that a plan puts last.
use Rattle.std.specs.Prelude.{ℕ, List, [], ◌∷◌}
use Rattle.stable.specs.Store.{Image}
use Rattle.v7_map.specs.Image.{inode_at}
use Rattle.v7_map.specs.Plan.{PutsInode}
use Rattle.v7_plans.specs.Setting.{put_inode}
use Rattle.v7_strokes.specs.Entries.{inode_put}
use Rattle.v7_strokes.specs.Inodes.{timed_inode}

-- puts of these inodes' sectors
abbrev pub inode_puts : List ℕ → List (List ℕ) → List (ℕ × List ℕ)
inode_puts [] bs = []
inode_puts (d ∷ ds) [] = []
inode_puts (d ∷ ds) (b ∷ bs) = inode_put d b ∷ inode_puts ds bs

-- they give these directories their times, one after the other
abbrev pub AreTimes : Image → ℕ → List ℕ → List (List ℕ) → Type 0
AreTimes image now [] [] = Unit {0}
AreTimes image now [] (b ∷ bs) = ⊥
AreTimes image now (d ∷ ds) [] = ⊥
AreTimes image now (d ∷ ds) (b ∷ bs) = PutsInode image d b (timed_inode (inode_at image d) now) × AreTimes (put_inode image d b) now ds bs
