-- The tables of inodes and directories.
use Rattle.std.specs.Prelude.{◌≡◌, ◌≢◌, ◌<◌, ◌≤◌, ℕ, ◌+◌, ◌*◌, ◌/◌, true, length, List, [], ◌∷◌, ◌++◌, get_or, min, ◌==◌, if◌then◌else◌}
use Rattle.stable.specs.Store.{Image}
use Rattle.files_model.specs.Files.{sectors_of}
use Rattle.v7_layout.specs.declared.inode.Inode.{Inode}
use Rattle.v7_map.specs.Frame.{Frame, Body, frame, is_directory}
use Rattle.v7_damage.specs.Stored.{body_at}
use Rattle.v7_damage.specs.Summaries.{AreSummaries}
use Rattle.v7_damage.specs.declared.bodies.Bodies.{Bodies}
use Rattle.v7_damage.specs.declared.bodies.Sectors.{Sectors}
use Rattle.v7_damage.specs.declared.bodies.Sectors.TheVariants.{InTable, Read}
use Rattle.v7_damage.specs.declared.summary.Summary.{Summary}

-- how many slots a directory of this size has, at most those of the greatest
abbrev pub slots_in_size : ℕ → ℕ
slots_in_size size = min size 70656 / 16

-- how many slots of an inode are kept, none of what is no directory
abbrev pub slots_kept : Inode → ℕ
slots_kept n = if n.mode / 4096 == 4 then slots_in_size n.size else 0

-- how many slots are kept of inode i
abbrev pub count_kept : Bodies → ℕ → ℕ
count_kept bodies i = get_or bodies.slots.items i 0

-- where its blocks begin, 4294967295 where they aren't kept
abbrev pub start_kept : Bodies → ℕ → ℕ
start_kept bodies i = get_or bodies.starts.items i 0

-- the block of sector k of its body, where they are
abbrev pub block_kept : Bodies → ℕ → ℕ → ℕ
block_kept bodies i k = get_or bodies.blocks.items (start_kept bodies i + k) 0

-- the tables have directory i, and where its sectors stand, if that is kept
pub record HasBody (image : Image) (bodies : Bodies) (i : ℕ) : Type 0 where
  pub slots : count_kept bodies i ≡ slots_in_size ((frame image).head i).size
  pub within : start_kept bodies i ≢ 4294967295 → start_kept bodies i + (slots_in_size ((frame image).head i).size + 31) / 32 ≤ length bodies.blocks.items
  pub blocks : start_kept bodies i ≢ 4294967295 → (k : ℕ) → 32 * k < slots_in_size ((frame image).head i).size → block_kept bodies i k ≡ (frame image).address i (Body k)

-- the tables have each directory below n, and the summary of each used inode
pub record AreBodies (image : Image) (bodies : Bodies) (n : ℕ) : Type 0 where
  pub each : (i : ℕ) → i < n → is_directory ((frame image).head i) ≡ true → HasBody image bodies i
  pub summed : AreSummaries (frame image) bodies.summaries.items n

-- tables with the entry of i-number 0 alone
pub record IsFirst (bodies : Bodies) : Type 0 where
  pub summaries : length bodies.summaries.items ≡ 1
  pub slots : length bodies.slots.items ≡ 1
  pub starts : length bodies.starts.items ≡ 1
  pub blocks : bodies.blocks.items ≡ []

-- tables with n entries, the first of which is that of no inode
pub record HasTables (n : ℕ) (types : List ℕ) (bodies : Bodies) : Type 0 where
  pub long : length types ≡ n
  pub none : get_or types 0 0 ≡ 0
  pub summaries : length bodies.summaries.items ≡ n
  pub slots : length bodies.slots.items ≡ n
  pub starts : length bodies.starts.items ≡ n
  pub blocks : length bodies.blocks.items ≤ 150000

-- the tables have one inode more, with this summary and so many slots, whose sectors stand at these blocks; where the blocks aren't kept, no start is said
pub record IsNext (old new : Bodies) (count : ℕ) (at : ℕ → ℕ) (summary : Summary) : Type 0 where
  pub summaries : new.summaries.items ≡ old.summaries.items ++ summary ∷ []
  pub slots : new.slots.items ≡ old.slots.items ++ count ∷ []
  pub starts : length new.starts.items ≡ length old.starts.items + 1
  pub starts_before : (i : ℕ) → i < length old.starts.items → start_kept new i ≡ start_kept old i
  pub longer : length old.blocks.items ≤ length new.blocks.items
  pub few : length new.blocks.items ≤ 150000
  pub blocks_before : (k : ℕ) → k < length old.blocks.items → get_or new.blocks.items k 0 ≡ get_or old.blocks.items k 0
  pub within : start_kept new (length old.starts.items) ≢ 4294967295 → start_kept new (length old.starts.items) + (count + 31) / 32 ≤ length new.blocks.items
  pub here : start_kept new (length old.starts.items) ≢ 4294967295 → (k : ℕ) → k < (count + 31) / 32 → block_kept new (length old.starts.items) k ≡ at k

-- the slots of directory i can be read: its size is within the limit, its blocks are sectors of the image, and the tables have it
pub record CanRead (image : Image) (bodies : Bodies) (i : ℕ) : Type 0 where
  pub dir : is_directory ((frame image).head i) ≡ true
  pub size : ((frame image).head i).size ≤ 70656
  pub stand : (k : ℕ) → k < sectors_of ((frame image).head i).size → (frame image).address i (Body k) < length image
  pub has : HasBody image bodies i

-- ---- the sectors of one directory

-- the block of sector k
abbrev pub block_by : Bodies → Sectors → ℕ → ℕ
block_by bodies (InTable start) k = get_or bodies.blocks.items (start + k) 0
block_by bodies (Read places) k = body_at places k

-- the sectors with the slots of directory i, at most 138, stand there
pub record AreSectors (f : Frame) (bodies : Bodies) (sectors : Sectors) (i : ℕ) : Type 0 where
  pub few : length (f.slots i) ≤ 4416
  pub each : (k : ℕ) → 32 * k < length (f.slots i) → block_by bodies sectors k ≡ f.address i (Body k)
