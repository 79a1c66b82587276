-- Where the blocks of a directory are to stand that gets longer by a slot.
use Rattle.std.specs.Prelude.{◌≡◌, ◌≢◌, ℕ, ◌+◌, ◌-◌, ◌*◌, ◌<◌, ◌≤◌, min, max, Bool, true, List, [], ◌∷◌, ◌++◌, length, get_or, Option, Some, None, IfSome, ◌==◌, ◌&&◌, nat_le, if◌then◌else◌}
use Rattle.files_model.specs.Batch.{one_if}
use Rattle.files_model.specs.Space.{size_limit}
use Rattle.index_sets.specs.Free.{IsLowestFrom, count_free}
use Rattle.plan_file.specs.declared.places.Places.{Places}
use Rattle.stable.specs.Store.{Image}
use Rattle.v7_layout.specs.Numbers.{field}
use Rattle.v7_layout.specs.declared.inode.Inode.{Inode}
use Rattle.v7_layout.specs.declared.slot.Slot.{Slot}
use Rattle.v7_map.specs.Frame.{Place, frame, is_directory}
use Rattle.v7_map.specs.Image.{inode_at}
use Rattle.v7_map.specs.Weak.{IsStrong}
use Rattle.v7_sets.specs.Sets.{AreSetsOf}
use Rattle.v7_strokes.specs.Inodes.{BlocksFit}
use Rattle.plan_name.specs.Creating.{LaysOut, MapWithin}
use Rattle.plan_name.specs.Growth.{added_blocks}
use Rattle.plan_name.specs.declared.choosing.Chosen.{Chosen}
use Rattle.plan_name.specs.declared.creating_puts.Listing.{Listing}
use Rattle.plan_name.specs.declared.creating_puts.Longer.{Longer}
use Rattle.plan_name.specs.declared.laying_out.Laid.{Laid}
use Rattle.plan_name.specs.declared.laying_out.NewBlocks.{NewBlocks}

-- Directory d, which has this inode, may get longer by a slot: the sets have what is free, and enough blocks.
pub record MayGrow (image : Image) (d : ℕ) (inode : Inode) (blocks inodes : List Bool) : Type 0 where
  pub strong : IsStrong (frame image)
  pub sets : AreSetsOf image blocks inodes
  pub is : inode ≡ inode_at image d
  pub dir : is_directory ((frame image).head d) ≡ true
  pub room : inode.size + 16 ≤ size_limit
  pub enough : added_blocks inode.size ≤ count_free blocks

-- ---- which blocks

-- how many blocks are new where sector q is to be held
abbrev pub needed_blocks : Places → ℕ → ℕ
needed_blocks places q = one_if (get_or places.body q 0 == 0) + one_if (nat_le 10 q && (places.single == 0))

-- The block of sector q: it stays, and a new one is the lowest free one.
pub record IsSectorBlock (blocks : List Bool) (places : Places) (q sector : ℕ) : Type 0 where
  pub old : get_or places.body q 0 ≢ 0 → sector ≡ get_or places.body q 0
  pub new : get_or places.body q 0 ≡ 0 → IsLowestFrom blocks 0 (Some sector)

-- The block of addresses: it stays, and a new one, where sector q is reached through it, is the lowest free one from a number on.
pub record IsMapBlock (blocks : List Bool) (places : Places) (q from single : ℕ) : Type 0 where
  pub old : places.single ≢ 0 → single ≡ places.single
  pub direct : q < 10 → single ≡ places.single
  pub new : places.single ≡ 0 → 10 ≤ q → IsLowestFrom blocks from (Some single)

-- both, where that of the sector is the lower one
pub record AreChosen (blocks : List Bool) (places : Places) (q a b : ℕ) : Type 0 where
  pub sector : IsSectorBlock blocks places q a
  pub single : IsMapBlock blocks places q (a + 1) b

-- they are past the super-block and among so many sectors, and an inode can name them
pub record ChosenWithin (sectors : ℕ) (chosen : Chosen) : Type 0 where
  pub sector : (2 ≤ chosen.sector) × (chosen.sector < min sectors 1048576)
  pub single : chosen.single ≢ 0 → (2 ≤ chosen.single) × (chosen.single < min sectors 1048576)

-- ---- what a directory gets

-- the block of sector l of a body, once sector q stands at this one
abbrev pub body_with : List ℕ → ℕ → ℕ → ℕ → ℕ
body_with body q a l = if l == q then a else get_or body l 0

-- A block of addresses is put where sector q is new and reached through it, with these addresses.
abbrev pub PutsMap : ℕ → Bool → ℕ → (ℕ → ℕ) → Option Listing → Type 0
PutsMap q fresh single at None = fresh ≡ true → q < 10
PutsMap q fresh single at (Some listing) =
    (10 ≤ q) × (fresh ≡ true) × (listing.block ≡ single) × (length listing.bytes ≡ 512) × ((l : ℕ) → 10 ≤ l → l < 138 → field listing.bytes (4 * (l - 10)) 4 ≡ at l)

-- sector q stands at this block then
pub record IsLonger (places : Places) (q sector : ℕ) (longer : Longer) : Type 0 where
  pub fresh : longer.fresh ≡ (get_or places.body q 0 == 0)
  pub own : (l : ℕ) → l < 10 → get_or longer.blocks.direct l 0 ≡ body_with places.body q sector l
  pub map : PutsMap q (get_or places.body q 0 == 0) longer.blocks.single (body_with places.body q sector) longer.map

-- a block that is another than before
abbrev pub if_new : ℕ → ℕ → Option ℕ
if_new old new = if old == new then None else Some new

-- one block or none
abbrev pub one_of : Option ℕ → List ℕ
one_of None = []
one_of (Some a) = a ∷ []

-- the new blocks, in the order in which they are taken
abbrev pub new_list : NewBlocks → List ℕ
new_list new = one_of new.sector ++ one_of new.map

-- one past a block, 0 where there is none
abbrev pub past : Option ℕ → ℕ
past None = 0
past (Some a) = a + 1

-- one past the new blocks, 0 where there are none
abbrev pub past_new : NewBlocks → ℕ
past_new new = max (past new.sector) (past new.map)

-- what is laid out by the places of a directory, of which sector q is to be held
pub record IsLaid (blocks : List Bool) (places : Places) (q : ℕ) (laid : Laid) : Type 0 where
  pub chosen : AreChosen blocks places q laid.sector laid.longer.blocks.single
  pub longer : IsLonger places q laid.sector laid.longer
  pub new_sector : laid.new.sector ≡ if_new (get_or places.body q 0) laid.sector
  pub new_map : laid.new.map ≡ if_new places.single laid.longer.blocks.single

-- a new sector's block is the lowest free one, and that of a new block of addresses the next one
pub record AreLowest (blocks : List Bool) (laid : Laid) : Type 0 where
  pub sector : IfSome laid.new.sector (λ a. IsLowestFrom blocks 0 (Some a))
  pub map : IfSome laid.new.map (λ a. IsLowestFrom blocks (laid.sector + 1) (Some a))

-- the sector and a block of addresses that is put are past the super-block and among so many sectors
pub record LaidWithin (sectors : ℕ) (laid : Laid) : Type 0 where
  pub past : 2 ≤ laid.sector
  pub below : laid.sector < sectors
  pub map : MapWithin sectors laid.longer
  pub fits : BlocksFit laid.longer.blocks

-- directory d gets longer by slot k so: its blocks are to stand at some places, of which these are new
abbrev pub LaysLonger : Image → ℕ → ℕ → Laid → Type 0
LaysLonger image d k laid = (target : Place → ℕ) × ((slot : Slot) → LaysOut image (record { directory = d; index = k; sector = laid.sector; slot = slot }) laid.longer target (new_list laid.new))
