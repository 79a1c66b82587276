-- The free chain of a volume (docs/FORMATS.md, free chain).
use Rattle.std.specs.Prelude.{◌≡◌, ◌≢◌, ◌⊎◌, set, ◌≤◌, ◌<◌, ℕ, ◌-◌, ◌/◌, ◌*◌, ◌%◌, ◌+◌, Bool, true, false, List, [], ◌∷◌, length, get_or, ◌==◌, ◌&&◌, if◌then◌else◌}
use Rattle.std.specs.List.{AllByRecursion, range_with_len, filter}
use Rattle.index_sets.specs.Free.{is_free, count_free}
use Rattle.stable.specs.Store.{Image, name_in}
use Rattle.v7_layout.specs.declared.chain.Chain.{Chain}
use Rattle.v7_layout.specs.Records.{super_of, chain_of}
use Rattle.v7_layout.specs.Written.{chain_bytes, super_bytes}
use Rattle.v7_map.specs.Image.{sector_at, isize_of}
use Rattle.v7_map.specs.Frame.{Place, frame}
use Rattle.v7_map.specs.Weak.{IsWeak}
use Rattle.v7_map.specs.View.{view}
use Rattle.v7_make.specs.Sets.{rising}
use Rattle.v7_make.specs.Stops.{chain_in, IsStopped, ListsLowest}

-- what is left of a chain record whose last block is taken: where it was the only one, that block holds the next record
unfoldable pub after_taking : Image → Chain → ℕ → Chain
after_taking image c block = if c.s_nfree == 1 then chain_of (sector_at image block) else record c { s_nfree = c.s_nfree - 1 }

-- a sector that is a chain record whose 50 places are used
pub record IsFullRecord (bytes : List ℕ) : Type 0 where
  pub full : (chain_of bytes).s_nfree ≡ 50
  pub whole : bytes ≡ chain_bytes (chain_of bytes)

-- From a chain record on exactly these blocks are taken, one after the other, and then 0. Each further record that is taken up is full.
abbrev pub Takes : Image → Chain → List ℕ → Type 0
Takes image c [] = (c.s_nfree ≡ 1) × (get_or c.s_free 0 0 ≡ 0)
Takes image c (block ∷ blocks) =
    (1 ≤ c.s_nfree) × (get_or c.s_free (c.s_nfree - 1) 0 ≡ block) × (block ≢ 0) × (c.s_nfree ≡ 1 → IsFullRecord (sector_at image block)) × Takes image (after_taking image c block) blocks

-- a record of one block at least, whose unused places are zero
pub record HasPlaces (c : Chain) : Type 0 where
  pub some : 1 ≤ c.s_nfree
  pub most : c.s_nfree ≤ 50
  pub unused : (k : ℕ) → c.s_nfree ≤ k → get_or c.s_free k 0 ≡ 0

-- What each moment of writing a chain of these blocks leaves: where things are stays, and what the image stands for, the volume's name, and each sector but the super-block and these blocks.
pub record KeepsVolume (blocks : List Bool) (old new : Image) : Type 0 where
  pub frame : frame new ≡ frame old
  pub view : view new ≡ view old
  pub name : name_in (sector_at new 1) ≡ name_in (sector_at old 1)
  pub elsewhere : (s : ℕ) → s ≢ 1 → is_free blocks s ≡ false → sector_at new s ≡ sector_at old s

-- The sets fit a store of so many sectors: its super-block and each of the blocks are within it, and the i-numbers have 16 bits.
pub record FitStore (sectors : ℕ) (blocks inodes : List Bool) : Type 0 where
  pub two : 2 ≤ sectors
  pub within : (b : ℕ) → is_free blocks b ≡ true → b < sectors
  pub numbers : length inodes ≤ 65529

-- The image can be mended, and each block of the set is one past the inodes that stands at no place.
pub record AreIdle (image : Image) (blocks : List Bool) : Type 0 where
  pub weak : IsWeak (frame image)
  pub past : (b : ℕ) → is_free blocks b ≡ true → isize_of image ≤ b
  pub unheld : (b : ℕ) → is_free blocks b ≡ true → (i : ℕ) (p : Place) → (frame image).address i p ≢ b

-- After the chain was written: exactly the blocks of the set are taken from it, the lowest first, and the super-block lists the lowest of the i-numbers; the volume was stopped cleanly at that second.
pub record IsChained (old new : Image) (blocks inodes : List Bool) (now : ℕ) : Type 0 where
  pub keeps : KeepsVolume blocks old new
  pub takes : Takes new (chain_in (super_of (sector_at new 1))) (rising blocks)
  pub places : HasPlaces (chain_in (super_of (sector_at new 1)))
  pub listed : ListsLowest inodes (super_of (sector_at new 1)).s_inode (super_of (sector_at new 1)).s_ninode
  pub stopped : IsStopped (super_of (sector_at old 1)) (super_of (sector_at new 1)) (count_free blocks) (count_free inodes) now
  pub whole : sector_at new 1 ≡ super_bytes (super_of (sector_at new 1))

-- how many puts it takes to write a chain of so many blocks: a full record for each 50 of them, and the super-block
abbrev pub chain_puts : List Bool → ℕ
chain_puts blocks = count_free blocks / 50 + 1

-- ---- steps

-- a cut put of this sector: nothing, or all of it
abbrev pub PutsAt : ℕ → Image → Image → Type 0
PutsAt sector old image = (image ≡ old) ⊎ ((bytes : List ℕ) × (image ≡ set old sector bytes))

-- a cut put of a block of the set, if it is one of them
abbrev pub PutsItem : List Bool → ℕ → Image → Image → Type 0
PutsItem blocks b old image = (image ≡ old) ⊎ ((is_free blocks b ≡ true) × PutsAt b old image)

-- whatever other blocks were taken before, these are taken after
abbrev pub TakesMore : Image → Chain → Image → Chain → ℕ → Bool → Type 0
TakesMore old c new d b more = (blocks : List ℕ) → AllByRecursion (λ a. a ≢ b) blocks → Takes old c blocks → Takes new d (if more then b ∷ blocks else blocks)

-- one where a block that is given back finds all places of the record used, so that the record is put
abbrev pub record_puts : Bool → Chain → ℕ
record_puts more c = if more && (c.s_nfree == 50) then 1 else 0

-- how many blocks are given back
abbrev pub given : Bool → ℕ
given more = if more then 1 else 0

-- a record after a block was given back, if it was: its places are used up in turn
pub record IsGiven (more : Bool) (c d : Chain) : Type 0 where
  pub places : HasPlaces d
  pub count : d.s_nfree + record_puts more c * 50 ≡ c.s_nfree + given more

-- what was written so far, with the blocks from n on: they are taken from the record that comes into the super-block
pub record ChainedFrom (old new : Image) (blocks : List Bool) (c : Chain) (n count : ℕ) : Type 0 where
  pub keeps : KeepsVolume blocks old new
  pub super : sector_at new 1 ≡ sector_at old 1
  pub takes : Takes new c (filter (is_free blocks) (range_with_len n count))

-- so many blocks are on the records, of which all but the one in hand are full
pub record IsFilled (c : Chain) (count : ℕ) : Type 0 where
  pub places : HasPlaces c
  pub count_is : c.s_nfree ≡ count % 50 + 1
