-- What the stopping of a volume leaves (docs/FORMATS.md, free chain).
use Rattle.std.specs.Prelude.{◌≡◌, ◌≤◌, ◌||◌, nat_lt, Bool, true, false, List}
use Rattle.stable.specs.Counts.{Rose}
use Rattle.stable.specs.Store.{Image}
use Rattle.stable.specs.declared.state.State.TheVariants.{Down}
use Rattle.stable.specs.declared.store.Stable.{Ghosts}
use Rattle.index_sets.specs.Free.{count_free}
use Rattle.v7_layout.specs.declared.super_block.Super.{Super}
use Rattle.v7_layout.specs.Records.{super_of}
use Rattle.v7_map.specs.Frame.{frame}
use Rattle.v7_map.specs.Image.{sector_at}
use Rattle.v7_map.specs.Weak.{IsStrong}
use Rattle.v7_make.specs.Chains.{Takes, HasPlaces}
use Rattle.v7_make.specs.Sets.{rising}
use Rattle.v7_make.specs.Stops.{chain_in, ListsLowest}
use Rattle.v7_sets.specs.Sets.{AreSetsOf}
use Rattle.nfs_worker.specs.Tending.{IsError}
use Rattle.server_volumes.specs.declared.stopping.Stopped.{Stopped}

-- the image's super-block
abbrev pub super_in : Image → Super
super_in image = super_of (sector_at image 1)

-- A volume as a clean stop leaves it: there is nothing to mend, its super-block says that it was stopped, and its free chain has exactly the blocks that
-- nothing holds.
pub record IsStoppedCleanly (image : Image) : Type 0 where
  pub strong : IsStrong (frame image)
  pub clean : (super_in image).s_fmod ≡ 0
  pub blocks : List Bool
  pub inodes : List Bool
  pub sets : AreSetsOf image blocks inodes
  -- they are taken from the chain, the lowest first, and the lowest of the free i-numbers are listed
  pub takes : Takes image (chain_in (super_in image)) (rising blocks)
  pub places : HasPlaces (chain_in (super_in image))
  pub listed : ListsLowest inodes (super_in image).s_inode (super_in image).s_ninode
  pub free_blocks : (super_in image).s_tfree ≡ count_free blocks
  pub free_inodes : (super_in image).s_tinode ≡ count_free inodes

-- A volume on a store was stopped, and the store commanded Down; `hurt` says whether the volume was hurt, so that no chain was to be written.
pub record StopsAs {V : Type 0} (s : Ghosts V) (hurt : Bool) (old new : V) (stopped : Stopped) : Type 0 where
  pub state : stopped.state ≡ (s.snapshot_of new).state
  pub dirty : stopped.dirty ≡ (s.snapshot_of new).dirty
  -- it is DOWN exactly where nothing is dirty
  pub down : stopped.dirty ≡ 0 → stopped.state ≡ Down
  pub error : 1 ≤ stopped.dirty → IsError stopped.state
  -- its chain isn't written, and something is dirty only where a device failed
  pub unwritten : stopped.unwritten ≡ true → Rose (s.faults old) (s.faults new)
  pub left : 1 ≤ stopped.dirty → Rose (s.faults old) (s.faults new)
  pub clean : s.tells → hurt ≡ false → stopped.unwritten ≡ false → IsStoppedCleanly (s.image new)

-- a device failed in stopping: the chain isn't written, or something is left dirty
abbrev pub fails : Stopped → Bool
fails stopped = stopped.unwritten || nat_lt 0 stopped.dirty
