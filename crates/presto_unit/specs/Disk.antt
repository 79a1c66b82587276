-- What each moment of a flush or of a put leaves of the devices. `r` is what the rig's type tells, as `R.Rig` in a clause.
use Rattle.std.specs.Prelude.{◌≡◌, ◌≢◌, ◌<◌, ℕ, List, [], get_or, Some}
use Rattle.stable.specs.Moments.{LeavesOnly}
use Rattle.rig.specs.Devices.{Devices, Sizes}
use Rattle.rig.specs.declared.rig.Rig.{Ghosts}
use Rattle.nvram_map.specs.Overlay.{overlay, entries}
use Rattle.presto_cache.specs.Board.{PutsOne, Keeps, KeepsOnDisk}
use Rattle.presto_cache.specs.Slots.{spelled}

-- the sector stands on the disk as in the overlay
abbrev pub IsOnDisk : ℕ → Devices → Type 0
IsOnDisk sector d = get_or d.disk sector [] ≡ get_or (overlay d) sector []

-- the word of that entry names the sector and the buffer
pub record Holds {R : Type 0} (r : Ghosts R) (rig : R) (index sector buffer : ℕ) : Type 0 where
  pub on_board : buffer < (r.sizes rig).buffers
  pub word : r.tells → get_or (entries (r.contents rig)) index 0 ≡ spelled sector (Some buffer)

-- no sector of the disk has changed but these two
abbrev pub DiskButTwo : ℕ → ℕ → Devices → Devices → Type 0
DiskButTwo sector other old d = (k : ℕ) → k ≢ sector → k ≢ other → get_or d.disk k [] ≡ get_or old.disk k []

-- A sector is being put: it is old or new and all others are kept, and no sector of the disk has changed but it and that of the entry that makes room.
pub record PutsWithRoom (sizes : Sizes) (sector other : ℕ) (bytes : List ℕ) (old d : Devices) : Type 0 where
  pub puts : PutsOne sizes sector bytes old d
  pub others : DiskButTwo sector other old d

-- at each moment the overlay is kept, and no sector of the disk but this one has changed
abbrev pub FlushesOne : {R : Type 0} → Ghosts R → ℕ → R → R → Type 0
FlushesOne r sector old new = LeavesOnly r.moment r.left_since old new (KeepsOnDisk (r.sizes old) sector (r.contents old))

-- at each moment the overlay is kept
abbrev pub FlushesAll : {R : Type 0} → Ghosts R → R → R → Type 0
FlushesAll r old new = LeavesOnly r.moment r.left_since old new (Keeps (r.sizes old) (r.contents old))

-- at each moment the sector is old or new in the overlay, and no sector of the disk but these two has changed
abbrev pub PutsOneMakingRoom : {R : Type 0} → Ghosts R → ℕ → ℕ → List ℕ → R → R → Type 0
PutsOneMakingRoom r sector other bytes old new = LeavesOnly r.moment r.left_since old new (PutsWithRoom (r.sizes old) sector other bytes (r.contents old))
