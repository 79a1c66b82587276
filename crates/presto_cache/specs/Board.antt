-- A cache and the board of a rig.
use Rattle.std.specs.Prelude.{◌≡◌, ◌≢◌, ◌⊎◌, ◌-◌, ◌<◌, ℕ, true, List, [], length, get_or, take}
use Rattle.rig.specs.Devices.{Devices, Sizes}
use Rattle.rig.specs.declared.rig.Rig.{Ghosts}
use Rattle.nvram_map.specs.Overlay.{entries, overlay, OverlayKept, OverlayOldOrNew}
use Rattle.nvram_map.specs.Words.{AreEntries}
use Rattle.presto_cache.specs.Slots.{AreSlots, AllBelowSectors, at, may_hold}
use Rattle.presto_cache.specs.declared.slot.Slot.{Slot}

-- the cache is that of the board's words but for what is in doubt
pub record IsOf (slots : List Slot) (d : Devices) : Type 0 where
  pub size : length slots ≡ length d.words - 2
  pub each : (i : ℕ) → i < length slots → may_hold (at slots i) (get_or (entries d) i 0) ≡ true

-- What is known of the entries of a rig's board. `r` is what the rig's type tells, as `R.Rig` in a clause.
pub record KnowsSlots {R : Type 0} (r : Ghosts R) (rig : R) (slots : List Slot) : Type 0 where
  pub are : AreSlots (r.sizes rig).buffers slots
  pub below : AllBelowSectors (r.sizes rig).sectors slots
  pub is : r.tells → IsOf slots (r.contents rig)
  pub kept : r.is_kept rig ≡ true

-- no other sector of the disk has changed
abbrev pub DiskBut : ℕ → Devices → Devices → Type 0
DiskBut sector old d = (k : ℕ) → k ≢ sector → get_or d.disk k [] ≡ get_or old.disk k []

-- that sector is old or new, all others are unchanged; the board can be opened again; and each sector of the disk is as before, or as the overlay had it, or the new one
pub record PutsOne (sizes : Sizes) (sector : ℕ) (bytes : List ℕ) (old d : Devices) : Type 0 where
  pub image : OverlayOldOrNew sector bytes (overlay old) d
  pub head : take 2 d.words ≡ take 2 old.words
  pub entries_are : AreEntries sizes (entries d)
  pub disk : (k : ℕ) → (get_or d.disk k [] ≡ get_or old.disk k []) ⊎ (get_or d.disk k [] ≡ get_or (overlay old) k []) ⊎ ((k ≡ sector) × (get_or d.disk k [] ≡ bytes))

-- the same, and the disk is as before
pub record PutsOnBoard (sizes : Sizes) (sector : ℕ) (bytes : List ℕ) (old d : Devices) : Type 0 where
  pub puts : PutsOne sizes sector bytes old d
  pub disk : d.disk ≡ old.disk

-- the same, and no other sector of the disk has changed
pub record PutsOnDisk (sizes : Sizes) (sector : ℕ) (bytes : List ℕ) (old d : Devices) : Type 0 where
  pub puts : PutsOne sizes sector bytes old d
  pub others : DiskBut sector old d

-- the overlay is kept; the board can be opened again; and each sector of the disk is as before, or as the overlay had it
pub record Keeps (sizes : Sizes) (old d : Devices) : Type 0 where
  pub image : OverlayKept (overlay old) d
  pub head : take 2 d.words ≡ take 2 old.words
  pub entries_are : AreEntries sizes (entries d)
  pub disk : (k : ℕ) → (get_or d.disk k [] ≡ get_or old.disk k []) ⊎ (get_or d.disk k [] ≡ get_or (overlay old) k [])

-- the same, and the disk is as before
pub record KeepsOnBoard (sizes : Sizes) (old d : Devices) : Type 0 where
  pub keeps : Keeps sizes old d
  pub disk : d.disk ≡ old.disk

-- the same, and no other sector of the disk than that has changed
pub record KeepsOnDisk (sizes : Sizes) (sector : ℕ) (old d : Devices) : Type 0 where
  pub keeps : Keeps sizes old d
  pub others : DiskBut sector old d
