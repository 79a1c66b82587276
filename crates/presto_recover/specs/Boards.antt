-- The board that was found, and the cache of its entries. `r` is what the rig's type tells, as `R.Rig` in a clause.
use Rattle.std.specs.Prelude.{◌≡◌, ◌⊎◌, ◌≤◌, Bool, true, false, List, [], length, if◌then◌else◌}
use Rattle.rig.specs.Devices.{Devices, Sizes}
use Rattle.rig.specs.declared.rig.Rig.{Ghosts}
use Rattle.nvram_map.specs.Boards.{FitBoard, entries_from}
use Rattle.nvram_map.specs.Overlay.{entries}
use Rattle.nvram_map.specs.Words.{IsBoardOf}
use Rattle.nvram_map.specs.declared.board.BoardEntry.{BoardEntry}
use Rattle.presto_cache.specs.Cache.{slots_of, entries_of, Knows}
use Rattle.presto_cache.specs.Entries.{AreByIndex}
use Rattle.presto_cache.specs.Made.{AreReadFrom, IsMadeOf}
use Rattle.presto_cache.specs.declared.cache.Cache.{Cache}
use Rattle.presto_unit.specs.Opening.{IsNamed, title_of}
use Rattle.presto_unit.specs.Shown.{dirty_in}
use Rattle.presto_recover.specs.declared.parts.Found.{Found}
use Rattle.presto_recover.specs.declared.parts.Prepared.{Prepared}

-- the entries that are found: those whose words are set, of a board that kept its memory
abbrev pub found_in : Devices → List BoardEntry
found_in d = if d.kept then entries_from 0 (entries d) else []

-- it was lost, and the loss is accepted; or it kept its memory
abbrev pub IsLoss : Bool → Bool → Bool → Type 0
IsLoss lost kept accepted = ((lost ≡ true) × (kept ≡ false) × (accepted ≡ true)) ⊎ ((lost ≡ false) × (kept ≡ true))

-- There is no board, or it is the volume's, or it was lost and the loss is accepted.
pub record IsAccepted (sizes : Sizes) (accepted : Bool) (d : Devices) (lost : Bool) : Type 0 where
  pub sectors : 2 ≤ sizes.sectors
  pub loss : IsLoss lost d.kept accepted
  pub named : lost ≡ false → (sizes.buffers ≡ 0) ⊎ IsNamed sizes d

-- A board was found: that of the volume on the disk, or one that was lost and then formatted for it.
pub record IsFound {R : Type 0} (r : Ghosts R) (accepted : Bool) (old new : R) (found : Found) : Type 0 where
  pub loss : IsLoss found.lost (r.is_kept old) accepted
  pub same : found.lost ≡ false → r.contents new ≡ r.contents old
  pub empty : found.lost ≡ true → found.board.entries ≡ []
  pub fits : FitBoard (r.sizes old) found.board.entries
  pub read : r.tells → AreReadFrom (r.sizes old) found.board.entries (r.contents new)
  pub board_is : r.tells → ((r.sizes old).buffers ≡ 0) ⊎ IsBoardOf (r.sizes old) (title_of (r.contents old).disk) (r.contents new)
  pub kept : r.is_kept new ≡ true

-- A cache has the entries that were found, ordered by index.
pub record HasFound {R : Type 0} (r : Ghosts R) (found : R) (cache : Cache) : Type 0 where
  pub made : r.tells → IsMadeOf (found_in (r.contents found)) (slots_of cache)
  pub by_index : AreByIndex (entries_of cache)
  pub number : r.tells → dirty_in cache ≡ length (found_in (r.contents found))

-- What a unit starts with was found.
pub record IsPrepared {R : Type 0} (r : Ghosts R) (accepted : Bool) (old new : R) (made : Prepared) : Type 0 where
  pub sectors : 2 ≤ (r.sizes old).sectors
  pub accepted_as : r.tells → IsAccepted (r.sizes old) accepted (r.contents old) made.lost
  pub loss : IsLoss made.lost (r.is_kept old) accepted
  pub has_found : HasFound r old made.cache
  pub knows : Knows r new made.cache
  pub changes : made.changes ≡ []
