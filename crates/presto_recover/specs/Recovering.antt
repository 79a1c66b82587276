-- What opening a unit leaves of the devices at each moment. `r` is what the rig's type tells, as `R.Rig` in a clause.
use Rattle.std.specs.Prelude.{◌≡◌, ◌⊎◌, ◌≤◌, Bool, true, false, [], get_or, ℕ}
use Rattle.stable.specs.Moments.{LeavesOnly}
use Rattle.rig.specs.Devices.{Devices, Sizes, with_kept}
use Rattle.rig.specs.declared.rig.Rig.{Ghosts}
use Rattle.nvram_map.specs.Overlay.{overlay, OverlayKept}
use Rattle.nvram_map.specs.Formats.{formatted, PartlyFormatted}
use Rattle.presto_unit.specs.Opening.{IsOpenable, title_of}

-- each sound crash keeps the overlay; what could be opened can be opened again; and each sector of the disk is as before, or as the overlay had it
pub record Recovers (sizes : Sizes) (old d : Devices) : Type 0 where
  pub image : OverlayKept (overlay old) d
  pub opens : IsOpenable sizes old → IsOpenable sizes d
  pub disk : (k : ℕ) → (get_or d.disk k [] ≡ get_or old.disk k []) ⊎ (get_or d.disk k [] ≡ get_or (overlay old) k [])

-- formatting for the volume on the disk came so far, or is done and the board is marked as kept
abbrev pub IsFormatting : Devices → Devices → Type 0
IsFormatting old d = PartlyFormatted (title_of old.disk) old d ⊎ (d ≡ with_kept (formatted (title_of old.disk) old))

-- Nothing has changed; or a lost board is being formatted, where the loss is accepted.
abbrev pub MayBeFormatted : Bool → Devices → Devices → Type 0
MayBeFormatted accepted old d = (d ≡ old) ⊎ ((accepted ≡ true) × (old.kept ≡ false) × IsFormatting old d)

-- A call that changes nothing, or formats a lost board where the loss is accepted.
pub record OnlyFormats {R : Type 0} (r : Ghosts R) (accepted : Bool) (old new : R) : Type 0 where
  pub crash : LeavesOnly r.moment r.left_since old new (MayBeFormatted accepted (r.contents old))
  pub later : r.faults old ≤ r.faults new
  pub sizes : r.sizes new ≡ r.sizes old
  pub disk_writes : r.disk_writes new ≡ r.disk_writes old
  pub readings : r.readings new ≡ r.readings old
