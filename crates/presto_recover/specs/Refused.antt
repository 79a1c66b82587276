-- Why a unit isn't opened.
use Rattle.std.specs.Prelude.{◌≡◌, ◌≢◌, ◌⊎◌, ◌<◌, ◌≤◌, ℕ, Bool, true, false, List, [], get_or, Err}
use Rattle.stable.specs.Counts.{Rose}
use Rattle.stable.specs.Moments.{LeavesOnly}
use Rattle.stable.specs.Store.{Image, name_in}
use Rattle.rig.specs.Devices.{Devices, Sizes}
use Rattle.rig.specs.declared.rig.Rig.{Ghosts}
use Rattle.nvram_map.specs.Boards.{IsTold}
use Rattle.nvram_map.specs.Overlay.{overlay}
use Rattle.nvram_map.specs.Words.{IsBoardOf}
use Rattle.nvram_map.specs.declared.fault.BoardFault.{BoardFault}
use Rattle.nvram_map.specs.declared.fault.BoardFault.TheVariants as board
use Rattle.presto_unit.specs.Opening.{title_of}
use Rattle.presto_recover.specs.Recovering.{OnlyFormats, Recovers}
use Rattle.presto_recover.specs.declared.fault.OpenFault.{OpenFault}
use Rattle.presto_recover.specs.declared.fault.OpenFault.TheVariants as fault

-- the bytes of the volume's name in an image
abbrev pub name_bytes : Image → List ℕ
name_bytes image = name_in (get_or image 1 [])

-- what a board's fault comes to
abbrev pub as_refusal : BoardFault → OpenFault
as_refusal board.Lost = fault.Board board.Lost
as_refusal (board.NotFormatted word) = fault.Board (board.NotFormatted word)
as_refusal (board.WrongVolume name volume) = fault.Board (board.WrongVolume name volume)
as_refusal (board.BadEntry index word) = fault.Board (board.BadEntry index word)
as_refusal board.Failed = fault.Failed
as_refusal board.NoMemory = fault.NoMemory

-- The board has another name than the disk.
pub record HasOtherName (sizes : Sizes) (d : Devices) (name volume : List ℕ) : Type 0 where
  pub told : IsTold sizes (name_bytes d.disk) d (Err (board.WrongVolume name volume))
  pub volume_is : volume ≡ name_bytes d.disk

-- The board is that of the volume on the disk, but its entry of sector 1 has another name.
pub record HasTwoNames (sizes : Sizes) (d : Devices) (name volume : List ℕ) : Type 0 where
  pub kept : d.kept ≡ true
  pub board_is : IsBoardOf sizes (title_of d.disk) d
  pub name_is : name ≡ name_bytes d.disk
  pub volume_is : volume ≡ name_bytes (overlay d)
  pub differ : volume ≢ name

-- Why a board is refused: it was lost, and the loss isn't accepted; it isn't formatted; it is of another volume, or has two names; or an entry is damaged.
abbrev pub IsBoardRefused : Type 0 → Sizes → Bool → Bool → Devices → BoardFault → Type 0
IsBoardRefused tells sizes kept accepted d board.Lost = (kept ≡ false) × (accepted ≡ false)
IsBoardRefused tells sizes kept accepted d (board.NotFormatted word) = (kept ≡ true) × (tells → IsTold sizes (name_bytes d.disk) d (Err (board.NotFormatted word)))
IsBoardRefused tells sizes kept accepted d (board.WrongVolume name volume) = (kept ≡ true) × (tells → HasOtherName sizes d name volume ⊎ HasTwoNames sizes d name volume)
IsBoardRefused tells sizes kept accepted d (board.BadEntry index word) = (kept ≡ true) × (tells → IsTold sizes (name_bytes d.disk) d (Err (board.BadEntry index word)))
IsBoardRefused tells sizes kept accepted d board.Failed = ⊥
IsBoardRefused tells sizes kept accepted d board.NoMemory = ⊥

-- the disk has a super-block, and there is a board
abbrev pub HasBoard : Sizes → Type 0
HasBoard sizes = (2 ≤ sizes.sectors) × (0 < sizes.buffers)

-- Why a unit isn't opened on the rig that was found, which comes back.
abbrev pub IsReason : {R : Type 0} → Ghosts R → Bool → R → R → OpenFault → Type 0
IsReason r accepted found back (fault.NoSuper sectors) = (sectors ≡ (r.sizes found).sectors) × (sectors < 2)
IsReason r accepted found back (fault.Board why) = HasBoard (r.sizes found) × IsBoardRefused r.tells (r.sizes found) (r.is_kept found) accepted (r.contents found) why
IsReason r accepted found back fault.Failed = (2 ≤ (r.sizes found).sectors) × Rose (r.faults found) (r.faults back)
IsReason r accepted found back fault.NoMemory = 2 ≤ (r.sizes found).sectors

-- A unit isn't opened. The rig comes back, where nothing has changed but that a lost board may have been formatted.
pub record IsRefused {R : Type 0} (r : Ghosts R) (accepted : Bool) (found back : R) (why : OpenFault) : Type 0 where
  pub reason : IsReason r accepted found back why
  pub only_formats : OnlyFormats r accepted found back
  pub crash : LeavesOnly r.moment r.left_since found back (Recovers (r.sizes found) (r.contents found))
