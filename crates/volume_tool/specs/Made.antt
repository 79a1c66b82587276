-- What is said of a rig on which a volume is to be made. `r` is what the rig's type tells, as `R.Rig` in a clause.
use Rattle.std.specs.Prelude.{◌≡◌, ◌⊎◌, ◌<◌, ◌≤◌, ◌+◌, ◌-◌, ◌*◌, ℕ, true, List, [], Result, Ok, Err, IfOk}
use Rattle.stable.specs.Counts.{Rose}
use Rattle.stable.specs.Store.{name_in}
use Rattle.stable.specs.declared.state.State.TheVariants.{Up}
use Rattle.rig.specs.Devices.{Devices, Sizes}
use Rattle.rig.specs.declared.rig.Rig.{Ghosts}
use Rattle.nvram_map.specs.Overlay.{NoEntry}
use Rattle.nvram_map.specs.Words.{IsBoardOf, name_word}
use Rattle.presto_cache.specs.Made.{AreReadFrom}
use Rattle.presto_unit.specs.Opening.{IsOpenable, opens_since}
use Rattle.presto_unit.specs.Parts.{rig_of, state_of}
use Rattle.presto_unit.specs.declared.presto.Presto.{Presto}
use Rattle.v7_map.specs.Image.{sector_at}
use Rattle.v7_make.specs.Made.{IsMade}
use Rattle.v7_make.specs.Sizes.{fitting, list_blocks, need_of}
use Rattle.v7_make.specs.declared.fault.MakeFault.{MakeFault}
use Rattle.v7_make.specs.declared.fault.MakeFault.TheVariants as make
use Rattle.run_lines.specs.Overlays.{overlay_of}
use Rattle.volume_tool.specs.Course.{Course, NotMade, Made}
use Rattle.volume_tool.specs.Words.{Plan}

-- a board that kept its memory, is of the volume with that name, and has no entry
pub record HasEmptyBoard (sizes : Sizes) (name : List ℕ) (d : Devices) : Type 0 where
  pub board_is : IsBoardOf sizes (name_word name) d
  pub empty : NoEntry d
  pub kept : d.kept ≡ true

-- A volume was made on a rig, as planned, and so many of its blocks are free.
pub record IsMadeOn {R : Type 0} (r : Ghosts R) (plan : Plan) (back : R) (left : ℕ) : Type 0 where
  pub volume : r.tells → IsMade (overlay_of r back) plan.size (2 + list_blocks plan.inodes) plan.name plan.second left
  pub board : r.tells → 0 < plan.buffers → HasEmptyBoard (r.sizes back) plan.name (r.contents back)
  pub left_is : left ≡ plan.size - need_of plan.inodes

-- none was made: a device failed, or there was no memory
abbrev pub IsNotMade : {R : Type 0} → Ghosts R → R → R → MakeFault → Type 0
IsNotMade r rig back make.Failed = Rose (r.faults rig) (r.faults back)
IsNotMade r rig back make.NoMemory = Unit {0}
IsNotMade r rig back make.TooLarge = ⊥
IsNotMade r rig back (make.TooSmall need have) = ⊥

-- what making on a unit answers, whose rig's count of faults was and is so
abbrev pub MakesUnit : Plan → ℕ → ℕ → Result ℕ MakeFault → Type 0
MakesUnit plan before now (Ok left) = left ≡ plan.size - need_of plan.inodes
MakesUnit plan before now (Err make.Failed) = Rose before now
MakesUnit plan before now (Err make.NoMemory) = Unit {0}
MakesUnit plan before now (Err make.TooLarge) = ⊥
MakesUnit plan before now (Err (make.TooSmall need have)) = ⊥

-- A volume was to be made on a unit. It is in the state that it was in unless it was UP; a board stays.
pub record HasMade {R : Type 0} {r : Ghosts R} (plan : Plan) (unit unit' : Presto R r) (result : Result ℕ MakeFault) : Type 0 where
  pub made : r.tells → IfOk result (λ left. IsMade (overlay_of r (rig_of unit')) plan.size (2 + list_blocks plan.inodes) plan.name plan.second left)
  pub says : MakesUnit plan (r.faults (rig_of unit)) (r.faults (rig_of unit')) result
  pub later : r.moment (rig_of unit) ≤ r.moment (rig_of unit')
  pub opens : r.tells → name_in (sector_at (overlay_of r (rig_of unit)) 1) ≡ plan.name → opens_since r.sizes r.left_since (rig_of unit) (r.moment (rig_of unit)) → opens_since r.sizes r.left_since (rig_of unit') (r.moment (rig_of unit))
  pub state : (state_of unit' ≡ state_of unit) ⊎ (state_of unit ≡ Up)
  pub board : 0 < (r.sizes (rig_of unit)).buffers → 0 < (r.sizes (rig_of unit')).buffers

-- A rig is ready for a volume of that name: its board, if there is one, has no entry and can be opened with that name.
pub record IsReady {R : Type 0} (r : Ghosts R) (name : List ℕ) (rig : R) : Type 0 where
  pub kept : r.is_kept rig ≡ true
  pub read : r.tells → AreReadFrom (r.sizes rig) [] (r.contents rig)
  pub opens : r.tells → IsOpenable (r.sizes rig) (r.contents rig)
  pub titled : r.tells → 0 < (r.sizes rig).buffers → name_in (sector_at (overlay_of r rig) 1) ≡ name

-- what making on a rig answers
abbrev pub MakesOn : {R : Type 0} → Ghosts R → Plan → R → R → Result ℕ MakeFault → Type 0
MakesOn r plan rig back (Ok left) = IsMadeOn r plan back left
MakesOn r plan rig back (Err fault) = IsNotMade r rig back fault

-- what the course says of a rig that was made for this plan
abbrev pub MakesAs : {R : Type 0} → Ghosts R → Plan → R → R → Course → Type 0
MakesAs r plan rig back (NotMade fault) = (fitting plan.size plan.inodes ≡ Ok tt) × IsNotMade r rig back fault
MakesAs r plan rig back (Made sectors inodes left) =
    (fitting plan.size plan.inodes ≡ Ok tt) × (sectors ≡ plan.size) × (inodes ≡ 8 * list_blocks plan.inodes) × IsMadeOn r plan back left
MakesAs r plan rig back _ = ⊥
