-- A volume at rest: what holds of it between two calls.
use Rattle.std.specs.Prelude.{◌≡◌, ℕ, Bool, false}
use Rattle.stable.specs.Store.{Image}
use Rattle.stable.specs.declared.store.Stable.{Ghosts}
use Rattle.v7_map.specs.Frame.{frame}
use Rattle.v7_map.specs.Weak.{IsWeak, IsStrong}
use Rattle.v7_make.specs.Chains.{FitStore}
use Rattle.v7_sets.specs.Sets.{AreSetsOf}
use Rattle.v7_sets.specs.declared.sets.Sets.{Sets}
use Rattle.volume.specs.declared.mounted.Volume.{Volume}
use Rattle.volume.specs.Mounted.{store_of, is_hurt, sets_of}

-- It can be mended, and unless it is hurt there is nothing to mend and the sets are those of its image. What is asked of any store holds whether contents are told or not.
pub record IsAtRest (tells : Type 0) (image : Image) (sectors : ℕ) (hurt : Bool) (sets : Sets) : Type 0 where
  pub fits : FitStore sectors sets.blocks sets.inodes
  pub weak : tells → IsWeak (frame image)
  pub strong : tells → hurt ≡ false → IsStrong (frame image)
  pub are_sets : tells → hurt ≡ false → AreSetsOf image sets.blocks sets.inodes

-- a store with these sets is at rest; `s` is what its type tells
abbrev pub RestsOn : {S : Type 0} → Ghosts S → S → Bool → Sets → Type 0
RestsOn s store hurt sets = IsAtRest s.tells (s.image store) (s.sector_count store) hurt sets

-- the volume is at rest; `s` is what its store's type tells
abbrev pub Rests : {S : Type 0} → Ghosts S → Volume S → Type 0
Rests s volume = RestsOn s (store_of volume) (is_hurt volume) (sets_of volume)
