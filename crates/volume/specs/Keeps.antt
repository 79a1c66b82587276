-- What stays of a volume while it is opened, mended and stopped, at each moment.
use Rattle.std.specs.Prelude.{◌≡◌, ◌⊎◌}
use Rattle.stable.specs.Store.{Image, name_in}
use Rattle.v7_map.specs.Image.{sector_at}
use Rattle.v7_mend.specs.Keeps.{SameFiles}

-- the volume's name stays, bytes 434 to 439 of the super-block
abbrev pub SameName : Image → Image → Type 0
SameName old new = name_in (sector_at new 1) ≡ name_in (sector_at old 1)

-- The image can be mended, stands for the same files, and has the same name.
pub record SameVolume (old new : Image) : Type 0 where
  pub files : SameFiles old new
  pub name : SameName old new

-- a moment of an opening: nothing has changed, or the volume is the same
abbrev pub MayOpen : Image → Image → Type 0
MayOpen old image = (image ≡ old) ⊎ SameVolume old image
