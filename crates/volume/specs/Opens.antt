-- What an opening finds (docs/FORMATS.md, super-block), and what it does.
use Rattle.std.specs.Prelude.{◌≡◌, ℕ, true, false, List, Option, Some, None, Result, Ok, Err}
use Rattle.files_model.specs.declared.attributes.FileId.{FileId}
use Rattle.stable.specs.Store.{Image, name_in as name_of_super_block}
use Rattle.v7_damage.specs.declared.damage.RepairFault.{RepairFault}
use Rattle.v7_damage.specs.declared.damage.RepairFault.TheVariants as fault
use Rattle.v7_damage.specs.Undamaged.{IsFaultOf}
use Rattle.v7_map.specs.Damage.{Sizes, passes}
use Rattle.v7_map.specs.Frame.{frame}
use Rattle.v7_map.specs.Image.{sector_at, inode_at}
use Rattle.v7_repair.specs.Leaves.{IsRepaired}
use Rattle.v7_repair.specs.declared.mended.Mended.{Mended}
use Rattle.volume.specs.declared.opening.Title.{Title}
use Rattle.volume.specs.declared.starting.Opening.{Opening}
use Rattle.volume.specs.Marks.{IsMarked}

-- the name of the volume, as its super-block has it
abbrev pub name_in : Image → List ℕ
name_in image = name_of_super_block (sector_at image 1)

-- the root directory, inode 2, with its generation
abbrev pub root_in : Image → FileId
root_in image = record { ino = 2; generation = (inode_at image 2).generation }

-- a volume has sizes that can be, which is the first test of damage, and this name and this root
pub record IsVolume (image : Image) (name : List ℕ) (root : FileId) : Type 0 where
  pub sizes : passes (frame image) Sizes ≡ true
  pub name_is : name ≡ name_in image
  pub root_is : root ≡ root_in image

-- the title is found, unless the sizes can't be; an image of fewer than two sectors has none
abbrev pub HasTitle : Image → Option Title → Type 0
HasTitle image (Some title) = IsVolume image title.name title.root
HasTitle image None = passes (frame image) Sizes ≡ false

-- An opening: the image found was mended, as this tells; then the volume was marked as open at that second, and it has this name and this root.
pub record IsOpened (old new : Image) (now : ℕ) (mended : Mended) (name : List ℕ) (root : FileId) : Type 0 where
  pub mid : Image
  pub repaired : IsRepaired old mid mended
  pub marked : IsMarked mid new now
  pub titled : IsVolume new name root

-- what a refusal says of the image found, and leaves: damage is told where it is, and nothing has changed unless a device failed
abbrev pub Refuses : Image → RepairFault → Image → Type 0
Refuses old (fault.Damaged sector kind) new = IsFaultOf old (fault.Damaged sector kind) × (new ≡ old)
Refuses old fault.Failed new = Unit {0}
Refuses old fault.NoMemory new = new ≡ old

-- what an opening has done to its store
abbrev pub Starts : Image → Image → ℕ → Result Opening RepairFault → Type 0
Starts old new now (Ok opening) = IsOpened old new now opening.mended opening.title.name opening.title.root
Starts old new now (Err why) = Refuses old why new
