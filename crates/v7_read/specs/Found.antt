-- What a handle finds in an image.
use Rattle.std.specs.Prelude.{◌≡◌, true, false, Option, Some, None}
use Rattle.files_model.specs.declared.attributes.FileId.{FileId}
use Rattle.stable.specs.Store.{Image}
use Rattle.v7_map.specs.Image.{sector_at, inode_at, inode_sector, is_read_only}
use Rattle.v7_map.specs.Stored.{is_standing}
use Rattle.v7_read.specs.declared.found.Found.{Found}

-- the handle's file stands, and this is its inode in its sector
pub record IsFile (image : Image) (file : FileId) (found : Found) : Type 0 where
  pub stands : is_standing image file ≡ true
  pub read_only : found.read_only ≡ is_read_only (sector_at image 1)
  pub inode : found.inode ≡ inode_at image file.ino
  pub sector : found.sector ≡ sector_at image (inode_sector file.ino)

-- what is found where nothing is to mend
abbrev pub Finds : Image → FileId → Option Found → Type 0
Finds image file None = is_standing image file ≡ false
Finds image file (Some found) = IsFile image file found
