-- What a look-up finds where nothing is to mend, by what was read.
use Rattle.std.proofs.Common.{◌≡◌, ℕ, ◌<◌, ◌≤◌, Bool, true, false, cond, not, ◌&&◌, ◌==◌, List, [], length, refl, sym, ap, ◌∙◌, arith}
use Rattle.files_model.specs.declared.attributes.FileId.{FileId}
use Rattle.v7_layout.specs.declared.inode.Inode.{Inode}
use Rattle.v7_layout.specs.declared.super_block.Super.{Super}
use Rattle.v7_layout.specs.Numbers.{part}
use Rattle.v7_layout.specs.Records.{inode_of, super_of}
use Rattle.stable.specs.Store.{Image}
use Rattle.v7_map.specs.Image.{sector_at, inode_at, inode_sector, inode_offset, is_inode, is_number_below, is_read_only}
use Rattle.v7_map.specs.Frame.{frame}
use Rattle.v7_map.specs.Stored.{is_current, is_standing, limited}
use Rattle.v7_map.proofs.Frames.{and_left}
use Rattle.v7_map.proofs.SectorOf.{limited-same}
use Rattle.v7_map.specs.Weak.{IsStrong}
use Rattle.v7_map.proofs.Ranges.{inode_sector-inside}
use Rattle.v7_read.specs.declared.found.Found.{Found}
use Rattle.v7_read.specs.Found.{IsFile}

-- a volume is read-only as its super-block says
read_only-read : (image : Image) → is_read_only (sector_at image 1) ≡ not ((super_of (sector_at image 1)).s_ronly == 0)
unfolding super_of
read_only-read image = refl

-- what stands in its sector is the image's inode
pub inode-read : (image : Image) (i : ℕ) (sector : List ℕ) (inode : Inode) → is_inode image i ≡ true → sector ≡ sector_at image (inode_sector i)
    → inode ≡ inode_of (part sector (inode_offset i) 64) → inode ≡ inode_at image i
unfolding inode_at
inode-read image i sector inode is from read = read ∙ ap (λ s. inode_of (part s (inode_offset i) 64)) from
    ∙ sym (ap (λ b. cond b (inode_of (part (sector_at image (inode_sector i)) (inode_offset i) 64)) (inode_of [])) is)

module _ (image : Image) (strong : IsStrong (frame image)) where
  -- there is a super-block
  pub not_short : length image < 2 → ⊥
  unfolding frame
  not_short short =
      let low = strong.weak.sizes.low in
      let above = strong.weak.sizes.above in
      let within = strong.weak.sizes.within in
      omega arith

  -- whether there is such an inode is read from the super-block
  pub number-read : (super : Super) (i : ℕ) → super ≡ super_of (sector_at image 1) → is_number_below super.s_isize i ≡ is_inode image i
  unfolding super_of
  number-read super i is = ap (λ (s : Super). is_number_below s.s_isize i) is

  module _ (file : FileId) where
    pub finds_no_inode : is_inode image file.ino ≡ false → is_standing image file ≡ false
    finds_no_inode out = ap (λ b. b && is_current (inode_at image file.ino) file.generation) out

    pub not_outside : is_inode image file.ino ≡ true → length image ≤ inode_sector file.ino → ⊥
    not_outside is far = let inside = inode_sector-inside image strong.weak file.ino is in let below : inode_sector file.ino < length image = inside.2 in omega arith

    standing : is_inode image file.ino ≡ true → (inode : Inode) → inode ≡ inode_at image file.ino → (b : Bool) → is_current inode file.generation ≡ b → is_standing image file ≡ b
    standing is inode read b current =
        ap (λ i. i && is_current (inode_at image file.ino) file.generation) is
        ∙ ap (λ (n : Inode). is_current n file.generation) (sym read) ∙ current

    pub finds_stale : is_inode image file.ino ≡ true → (inode : Inode) → inode ≡ inode_at image file.ino → is_current (limited inode) file.generation ≡ false → is_standing image file ≡ false
    finds_stale is inode read stale = standing is inode read false stale

    pub finds_file : is_inode image file.ino ≡ true → (super : Super) → super ≡ super_of (sector_at image 1) → (found : Found) → found.read_only ≡ not (super.s_ronly == 0)
        → found.sector ≡ sector_at image (inode_sector file.ino) → (inode : Inode) → inode ≡ inode_at image file.ino → found.inode ≡ limited inode
        → is_current found.inode file.generation ≡ true → IsFile image file found
    finds_file is super same found read_only sector inode read bounded current =
        let now : is_current inode file.generation ≡ true = ap (λ (n : Inode). is_current n file.generation) (sym bounded) ∙ current in
        let used : not ((inode_at image file.ino).mode == 0) ≡ true = and_left _ _ (ap (λ (n : Inode). is_current n file.generation) (sym read) ∙ now) in
        record {
          stands = standing is inode read true now;
          read_only = read_only ∙ ap (λ (s : Super). not (s.s_ronly == 0)) same ∙ sym (read_only-read image);
          inode = bounded ∙ ap limited read ∙ limited-same image strong.weak file.ino used;
          sector = sector;
        }
