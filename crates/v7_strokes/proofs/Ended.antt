-- An inode that ended has no blocks, and those it had are free.
use Rattle.std.proofs.Common.{◌≡◌, ℕ, ◌≤◌, false, cond, List, set, refl, ap, ◌∙◌}
use Rattle.stable.specs.Store.{Image}
use Rattle.v7_map.specs.Image.{inode_sector}
use Rattle.v7_map.specs.Frame.{Head, Place, head_of, address_of, place_of, frame}
use Rattle.v7_map.specs.Tree.{tree, is_named}
use Rattle.v7_map.specs.Weak.{IsWeak}
use Rattle.v7_map.specs.Plan.{PutsInode}
use Rattle.v7_plans.specs.Placed.{IsPlaced}
use Rattle.v7_strokes.specs.Inodes.{ended_inode}
use Rattle.v7_strokes.specs.Freed.{FreesBlocks}
use Rattle.v7_strokes.proofs.Freeing.{frees-blocks}
use Rattle.v7_strokes.proofs.Unnamed.{placed-none, unnamed-sizes, unnamed-address, unnamed-addresses}

nowhere : (image : Image) (h : Head) (p : Place) → h.is_used ≡ false → address_of image h p ≡ 0
unfolding address_of
nowhere image h p free = ap (λ b. cond b (place_of image h p) 0) free

pub ended_none : (image : Image) (g : ℕ) (p : Place) → address_of image (head_of (ended_inode g)) p ≡ 0
unfolding ended_inode
ended_none image g p = nowhere image (head_of (ended_inode g)) p refl

-- a free inode has no blocks
pub ended-placed : (image : Image) (i g : ℕ) → IsPlaced image i (head_of (ended_inode g))
unfolding ended_inode
ended-placed image i g = placed-none image i (head_of (ended_inode g)) (λ u. absurd (cc)) refl none
  where
    none : (p : Place) → address_of image (head_of (ended_inode g)) p ≡ 0
    none p = nowhere image (head_of (ended_inode g)) p refl

pub ended-frees : (image : Image) (i g : ℕ) (bytes : List ℕ) → IsWeak (frame image) → PutsInode image i bytes (ended_inode g) → 3 ≤ i
    → is_named (tree (frame image)) i ≡ false → FreesBlocks i (frame image) (frame (set image (inode_sector i) bytes))
ended-frees image i g bytes weak puts low unnamed =
    let placed = ended-placed image i g in
    let sizes = unnamed-sizes image i bytes (ended_inode g) weak puts placed low unnamed in
    frees-blocks i (frame image) (frame (set image (inode_sector i) bytes)) weak (record {
      isize = sizes.0;
      fsize = sizes.1;
      others = λ j ne p. unnamed-addresses image i bytes (ended_inode g) weak puts placed low unnamed j ne p;
      own = λ p. unnamed-address image i bytes (ended_inode g) weak puts placed low unnamed p ∙ ended_none image g p;
    })
