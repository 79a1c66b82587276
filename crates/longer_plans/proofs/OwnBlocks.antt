-- What is free after a creation of a node that holds blocks: its blocks and its i-number are taken, and so are the new blocks of its directory.
use Rattle.std.proofs.Common.{◌≡◌, ◌≢◌, ℕ, ◌+◌, ◌<◌, Bool, true, false, List, [], ◌∷◌, length, set, sym, ap, ◌∙◌, unwrap_or, length-set}
use Rattle.std.specs.FinMap.{get, insert}
use Rattle.files_model.specs.Files.{Node, Files}
use Rattle.files_model.specs.Torn.{Asked, after_calls}
use Rattle.stable.specs.Store.{Image}
use Rattle.v7_layout.specs.declared.inode.Inode.{Inode}
use Rattle.v7_map.specs.Image.{inodes_before}
use Rattle.v7_map.specs.Frame.{Head, Place, head_of, address_of, frame}
use Rattle.v7_map.specs.Tree.{tree, is_named}
use Rattle.v7_map.specs.View.{view}
use Rattle.v7_map.specs.Weak.{IsWeak, IsStrong}
use Rattle.v7_map.specs.Plan.{PutsInode}
use Rattle.v7_map.proofs.AnyFrame.{frame-IsFrame}
use Rattle.v7_plans.specs.Setting.{put_inode}
use Rattle.v7_sets.specs.Sets.{AreSetsOf}
use Rattle.v7_strokes.specs.FreeSets.{HoldsBlocks, HoldsNumbers}
use Rattle.v7_strokes.specs.NewNodes.{IsNewFile}
use Rattle.v7_strokes.proofs.Absent.{absent-unnamed, absent-free}
use Rattle.v7_strokes.proofs.Numbers.{unnamed-numbers}
use Rattle.v7_strokes.proofs.SetsAfter.{number-taken, numbers-stay, sets-of, halves-of}
use Rattle.v7_strokes.proofs.Unnamed.{unnamed-weak, unnamed-sizes, unnamed-head, unnamed-address, unnamed-addresses, unnamed-view}
use Rattle.name_plans.specs.Making.{IsMaking}
use Rattle.name_plans.specs.Taken.{taken, AreNewBlocks}
use Rattle.name_plans.proofs.CreatingInPlace.{making-within}
use Rattle.name_plans.proofs.CreatingSets.{blocks-of-directory}

clash : {b : Bool} → b ≡ true → b ≡ false → ⊥
clash {b = b} x y = cc

length-taken : (blocks : List ℕ) (free : List Bool) → length (taken blocks free) ≡ length free
length-taken [] free = λ z. length free
length-taken (a ∷ rest) free = length-taken rest (set free a false) ∙ length-set free a false

module _ (image : Image) (asked : Asked) (now p : ℕ) (name : List ℕ) (d : Node) (i : ℕ) (m : Node) (n : Inode) (b1 : List ℕ)
    (strong : IsStrong (frame image)) (c : IsMaking (view image) asked now p name d i m) (is : IsNewFile image i n m) (raised : n.generation ≡ unwrap_or (get (view image).generations i) 0 + 1)
    (puts : PutsInode image i b1 n) (own : List ℕ) (owns : AreNewBlocks (frame image) i (address_of image (head_of n)) own) (blocks inodes : List Bool) (sets : AreSetsOf image blocks inodes) where
  first : Image
  first = put_inode image i b1

  within : i < (tree (frame image)).inodes + 1
  within = making-within image asked now p name d i m strong c

  unnamed : is_named (tree (frame image)) i ≡ false
  unnamed = absent-unnamed image i strong c.absent within

  sizes : ((frame first).isize ≡ (frame image).isize) × ((frame first).fsize ≡ (frame image).fsize)
  unfolding first
  sizes = unnamed-sizes image i b1 n strong.weak puts is.placed c.low unnamed

  had_none : (r : Place) → (frame image).address i r ≢ 0 → ⊥
  had_none r nz = clash ((frame-IsFrame image).places i r nz).0 (absent-free image i strong c.absent within)

  blocks_first : HoldsBlocks (frame first) (taken own blocks)
  unfolding first
  blocks_first = blocks-of-directory (frame image) (frame (put_inode image i b1)) i (λ q. address_of image (head_of n) q) strong.weak sizes.0 sizes.1
      (λ j ne r. unnamed-addresses image i b1 n strong.weak puts is.placed c.low unnamed j ne r)
      (λ r. unnamed-address image i b1 n strong.weak puts is.placed c.low unnamed r)
      (λ r nz. absurd (had_none r nz)) own owns blocks (halves-of (frame image) (view image).generations blocks inodes sets).0

  numbers_first : HoldsNumbers (frame first) (view first).generations (set inodes i false)
  unfolding first
  numbers_first = number-taken image (put_inode image i b1) i n inodes (unnamed-numbers image i b1 n strong.weak puts is.placed c.low unnamed within) (halves-of (frame image) (view image).generations blocks inodes sets).1
      (λ f. clash (ap (λ (h : Head). h.is_used) (unnamed-head image i b1 n strong.weak puts is.placed c.low unnamed) ∙ is.used) f.unused)

  -- the puts after it, which are of its directory
  module _ (last : Image) (target : Place → ℕ) (new : List ℕ) (isize : (frame last).isize ≡ (frame (put_inode image i b1)).isize) (fsize : (frame last).fsize ≡ (frame (put_inode image i b1)).fsize)
      (others : (j : ℕ) → j ≢ p → (r : Place) → (frame last).address j r ≡ (frame (put_inode image i b1)).address j r) (own_there : (r : Place) → (frame last).address p r ≡ target r)
      (kept : (r : Place) → (frame (put_inode image i b1)).address p r ≢ 0 → target r ≡ (frame (put_inode image i b1)).address p r) (fresh : AreNewBlocks (frame (put_inode image i b1)) p target new)
      (used : (j : ℕ) → ((frame last).head j).is_used ≡ ((frame (put_inode image i b1)).head j).is_used) (after : view last ≡ after_calls (view image) (asked ∷ []) now) where
    generations : (view last).generations ≡ (view first).generations
    unfolding first
    generations = ap (λ (f : Files). f.generations) (after ∙ c.after)
        ∙ (λ z. insert (view image).generations i (sym raised z))
        ∙ ap (λ (f : Files). f.generations) (sym (unnamed-view image i b1 n strong.weak puts is.placed c.low unnamed within))

    weak_first : IsWeak (frame first)
    unfolding first
    weak_first = unnamed-weak image i b1 n strong.weak puts is.placed c.low unnamed

    pub own-sets : AreSetsOf last (taken new (taken own blocks)) (set inodes i false)
    unfolding first
    own-sets = sets-of (frame last) (view last).generations (taken new (taken own blocks)) (set inodes i false)
        (length-taken new (taken own blocks) ∙ length-taken own blocks ∙ sets.blocks_room ∙ sym (fsize ∙ sizes.1))
        (length-set inodes i false ∙ sets.inodes_room ∙ ap (λ q. inodes_before q + 1) (sym (isize ∙ sizes.0)))
        (blocks-of-directory (frame (put_inode image i b1)) (frame last) p target weak_first isize fsize others own_there kept new fresh (taken own blocks) blocks_first)
        (numbers-stay (frame (put_inode image i b1)) (frame last) (view (put_inode image i b1)).generations (view last).generations (set inodes i false) (record { isize = isize; used = used; same = generations }) numbers_first)
