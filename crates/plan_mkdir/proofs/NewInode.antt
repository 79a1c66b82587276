-- A new directory's first sector and inode are put: what that leaves of its parent.
use Rattle.std.proofs.Common.{◌≡◌, ◌≢◌, ℕ, ◌+◌, ◌<◌, ◌≤◌, true, false, List, [], ◌∷◌, set, refl, sym, ap, subst, ◌∙◌, arith, ⊎_elim}
use Rattle.std.proofs.lemmas.Bool.{cases_eq}
use Rattle.std.specs.List.{AllByRecursion}
use Rattle.files_model.specs.declared.attributes.Sattr.{Sattr}
use Rattle.files_model.specs.declared.credential.Cred.{Cred}
use Rattle.files_model.specs.declared.call.Call.TheVariants.{Mkdir}
use Rattle.files_model.specs.Files.{Node}
use Rattle.files_model.specs.NameRows.{new_directory}
use Rattle.stable.specs.Puts.{put_all}
use Rattle.stable.specs.Store.{Image}
use Rattle.v7_layout.specs.declared.inode.Inode.{Inode}
use Rattle.v7_layout.specs.declared.slot.Slot.{Slot}
use Rattle.v7_map.specs.Image.{sector_at, is_inode, inode_at, inode_sector, isize_of}
use Rattle.v7_map.specs.Frame.{Frame, Place, head_of, address_of, frame}
use Rattle.v7_map.specs.Tree.{tree, is_named}
use Rattle.v7_map.specs.View.{view}
use Rattle.v7_map.specs.Weak.{IsStrong}
use Rattle.v7_map.specs.Plan.{PutsInode}
use Rattle.v7_map.proofs.AnyFrame.{frame-IsFrame}
use Rattle.v7_map.proofs.Data.{same_inode}
use Rattle.v7_map.proofs.Puts.{put_all-below}
use Rattle.v7_plans.specs.Setting.{put_inode}
use Rattle.v7_sets.specs.Sets.{IsFreeBlock}
use Rattle.v7_strokes.specs.Inodes.{made_inode, placed_inode}
use Rattle.v7_strokes.specs.NewNodes.{IsNewDirectory}
use Rattle.v7_strokes.proofs.Directories.{StandsDir}
use Rattle.v7_strokes.proofs.FreeQuiet.{free-quiet}
use Rattle.v7_strokes.proofs.Unnamed.{unnamed-address, unnamed-addresses, unnamed-inodes, unnamed-sizes}
use Rattle.name_plans.specs.MakingDirectory.{AreDots, PutsDots}
use Rattle.name_plans.proofs.MkdirAccepted.{IsMakingDirectory, mkdir-making}
use Rattle.name_plans.proofs.MkdirFirst.{mkdir-dir, mkdir-within, mkdir-unnamed, mkdir-apart}
use Rattle.name_plans.proofs.MkdirQuiet.{dots-inode, dots-frame, dots-strong, dots-making, dots-new, dots-puts}
use Rattle.longer_plans.proofs.MkdirLongerSets.{own-is}
use Rattle.plan_name.proofs.Past.{still, is_number}
use Rattle.plan_name.specs.declared.making.Spot.{Spot}
use Rattle.plan_mkdir.specs.Making.{Makes, HasParts}
use Rattle.plan_mkdir.specs.declared.directories.NewDirectory.{NewDirectory}

module _ (image : Image) (spot : Spot) (new : NewDirectory) (name : List ℕ) (wanted : Sattr) (cred : Cred) (now : ℕ) (d : Node) (strong : IsStrong (frame image)) (x : Makes image spot new name wanted cred now d) where
  making : IsMakingDirectory (view image) (Mkdir spot.directory name wanted, cred) now spot.directory.ino name d new.ino (new_directory wanted cred new.ino spot.directory.ino now)
  making = mkdir-making image spot.directory name wanted cred now d new.ino strong x.making

  pub new-parent : StandsDir image spot.directory.ino d
  new-parent = mkdir-dir image (Mkdir spot.directory name wanted, cred) now spot.directory.ino name d new.ino (new_directory wanted cred new.ino spot.directory.ino now) strong making

  pub new-few : d.nlink + 1 ≤ 65535
  new-few = making.bound

  within : new.ino < (tree (frame image)).inodes + 1
  within = mkdir-within image (Mkdir spot.directory name wanted, cred) now spot.directory.ino name d new.ino (new_directory wanted cred new.ino spot.directory.ino now) strong making

  pub new-low : 3 ≤ new.ino
  new-low = making.low

  pub new-inside : is_inode image new.ino ≡ true
  new-inside = let low = making.low in let w = within in is_number image new.ino (omega arith) (omega arith)

  -- the parent's number, and where its inode stands
  pub parent-inside : (is_inode image spot.directory.ino ≡ true) × (inode_sector spot.directory.ino < (frame image).isize)
  parent-inside = let r = (frame-IsFrame image).numbers spot.directory.ino ((frame-IsFrame image).directories spot.directory.ino new-parent.dir) in
      let low = r.0 in let high = r.1 in (is_number image spot.directory.ino r.0 r.1, omega arith)

  apart : new.ino ≢ spot.directory.ino
  apart = mkdir-apart image (Mkdir spot.directory name wanted, cred) now spot.directory.ino name d new.ino (new_directory wanted cred new.ino spot.directory.ino now) strong making

  pub block-past : (2 ≤ new.block) × (inode_sector new.ino < new.block) × (inode_sector spot.directory.ino < new.block)
  block-past = let low = x.free.low in let least = strong.weak.sizes.low in let p = parent-inside.1 in let w = within in (omega arith, omega arith, omega arith)

  module _ (inode : Inode) (slot : Slot) (y : HasParts image spot new name wanted cred now inode slot) (b0 b1 : List ℕ) (dots : AreDots b0 new.ino spot.directory.ino)
      (first : is_inode (set image new.block b0) new.ino ≡ true → PutsInode (set image new.block b0) new.ino b1 inode) where
    zeroth : Image
    zeroth = set image new.block b0

    pub first-puts : PutsDots image spot.directory.ino new.ino (new_directory wanted cred new.ino spot.directory.ino now) new.block b0 b1
    first-puts = record {
      free = x.free;
      dots = dots;
      inode = subst (PutsInode (set image new.block b0) new.ino b1) y.inode_is (first (still image ((new.block, b0) ∷ []) new.ino (block-past.0, tt) new-inside));
    }

    n : Inode
    n = dots-inode image spot.directory name wanted cred now d new.ino new.block b0 b1 strong x.making first-puts

    sound : IsStrong (frame zeroth)
    unfolding zeroth
    sound = dots-strong image spot.directory name wanted cred now d new.ino new.block b0 b1 strong x.making first-puts

    facts : IsMakingDirectory (view zeroth) (Mkdir spot.directory name wanted, cred) now spot.directory.ino name d new.ino (new_directory wanted cred new.ino spot.directory.ino now)
    unfolding zeroth
    facts = dots-making image spot.directory name wanted cred now d new.ino new.block b0 b1 strong x.making first-puts

    is_new : IsNewDirectory zeroth spot.directory.ino new.ino n (new_directory wanted cred new.ino spot.directory.ino now)
    unfolding zeroth n
    is_new = dots-new image spot.directory name wanted cred now d new.ino new.block b0 b1 strong x.making first-puts

    puts : PutsInode zeroth new.ino b1 n
    unfolding zeroth n
    puts = dots-puts image spot.directory name wanted cred now d new.ino new.block b0 b1 strong x.making first-puts

    same_frame : frame zeroth ≡ frame image
    unfolding zeroth
    same_frame = dots-frame image spot.directory name wanted cred now d new.ino new.block b0 b1 strong x.making first-puts

    unnamed : is_named (tree (frame zeroth)) new.ino ≡ false
    unnamed = mkdir-unnamed zeroth (Mkdir spot.directory name wanted, cred) now spot.directory.ino name d new.ino (new_directory wanted cred new.ino spot.directory.ino now) sound facts

    address_other : (j : ℕ) → j ≢ new.ino → (r : Place) → (frame (put_inode (set image new.block b0) new.ino b1)).address j r ≡ (frame image).address j r
    unfolding zeroth
    address_other j ne r = unnamed-addresses zeroth new.ino b1 n sound.weak puts is_new.placed facts.low unnamed j ne r ∙ ap (λ (f : Frame). f.address j r) same_frame

    pub parent-address : (r : Place) → (frame (put_inode (set image new.block b0) new.ino b1)).address spot.directory.ino r ≡ (frame image).address spot.directory.ino r
    parent-address r = address_other spot.directory.ino (λ e. apart (sym e)) r

    pub first-sizes : ((frame (put_inode (set image new.block b0) new.ino b1)).isize ≡ (frame image).isize) × ((frame (put_inode (set image new.block b0) new.ino b1)).fsize ≡ (frame image).fsize)
    unfolding zeroth
    first-sizes = let s = unnamed-sizes zeroth new.ino b1 n sound.weak puts is_new.placed facts.low unnamed in
        (s.0 ∙ ap (λ (f : Frame). f.isize) same_frame, s.1 ∙ ap (λ (f : Frame). f.fsize) same_frame)

    -- a block of the new directory is its first one, or none
    own : (r : Place) → (frame (put_inode (set image new.block b0) new.ino b1)).address new.ino r ≢ 0 → (frame (put_inode (set image new.block b0) new.ino b1)).address new.ino r ≡ new.block
    unfolding zeroth n dots-inode placed_inode made_inode
    own r nz = ⊎_elim
        (λ (e : address_of zeroth (head_of n) r ≡ new.block). unnamed-address zeroth new.ino b1 n sound.weak puts is_new.placed facts.low unnamed r ∙ e)
        (λ (z : address_of zeroth (head_of n) r ≡ 0). absurd (nz (unnamed-address zeroth new.ino b1 n sound.weak puts is_new.placed facts.low unnamed r ∙ z)))
        (own-is zeroth (head_of n) new.block is_new.used refl refl refl r)

    -- another free block stays free
    pub others-free : (b : ℕ) → IsFreeBlock (frame image) b → b ≢ new.block → IsFreeBlock (frame (put_inode (set image new.block b0) new.ino b1)) b
    others-free b f ne = let least = strong.weak.sizes.low in let low = f.low in let some : b ≢ 0 = λ z. omega arith in record {
      low = subst (λ z. z ≤ b) (sym first-sizes.0) f.low;
      high = subst (λ z. b < z) (sym first-sizes.1) f.high;
      nowhere = λ j r e. ⊎_elim
          (λ (h : j ≡ new.ino). let there : (frame (put_inode (set image new.block b0) new.ino b1)).address new.ino r ≡ b = subst (λ z. (frame (put_inode (set image new.block b0) new.ino b1)).address z r ≡ b) h e in
          ne (sym there ∙ own r (λ z. some (sym there ∙ z))))
          (λ (other : j ≢ new.ino). f.nowhere j r (sym (address_other j other r) ∙ e))
          (cases_eq j new.ino);
    }

    -- ---- the parent's inode, after puts past the list of inodes

    module _ (rest : List (ℕ × List ℕ)) (past : AllByRecursion (λ (r : ℕ × List ℕ). (frame image).isize ≤ r.0) rest) where
      later : Image
      later = put_all rest (put_inode (set image new.block b0) new.ino b1)

      below : (s : ℕ) → s < isize_of (put_inode (set image new.block b0) new.ino b1) → sector_at later s ≡ sector_at (put_inode (set image new.block b0) new.ino b1) s
      unfolding later frame
      below s lt = put_all-below rest (put_inode (set image new.block b0) new.ino b1) (frame image).isize s past (subst (λ z. s < z) first-sizes.0 lt)

      inode_later : inode_at later spot.directory.ino ≡ inode_at image spot.directory.ino
      unfolding later zeroth frame
      inode_later = same_inode (put_inode (set image new.block b0) new.ino b1) later (below 1 (let least = strong.weak.sizes.low in let e = first-sizes.0 in omega arith)) (λ s _ lt. below s lt) spot.directory.ino
          ∙ unnamed-inodes zeroth new.ino b1 n sound.weak puts is_new.placed facts.low unnamed spot.directory.ino (λ e. apart (sym e))
          ∙ (free-quiet image new.block b0 strong.weak x.free dots.long).same_inodes spot.directory.ino

      pub later-size : (inode_at (put_all rest (put_inode (set image new.block b0) new.ino b1)) spot.directory.ino).size ≡ d.size
      unfolding later frame
      later-size = ap (λ (v : Inode). v.size) inode_later ∙ new-parent.size

      pub later-links : (inode_at (put_all rest (put_inode (set image new.block b0) new.ino b1)) spot.directory.ino).nlink ≡ d.nlink
      unfolding later frame
      later-links = ap (λ (v : Inode). v.nlink) inode_later ∙ strong.counted spot.directory.ino ((frame-IsFrame image).directories spot.directory.ino new-parent.dir) ∙ ap (λ (m : Node). m.nlink) new-parent.stands.is

      pub later-inside : is_inode (put_all rest (put_inode (set image new.block b0) new.ino b1)) spot.directory.ino ≡ true
      later-inside = still image ((new.block, b0) ∷ (inode_sector new.ino, b1) ∷ rest) spot.directory.ino (block-past.0, (omega arith, weaker rest past)) parent-inside.0
        where
          weaker : (rest : List (ℕ × List ℕ)) → AllByRecursion (λ (r : ℕ × List ℕ). (frame image).isize ≤ r.0) rest → AllByRecursion (λ (r : ℕ × List ℕ). 2 ≤ r.0) rest
          weaker [] h = tt
          weaker (r ∷ rest) h = (let least = strong.weak.sizes.low in let le = h.0 in omega arith, weaker rest h.1)
