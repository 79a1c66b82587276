-- What is free after a SYMLINK: the blocks of its text and its i-number are taken, and so are the new blocks of its directory.
use Rattle.std.proofs.Common.{◌≡◌, ℕ, ◌/◌, Bool, false, List, [], ◌∷◌, ◌++◌, length, set, refl, sym, ap, subst, ◌∙◌, Some}
use Rattle.files_model.specs.declared.attributes.FileId.{FileId}
use Rattle.files_model.specs.declared.attributes.Sattr.{Sattr}
use Rattle.files_model.specs.declared.credential.Cred.{Cred}
use Rattle.files_model.specs.declared.call.Call.TheVariants as call
use Rattle.files_model.specs.Files.{Node, Files}
use Rattle.files_model.specs.Names.{place_for}
use Rattle.files_model.specs.NameRows.{new_link}
use Rattle.files_model.specs.Torn.{Asked}
use Rattle.stable.specs.Puts.{put_all}
use Rattle.stable.specs.Store.{Image}
use Rattle.v7_layout.specs.declared.inode.Inode.{Inode}
use Rattle.v7_map.specs.Frame.{Frame, Head, Place, Body, head_of, address_of, frame}
use Rattle.v7_map.specs.View.{view}
use Rattle.v7_map.specs.Weak.{IsStrong}
use Rattle.v7_map.proofs.Prefixes.{put_all-append}
use Rattle.v7_plans.specs.Setting.{put_inode}
use Rattle.v7_sets.specs.Sets.{AreSets, AreSetsOf}
use Rattle.v7_strokes.specs.Entries.{entry_sector, inode_put}
use Rattle.v7_strokes.proofs.Creation.{new-weak, create-entry}
use Rattle.v7_strokes.proofs.Directories.{place-past, place-empty}
use Rattle.v7_strokes.proofs.SlotStep.{step-sizes, step-heads, step-addresses}
use Rattle.name_plans.specs.CreatingPuts.{MakesInPlace, MakesLonger, in_place_puts, longer_puts, longer_image}
use Rattle.name_plans.specs.Taken.{taken, AreNewBlocks}
use Rattle.name_plans.proofs.CreatingInPlace.{making-dir, making-within, create-plan, create-frame}
use Rattle.name_plans.proofs.CreatingLonger.{longer-plan, longer-own, longer-others, longer-used, longer-sizes}
use Rattle.longer_plans.specs.SymlinkPuts.{IsSymlink, PutsText, TakesSlot, AddsSlot, text_puts}
use Rattle.longer_plans.proofs.OwnBlocks.{own-sets}
use Rattle.longer_plans.proofs.SymlinkPlans.{text-inode, text-frame, text-view, text-strong, text-in_place, text-longer, text-blocks}

-- ---- a node that holds blocks, in place

module _ (image : Image) (asked : Asked) (now p : ℕ) (name : List ℕ) (d : Node) (i : ℕ) (m : Node) (n : Inode) (b1 b2 b3 : List ℕ) (strong : IsStrong (frame image)) (x : MakesInPlace image asked now p name d i m n b1 b2 b3)
    (own : List ℕ) (owns : AreNewBlocks (frame image) i (address_of image (head_of n)) own) (blocks inodes : List Bool) (sets : AreSetsOf image blocks inodes) where
  pub own-in_place : AreSetsOf (put_all (in_place_puts image p d i b1 b2 b3) image) (taken own blocks) (set inodes i false)
  own-in_place =
      let s = making-dir image asked now p name d i m strong x.making in
      let within' = making-within image asked now p name d i m strong x.making in
      let first' : Image = put_inode image i b1 in
      let a : ℕ = entry_sector first' p (place_for d.slots) in
      let weak = new-weak image i n m b1 strong x.making.absent within' x.making.low x.new x.inode in
      let entry = create-entry image i n m b1 strong x.making.absent within' x.making.low x.new x.inode p d s x.making.at name x.making.good_name (place_for d.slots)
      (place-past image p d strong.weak s) (place-empty image p d strong.weak s x.inside) x.inside b2 x.entry in
      let same = create-frame image asked now p name d i m strong x.making n x.new x.raised b1 x.inode x.inside b2 b3 x.entry x.times in
      let sizes' = step-sizes first' p (place_for d.slots) a b2 (Some (i, name)) weak entry in
      own-sets image asked now p name d i m n b1 strong x.making x.new x.raised x.inode own owns blocks inodes sets
      (put_all (in_place_puts image p d i b1 b2 b3) image) (λ r. (frame first').address p r) []
      (ap (λ (f : Frame). f.isize) same ∙ sizes'.0) (ap (λ (f : Frame). f.fsize) same ∙ sizes'.1)
      (λ j ne r. ap (λ (f : Frame). f.address j r) same ∙ step-addresses first' p (place_for d.slots) a b2 (Some (i, name)) weak entry j r)
      (λ r. ap (λ (f : Frame). f.address p r) same ∙ step-addresses first' p (place_for d.slots) a b2 (Some (i, name)) weak entry p r)
      (λ r nz. refl)
      (record { each = λ r z nz. absurd (nz z); only = λ b h. refl })
      (λ j. ap (λ (f : Frame). (f.head j).is_used) same ∙ ap (λ (h : Head). h.is_used) (step-heads first' p (place_for d.slots) a b2 (Some (i, name)) weak entry j))
      (create-plan image asked now p name d i m strong x.making n x.new x.raised b1 x.inode x.inside b2 b3 x.entry x.times).after

-- ---- and at the end

module _ (image : Image) (asked : Asked) (now p : ℕ) (name : List ℕ) (d : Node) (i : ℕ) (m : Node) (n : Inode) (target : Place → ℕ) (b1 b2 : List ℕ) (maps : List (ℕ × List ℕ)) (direct : List ℕ) (single : ℕ) (b3 : List ℕ)
    (strong : IsStrong (frame image)) (x : MakesLonger image asked now p name d i m n target b1 b2 maps direct single b3)
    (own : List ℕ) (owns : AreNewBlocks (frame image) i (address_of image (head_of n)) own) (new : List ℕ) (fresh : AreNewBlocks (frame (put_inode image i b1)) p target new)
    (blocks inodes : List Bool) (sets : AreSetsOf image blocks inodes) where
  pub own-longer : AreSetsOf (put_all (longer_puts p d i target b1 b2 maps b3) image) (taken new (taken own blocks)) (set inodes i false)
  own-longer =
      let all : put_all (longer_puts p d i target b1 b2 maps b3) image ≡ put_inode (longer_image image d i target b1 b2 maps) p b3 = put_all-append ((target (Body (length d.slots / 32)), b2) ∷ maps) (inode_put p b3 ∷ []) (put_inode image i b1) in
      subst (λ z. AreSetsOf z (taken new (taken own blocks)) (set inodes i false)) (sym all)
      (own-sets image asked now p name d i m n b1 strong x.making x.new x.raised x.inode own owns blocks inodes sets
      (put_inode (longer_image image d i target b1 b2 maps) p b3) target new
      (longer-sizes image asked now p name d i m n target b1 b2 maps direct single b3 strong x).0 (longer-sizes image asked now p name d i m n target b1 b2 maps direct single b3 strong x).1
      (longer-others image asked now p name d i m n target b1 b2 maps direct single b3 strong x)
      (longer-own image asked now p name d i m n target b1 b2 maps direct single b3 strong x)
      x.longer.lays.kept fresh
      (longer-used image asked now p name d i m n target b1 b2 maps direct single b3 strong x)
      (ap view (sym all) ∙ (longer-plan image asked now p name d i m n target b1 b2 maps direct single b3 strong x).after))

-- ---- SYMLINK

module _ (image : Image) (dir : FileId) (name text : List ℕ) (wanted : Sattr) (cred : Cred) (now : ℕ) (d : Node) (i : ℕ) (held b1 : List ℕ) (strong : IsStrong (frame image)) (c : IsSymlink (view image) dir name text wanted cred now d i)
    (x : PutsText image i (new_link wanted cred text now) text held b1) (blocks inodes : List Bool) (sets : AreSetsOf image blocks inodes) where
  abbrev zeroth : Image
  zeroth = put_all (text_puts text 0 held) image

  n : Inode
  n = text-inode image dir name text wanted cred now d i held b1 strong c x

  strong_zeroth : IsStrong (frame zeroth)
  strong_zeroth = text-strong image dir name text wanted cred now d i held b1 strong c x

  sets_zeroth : AreSetsOf zeroth blocks inodes
  sets_zeroth =
      let f = text-frame image dir name text wanted cred now d i held b1 strong c x in
      let v = text-view image dir name text wanted cred now d i held b1 strong c x in
      subst (λ g. AreSets g (view zeroth).generations blocks inodes) (sym f) (subst (λ (w : Files). AreSets (frame image) w.generations blocks inodes) (sym v) sets)

  owns : AreNewBlocks (frame zeroth) i (address_of zeroth (head_of n)) held
  unfolding n
  owns = text-blocks image dir name text wanted cred now d i held b1 strong c x

  pub symlink-sets : (b2 b3 : List ℕ) → TakesSlot (put_all (text_puts text 0 held) image) now dir.ino name d i b1 b2 b3
      → AreSetsOf (put_all (text_puts text 0 held ++ in_place_puts (put_all (text_puts text 0 held) image) dir.ino d i b1 b2 b3) image) (taken held blocks) (set inodes i false)
  unfolding n
  symlink-sets b2 b3 y = subst (λ z. AreSetsOf z (taken held blocks) (set inodes i false)) (sym (put_all-append (text_puts text 0 held) (in_place_puts zeroth dir.ino d i b1 b2 b3) image))
      (own-in_place zeroth (call.Symlink dir name text wanted, cred) now dir.ino name d i (new_link wanted cred text now) n b1 b2 b3 strong_zeroth
      (text-in_place image dir name text wanted cred now d i held b1 strong c x b2 b3 y) held owns blocks inodes sets_zeroth)

  pub symlink-longer_sets : (target : Place → ℕ) (b2 : List ℕ) (maps : List (ℕ × List ℕ)) (direct : List ℕ) (single : ℕ) (b3 : List ℕ) → AddsSlot (put_all (text_puts text 0 held) image) now dir.ino name d i target b1 b2 maps direct single b3
      → (new : List ℕ) → AreNewBlocks (frame (put_inode (put_all (text_puts text 0 held) image) i b1)) dir.ino target new
      → AreSetsOf (put_all (text_puts text 0 held ++ longer_puts dir.ino d i target b1 b2 maps b3) image) (taken new (taken held blocks)) (set inodes i false)
  unfolding n
  symlink-longer_sets target b2 maps direct single b3 y new fresh = subst (λ z. AreSetsOf z (taken new (taken held blocks)) (set inodes i false)) (sym (put_all-append (text_puts text 0 held) (longer_puts dir.ino d i target b1 b2 maps b3) image))
      (own-longer zeroth (call.Symlink dir name text wanted, cred) now dir.ino name d i (new_link wanted cred text now) n target b1 b2 maps direct single b3 strong_zeroth
      (text-longer image dir name text wanted cred now d i held b1 strong c x target b2 maps direct single b3 y) held owns new fresh blocks inodes sets_zeroth)
