-- What stands once a SYMLINK has put the sectors of its text and its inode.
use Rattle.std.proofs.Common.{◌≡◌, ◌≢◌, ℕ, ◌+◌, ◌<◌, ◌≤◌, Bool, true, false, List, [], ◌∷◌, sym, ap, subst, ◌∙◌, arith, ⊎_elim}
use Rattle.std.proofs.lemmas.Bool.{cases_eq}
use Rattle.files_model.specs.declared.attributes.FileId.{FileId}
use Rattle.files_model.specs.declared.attributes.Sattr.{Sattr}
use Rattle.files_model.specs.declared.credential.Cred.{Cred}
use Rattle.files_model.specs.declared.call.Call.TheVariants as call
use Rattle.files_model.specs.Among.{is_among}
use Rattle.files_model.specs.Files.{Node}
use Rattle.files_model.specs.NameRows.{new_link}
use Rattle.stable.specs.Puts.{put_all}
use Rattle.stable.specs.Store.{Image}
use Rattle.v7_layout.specs.declared.inode.Inode.{Inode}
use Rattle.v7_map.specs.Frame.{Frame, Place, head_of, address_of, frame}
use Rattle.v7_map.specs.Image.{inode_at}
use Rattle.v7_map.specs.Tree.{tree, is_named}
use Rattle.v7_map.specs.View.{view}
use Rattle.v7_map.specs.Weak.{IsStrong}
use Rattle.v7_map.proofs.AnyFrame.{frame-IsFrame}
use Rattle.v7_plans.specs.Setting.{put_inode}
use Rattle.v7_plans.proofs.Quieting.{quiet-inodes}
use Rattle.v7_sets.specs.Sets.{IsFreeBlock}
use Rattle.v7_strokes.proofs.Absent.{absent-unnamed, absent-free}
use Rattle.v7_strokes.proofs.Directories.{StandsDir}
use Rattle.v7_strokes.proofs.Unnamed.{unnamed-address, unnamed-addresses, unnamed-inodes, unnamed-sizes}
use Rattle.name_plans.proofs.CreatingInPlace.{making-dir, making-within}
use Rattle.longer_plans.specs.SymlinkPuts.{IsSymlink, PutsText, text_puts}
use Rattle.longer_plans.proofs.SymlinkPlans.{text-inode, text-quiet, text-frame, text-strong, text-making, text-new, text-puts, text-blocks}

module _ (image : Image) (dir : FileId) (name text : List ℕ) (wanted : Sattr) (cred : Cred) (now : ℕ) (d : Node) (i : ℕ) (held b1 : List ℕ) (strong : IsStrong (frame image)) (c : IsSymlink (view image) dir name text wanted cred now d i)
    (x : PutsText image i (new_link wanted cred text now) text held b1) where
  abbrev zeroth : Image
  zeroth = put_all (text_puts text 0 held) image

  n : Inode
  n = text-inode image dir name text wanted cred now d i held b1 strong c x

  sound : IsStrong (frame zeroth)
  sound = text-strong image dir name text wanted cred now d i held b1 strong c x

  same : frame zeroth ≡ frame image
  same = text-frame image dir name text wanted cred now d i held b1 strong c x

  unnamed : is_named (tree (frame zeroth)) i ≡ false
  unnamed = let m = text-making image dir name text wanted cred now d i held b1 strong c x in
      absent-unnamed zeroth i sound m.absent (making-within zeroth (call.Symlink dir name text wanted, cred) now dir.ino name d i (new_link wanted cred text now) sound m)

  low : 3 ≤ i
  low = (text-making image dir name text wanted cred now d i held b1 strong c x).low

  pub first-apart : dir.ino ≢ i
  first-apart e =
      let m = text-making image dir name text wanted cred now d i held b1 strong c x in
      let s : StandsDir zeroth dir.ino d = making-dir zeroth (call.Symlink dir name text wanted, cred) now dir.ino name d i (new_link wanted cred text now) sound m in
      clash (subst (λ z. is_named (tree (frame zeroth)) z ≡ true) e s.stands.named) unnamed
    where
      clash : {b : Bool} → b ≡ true → b ≡ false → ⊥
      clash {b = b} x y = cc

  -- blocks stand where they stood, but those of the text
  pub first-address : (j : ℕ) → j ≢ i → (r : Place) → (frame (put_inode zeroth i b1)).address j r ≡ (frame image).address j r
  unfolding n
  first-address j ne r = unnamed-addresses zeroth i b1 n sound.weak (text-puts image dir name text wanted cred now d i held b1 strong c x) (text-new image dir name text wanted cred now d i held b1 strong c x).placed low unnamed j ne r
      ∙ ap (λ (f : Frame). f.address j r) same

  own : (r : Place) → (frame (put_inode zeroth i b1)).address i r ≡ address_of zeroth (head_of n) r
  unfolding n
  own r = unnamed-address zeroth i b1 n sound.weak (text-puts image dir name text wanted cred now d i held b1 strong c x) (text-new image dir name text wanted cred now d i held b1 strong c x).placed low unnamed r

  pub first-sizes : ((frame (put_inode zeroth i b1)).isize ≡ (frame image).isize) × ((frame (put_inode zeroth i b1)).fsize ≡ (frame image).fsize)
  unfolding n
  first-sizes =
      let s = unnamed-sizes zeroth i b1 n sound.weak (text-puts image dir name text wanted cred now d i held b1 strong c x) (text-new image dir name text wanted cred now d i held b1 strong c x).placed low unnamed in
      (s.0 ∙ ap (λ (f : Frame). f.isize) same, s.1 ∙ ap (λ (f : Frame). f.fsize) same)

  pub first-inode : (j : ℕ) → j ≢ i → inode_at (put_inode zeroth i b1) j ≡ inode_at image j
  unfolding n
  first-inode j ne = unnamed-inodes zeroth i b1 n sound.weak (text-puts image dir name text wanted cred now d i held b1 strong c x) (text-new image dir name text wanted cred now d i held b1 strong c x).placed low unnamed j ne
      ∙ quiet-inodes (text_puts text 0 held) image (text-quiet image dir name text wanted cred now d i held b1 strong c x) j

  -- a free block that isn't one of the text stays free
  pub first-free : (b : ℕ) → IsFreeBlock (frame image) b → is_among b held ≡ false → IsFreeBlock (frame (put_inode zeroth i b1)) b
  unfolding n
  first-free b f other = let least = strong.weak.sizes.low in let from = f.low in record {
    low = subst (λ z. z ≤ b) (sym first-sizes.0) f.low;
    high = subst (λ z. b < z) (sym first-sizes.1) f.high;
    nowhere = λ j r e. ⊎_elim
        (λ (h : j ≡ i). let here : address_of zeroth (head_of n) r ≡ b = sym (own r) ∙ subst (λ z. (frame (put_inode zeroth i b1)).address z r ≡ b) h e in
        clash (subst (λ a. is_among a held ≡ true) here ((text-blocks image dir name text wanted cred now d i held b1 strong c x).each r (had_none r) (λ z. let none : b ≡ 0 = sym here ∙ z in omega arith))) other)
        (λ (ne : j ≢ i). f.nowhere j r (sym (first-address j ne r) ∙ e))
        (cases_eq j i);
  }
    where
      clash : {b : Bool} → b ≡ true → b ≡ false → ⊥
      clash {b = b} x y = cc

      had_none : (r : Place) → (frame zeroth).address i r ≡ 0
      had_none r = ⊎_elim
          (λ (z : (frame zeroth).address i r ≡ 0). z)
          (λ (nz : (frame zeroth).address i r ≢ 0). let m = text-making image dir name text wanted cred now d i held b1 strong c x in
          absurd (clash ((frame-IsFrame zeroth).places i r nz).0 (absent-free zeroth i sound m.absent (making-within zeroth (call.Symlink dir name text wanted, cred) now dir.ino name d i (new_link wanted cred text now) sound m))))
          (cases_eq ((frame zeroth).address i r) 0)
