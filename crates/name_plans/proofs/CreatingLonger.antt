-- CREATE of a new file whose entry makes the directory longer, by the blocks where the directory's are to stand.
use Rattle.std.proofs.Common.{◌≡◌, ◌≢◌, ℕ, ◌+◌, ◌/◌, ◌%◌, ◌<◌, ◌≤◌, Bool, true, false, List, [], ◌∷◌, length, set, refl, sym, ap, subst, ◌∙◌, arith, ⊎_elim, Some}
use Rattle.std.proofs.lemmas.Bool.{cases_eq, ne_eqb}
use Rattle.v7_layout.specs.declared.inode.Inode.{Inode}
use Rattle.v7_layout.specs.Numbers.{field}
use Rattle.files_model.specs.Files.{Node, sectors_of}
use Rattle.files_model.specs.Space.{size_limit}
use Rattle.files_model.specs.Torn.{Asked}
use Rattle.stable.specs.Puts.{put_all}
use Rattle.stable.specs.Store.{Image}
use Rattle.v7_map.specs.Image.{inode_at}
use Rattle.v7_map.specs.Frame.{Head, Place, Body, head_of, is_directory, frame}
use Rattle.v7_map.specs.Tree.{tree, is_named, links, is_slot_of}
use Rattle.v7_map.specs.Weak.{IsWeak, IsStrong}
use Rattle.v7_map.specs.Plan.{PutsInode}
use Rattle.v7_map.specs.Plans.{IsPlanOf}
use Rattle.v7_plans.specs.Quiet.{AllMuted}
use Rattle.v7_plans.specs.Setting.{put_inode}
use Rattle.v7_plans.proofs.Local.{IsStrongFor}
use Rattle.v7_plans.proofs.Muting.{muted-addresses, muted-heads, muted-weak}
use Rattle.v7_strokes.specs.Inodes.{longer_inode}
use Rattle.v7_strokes.specs.Slots.{Appends, GrowsBy}
use Rattle.v7_strokes.proofs.Absent.{absent-unnamed}
use Rattle.v7_strokes.proofs.Creation.{new-weak, new-strong, new-head, new-links}
use Rattle.v7_strokes.proofs.Directories.{StandsDir}
use Rattle.v7_strokes.proofs.GrowStep.{grow-address, grow-addresses, grow-head, grow-heads, grow-sizes}
use Rattle.v7_strokes.proofs.Names.{some_slot}
use Rattle.v7_strokes.proofs.Unnamed.{unnamed-walked, unnamed-heads}
use Rattle.name_plans.specs.CreatingPuts.{MakesLonger, longer_image, longer_puts}
use Rattle.name_plans.proofs.CreatingInPlace.{making-dir, making-within}
use Rattle.name_plans.proofs.CreatingAtEnd.{create-growing}
use Rattle.name_plans.proofs.Lengthening.{longer-muted, longer-grown, longer-at}

clash : {b : Bool} → b ≡ true → b ≡ false → ⊥
clash {b = b} x y = cc

module _ (image : Image) (asked : Asked) (now p : ℕ) (name : List ℕ) (d : Node) (i : ℕ) (m : Node) (n : Inode) (target : Place → ℕ) (b1 b2 : List ℕ) (maps : List (ℕ × List ℕ)) (direct : List ℕ) (single : ℕ) (b3 : List ℕ)
    (strong : IsStrong (frame image)) (x : MakesLonger image asked now p name d i m n target b1 b2 maps direct single b3) where
  first : Image
  first = put_inode image i b1

  mid : Image
  mid = longer_image image d i target b1 b2 maps

  within : i < (tree (frame image)).inodes + 1
  within = making-within image asked now p name d i m strong x.making

  s : StandsDir image p d
  s = making-dir image asked now p name d i m strong x.making

  unnamed : is_named (tree (frame image)) i ≡ false
  unnamed = absent-unnamed image i strong x.making.absent within

  apart : p ≢ i
  apart e = clash (subst (λ z. is_named (tree (frame image)) z ≡ true) e s.stands.named) unnamed

  pub longer-weak : IsWeak (frame (put_inode image i b1))
  longer-weak = new-weak image i n m b1 strong x.making.absent within x.making.low x.new x.inode

  strong_first : IsStrongFor (λ j. j ≢ i) (frame first)
  unfolding first
  strong_first = new-strong image i n m b1 strong x.making.absent within x.making.low x.new x.inode

  head_p : (frame first).head p ≡ (frame image).head p
  unfolding first
  head_p = unnamed-heads image i b1 n strong.weak x.inode x.new.placed x.making.low unnamed p apart

  size_p : ((frame first).head p).size ≡ d.size
  size_p = ap (λ (h : Head). h.size) head_p ∙ s.size

  head_i : (frame first).head i ≡ head_of n
  unfolding first
  head_i = new-head image i n m b1 strong x.making.absent within x.making.low x.new x.inode

  no_links : links (tree (frame first)) i ≡ 0
  unfolding first
  no_links = new-links image i n m b1 strong x.making.absent within x.making.low x.new x.inode

  bound : (j : ℕ) → is_slot_of j (Some (i, name)) ≡ true → links (tree (frame first)) j + 1 ≤ 65535
  bound j e = ⊎_elim (λ (same : j ≡ i). subst (λ z. links (tree (frame first)) z + 1 ≤ 65535) (sym same) (let l = no_links in omega arith))
      (λ (ne : j ≢ i). absurd (clash e (ne_eqb i j (λ z. ne (sym z))))) (cases_eq j i)

  appends : Appends first p (length d.slots) (Some (i, name))
  unfolding first
  appends =
      let long = s.long in let even = s.even in let z = size_p in record {
        weak = longer-weak;
        walked = unnamed-walked image i b1 n strong.weak x.inode x.new.placed x.making.low unnamed p ∙ s.walked;
        end = s.long ∙ ap (λ q. q / 16) (sym size_p);
        even = ap (λ q. q % 16) size_p ∙ s.even;
        within = subst (λ q. q + 16 ≤ size_limit) (sym size_p) x.room;
        none_past = λ l lt. strong_first.none_past p l (omega arith);
        plain = λ j other e. subst (λ q. is_directory ((frame (put_inode image i b1)).head q) ≡ false) (some_slot i j name other e).0 (ap is_directory head_i ∙ x.new.file);
        used = λ j other e. let r = some_slot i j name other e in (subst (λ q. ((frame (put_inode image i b1)).head q).is_used ≡ true) r.0 (ap (λ (h : Head). h.is_used) head_i ∙ x.new.used), subst (λ q. q ≢ []) r.1 x.making.good_name);
        bound = bound;
      }

  none : (l : ℕ) → sectors_of ((frame first).head p).size ≤ l → (frame first).address p (Body l) ≡ 0
  none l le = strong_first.none_past p l le

  inner : List (ℕ × List ℕ)
  inner = (target (Body (length d.slots / 32)), b2) ∷ maps

  muted : AllMuted p inner first
  unfolding inner first
  muted = longer-muted (put_inode image i b1) p (length d.slots) now (Some (i, name)) target b2 maps direct single appends none x.longer

  grown : GrowsBy mid p (length d.slots) (longer_inode (inode_at mid p) direct single now) (Some (i, name))
  unfolding mid first
  grown = longer-grown (put_inode image i b1) p (length d.slots) now (Some (i, name)) target b2 maps direct single appends none x.longer

  pub longer-plan : IsPlanOf image (asked ∷ []) now (longer_puts p d i target b1 b2 maps b3)
  unfolding mid inner first
  longer-plan = create-growing image asked now p name d i m strong x.making n x.new x.raised b1 x.inode ((target (Body (length d.slots / 32)), b2) ∷ maps) muted x.full
      (longer_inode (inode_at (longer_image image d i target b1 b2 maps) p) direct single now) b3 grown refl x.directory

  weak_mid : IsWeak (frame mid)
  unfolding mid inner first
  weak_mid = muted-weak p inner first muted longer-weak

  last : Image
  last = put_inode mid p b3

  puts_p : PutsInode mid p b3 (longer_inode (inode_at mid p) direct single now)
  unfolding mid
  puts_p = x.directory

  -- ---- where blocks stand afterwards

  muted-sizes : (q : ℕ) (puts : List (ℕ × List ℕ)) (old : Image) → AllMuted q puts old → ((frame (put_all puts old)).isize ≡ (frame old).isize) × ((frame (put_all puts old)).fsize ≡ (frame old).fsize)
  unfolding frame
  muted-sizes q [] old h = (refl, refl)
  muted-sizes q (put ∷ puts) old h = let r = muted-sizes q puts (set old put.0 put.1) h.1 in
      (r.0 ∙ ap (λ b. field b 0 2) h.0.same_first, r.1 ∙ ap (λ b. field b 2 4) h.0.same_first)

  pub longer-own : (r : Place) → (frame (put_inode (longer_image image d i target b1 b2 maps) p b3)).address p r ≡ target r
  unfolding mid first
  longer-own r = grow-address mid p (length d.slots) (longer_inode (inode_at mid p) direct single now) b3 (Some (i, name)) weak_mid puts_p grown r
      ∙ longer-at (put_inode image i b1) p (length d.slots) now (Some (i, name)) target b2 maps direct single appends none x.longer r

  pub longer-others : (j : ℕ) → j ≢ p → (r : Place) → (frame (put_inode (longer_image image d i target b1 b2 maps) p b3)).address j r ≡ (frame (put_inode image i b1)).address j r
  unfolding mid first inner
  longer-others j ne r = grow-addresses mid p (length d.slots) (longer_inode (inode_at mid p) direct single now) b3 (Some (i, name)) weak_mid puts_p grown j ne r
      ∙ muted-addresses p inner first muted j ne r

  heads : (j : ℕ) → ((frame last).head j).is_used ≡ ((frame first).head j).is_used
  unfolding last mid first inner frame
  heads j = ⊎_elim
      (λ (e : j ≡ p). subst (λ q. ((frame last).head q).is_used ≡ ((frame first).head q).is_used) (sym e)
      (ap (λ (h : Head). h.is_used) (grow-head mid p (length d.slots) (longer_inode (inode_at mid p) direct single now) b3 (Some (i, name)) weak_mid puts_p grown)
      ∙ ap (λ (h : Head). h.is_used) (muted-heads p inner first muted p)))
      (λ (ne : j ≢ p). ap (λ (h : Head). h.is_used) (grow-heads mid p (length d.slots) (longer_inode (inode_at mid p) direct single now) b3 (Some (i, name)) weak_mid puts_p grown j ne ∙ muted-heads p inner first muted j))
      (cases_eq j p)

  pub longer-used : (j : ℕ) → ((frame (put_inode (longer_image image d i target b1 b2 maps) p b3)).head j).is_used ≡ ((frame (put_inode image i b1)).head j).is_used
  unfolding last mid first
  longer-used = heads

  pub longer-sizes : ((frame (put_inode (longer_image image d i target b1 b2 maps) p b3)).isize ≡ (frame (put_inode image i b1)).isize) × ((frame (put_inode (longer_image image d i target b1 b2 maps) p b3)).fsize ≡ (frame (put_inode image i b1)).fsize)
  unfolding mid first inner
  longer-sizes = let r = grow-sizes mid p (length d.slots) (longer_inode (inode_at mid p) direct single now) b3 (Some (i, name)) weak_mid puts_p grown in
      let e = muted-sizes p inner first muted in (r.0 ∙ e.0, r.1 ∙ e.1)
