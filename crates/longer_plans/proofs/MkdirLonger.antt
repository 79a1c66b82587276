-- MKDIR whose name makes the parent longer by the blocks where the parent's are to stand, once the new directory's sector is put.
use Rattle.std.proofs.Common.{◌≡◌, ◌≢◌, ℕ, ◌+◌, ◌/◌, ◌%◌, ◌<◌, ◌≤◌, List, [], ◌∷◌, length, set, refl, sym, ap, subst, ◌∙◌, arith, ⊎_elim, Some, unwrap_or}
use Rattle.std.proofs.lemmas.Bool.{cases_eq}
use Rattle.std.specs.FinMap.{get}
use Rattle.v7_layout.specs.declared.inode.Inode.{Inode}
use Rattle.v7_layout.specs.Numbers.{field}
use Rattle.files_model.specs.Files.{Node, sectors_of}
use Rattle.files_model.specs.Space.{size_limit}
use Rattle.files_model.specs.Torn.{Asked}
use Rattle.stable.specs.Puts.{put_all}
use Rattle.stable.specs.Store.{Image}
use Rattle.v7_map.specs.Image.{inode_at}
use Rattle.v7_map.specs.Frame.{Head, Place, Body, head_of, address_of, frame}
use Rattle.v7_map.specs.View.{view}
use Rattle.v7_map.specs.Weak.{IsWeak, IsStrong}
use Rattle.v7_map.specs.Plan.{PutsInode}
use Rattle.v7_plans.specs.Placed.{IsPlaced}
use Rattle.v7_plans.specs.Quiet.{AllMuted}
use Rattle.v7_plans.specs.Setting.{put_inode}
use Rattle.v7_plans.proofs.InodePut.{put-head, put-address, put-elsewhere}
use Rattle.v7_plans.proofs.Local.{Elsewhere, IsStrongFor}
use Rattle.v7_plans.proofs.Muting.{muted-addresses, muted-heads, muted-inodes}
use Rattle.v7_strokes.specs.NewNodes.{IsNewDirectory}
use Rattle.v7_strokes.proofs.Directories.{StandsDir}
use Rattle.name_plans.specs.CreatingPuts.{longer_image}
use Rattle.name_plans.specs.MakingDirectory.{EntersAtEnd}
use Rattle.name_plans.proofs.MkdirAccepted.{IsMakingDirectory}
use Rattle.name_plans.proofs.MkdirFirst.{mkdir-dir, mkdir-weak, mkdir-strong, mkdir-parent_head, mkdir-parent_walked}
use Rattle.longer_plans.specs.LongerParent.{EntersLonger, longer_parent}
use Rattle.longer_plans.proofs.LongerDirectory.{room-muted, room-room, room-lays, room-at, room-content}
use Rattle.longer_plans.proofs.Room.{HasRoom, room-placed, room-kept}

module _ (image : Image) (asked : Asked) (now p : ℕ) (name : List ℕ) (d : Node) (i : ℕ) (m : Node) (n : Inode) (target : Place → ℕ) (b1 b2 : List ℕ) (maps : List (ℕ × List ℕ)) (direct : List ℕ) (single : ℕ) (b3 : List ℕ)
    (strong : IsStrong (frame image)) (c : IsMakingDirectory (view image) asked now p name d i m) (is : IsNewDirectory image p i n m) (raised : n.generation ≡ unwrap_or (get (view image).generations i) 0 + 1)
    (p1 : PutsInode image i b1 n) (x : EntersLonger image now p name d i target b1 b2 maps direct single b3) where
  first : Image
  first = put_inode image i b1

  mid : Image
  mid = longer_image image d i target b1 b2 maps

  inner : List (ℕ × List ℕ)
  inner = (target (Body (length d.slots / 32)), b2) ∷ maps

  s : StandsDir image p d
  s = mkdir-dir image asked now p name d i m strong c

  pub parent-weak : IsWeak (frame (put_inode image i b1))
  parent-weak = mkdir-weak image asked now p name d i m strong c n is raised b1 p1

  strong_first : IsStrongFor (λ j. j ≢ i) (frame first)
  unfolding first
  strong_first = mkdir-strong image asked now p name d i m strong c n is raised b1 p1 (λ j. j ≢ i) (λ j l. l)

  size_p : ((frame first).head p).size ≡ d.size
  unfolding first
  size_p = ap (λ (h : Head). h.size) (mkdir-parent_head image asked now p name d i m strong c n is raised b1 p1) ∙ s.size

  room : HasRoom first p (length d.slots)
  unfolding first
  room =
      let long = s.long in let even = s.even in let z = size_p in record {
        weak = parent-weak;
        walked = mkdir-parent_walked image asked now p name d i m strong c n is raised b1 p1;
        end = s.long ∙ ap (λ q. q / 16) (sym size_p);
        even = ap (λ q. q % 16) size_p ∙ s.even;
        within = subst (λ q. q + 16 ≤ size_limit) (sym size_p) x.room;
        none_past = λ l lt. strong_first.none_past p l (omega arith);
      }

  none : (l : ℕ) → sectors_of ((frame first).head p).size ≤ l → (frame first).address p (Body l) ≡ 0
  none l le = strong_first.none_past p l le

  muted : AllMuted p inner first
  unfolding inner first
  muted = room-muted (put_inode image i b1) p (length d.slots) (Some (i, name)) target b2 maps direct single room none x.longer

  g : Inode
  g = longer_parent (inode_at mid p) direct single now

  head_other : (j : ℕ) → (frame mid).head j ≡ (frame first).head j
  unfolding mid first inner
  head_other j = muted-heads p inner first muted j

  head_mid : (frame mid).head p ≡ (frame first).head p
  head_mid = head_other p

  room_mid : HasRoom mid p (length d.slots)
  unfolding mid first
  room_mid = room-room (put_inode image i b1) p (length d.slots) (Some (i, name)) target b2 maps direct single room none x.longer

  at : (r : Place) → address_of mid (head_of g) r ≡ target r
  unfolding g mid first inner
  at = let e = same_inode in room-at (put_inode image i b1) p (length d.slots) (Some (i, name)) target b2 maps direct single room none x.longer g
      (ap (λ (y : Inode). y.mode) e) (ap (λ (y : Inode). y.double) e) refl refl
    where
      same_inode : inode_at mid p ≡ inode_at first p
      same_inode = muted-inodes p inner first muted p

  placed : IsPlaced mid p (head_of g)
  unfolding g mid first frame
  placed = room-placed mid p (length d.slots) g target room_mid (room-lays (put_inode image i b1) p (length d.slots) (Some (i, name)) target b2 maps direct single room none x.longer) refl refl at

  pub enters-at_end : EntersAtEnd image now p name d i (longer_parent (inode_at (longer_image image d i target b1 b2 maps) p) direct single now) b1 b3 ((target (Body (length d.slots / 32)), b2) ∷ maps)
  unfolding g mid first inner frame
  enters-at_end = record {
    full = x.full;
    muted = muted;
    longer = ap (λ z. z + 16) (ap (λ (h : Head). h.size) head_mid ∙ size_p);
    placed = placed;
    kept = λ l lt. room-kept mid p (length d.slots) g target room_mid (room-lays (put_inode image i b1) p (length d.slots) (Some (i, name)) target b2 maps direct single room none x.longer) refl refl at l
        (subst (λ q. l < sectors_of q) (sym (ap (λ (h : Head). h.size) head_mid ∙ size_p)) lt);
    content = room-content (put_inode image i b1) p (length d.slots) (Some (i, name)) target b2 maps direct single room none x.longer g (at (Body (length d.slots / 32)));
    times = refl;
    directory = x.parent;
  }

  -- ---- where blocks stand afterwards

  weak_mid : IsWeak (frame mid)
  weak_mid = room_mid.weak

  puts_p : PutsInode mid p b3 g
  unfolding mid g
  puts_p = x.parent

  last : Image
  last = put_inode mid p b3

  but : Elsewhere p (frame mid) (frame last)
  unfolding last
  but = put-elsewhere mid p b3 g weak_mid puts_p placed.mine placed.needed

  muted-sizes : (q : ℕ) (puts : List (ℕ × List ℕ)) (old : Image) → AllMuted q puts old → ((frame (put_all puts old)).isize ≡ (frame old).isize) × ((frame (put_all puts old)).fsize ≡ (frame old).fsize)
  unfolding frame
  muted-sizes q [] old h = (refl, refl)
  muted-sizes q (put ∷ puts) old h = let r = muted-sizes q puts (set old put.0 put.1) h.1 in
      (r.0 ∙ ap (λ b. field b 0 2) h.0.same_first, r.1 ∙ ap (λ b. field b 2 4) h.0.same_first)

  pub parent-own : (r : Place) → (frame (put_inode (longer_image image d i target b1 b2 maps) p b3)).address p r ≡ target r
  unfolding mid
  parent-own r = put-address mid p b3 g weak_mid puts_p placed.mine placed.needed r ∙ at r

  pub parent-others : (j : ℕ) → j ≢ p → (r : Place) → (frame (put_inode (longer_image image d i target b1 b2 maps) p b3)).address j r ≡ (frame (put_inode image i b1)).address j r
  unfolding last mid first inner
  parent-others j ne r = but.addresses j ne r ∙ muted-addresses p inner first muted j ne r

  used_p : ((frame last).head p).is_used ≡ ((frame mid).head p).is_used
  unfolding last g frame
  used_p = ap (λ (h : Head). h.is_used) (put-head mid p b3 g weak_mid puts_p placed.mine placed.needed)

  heads : (j : ℕ) → ((frame last).head j).is_used ≡ ((frame first).head j).is_used
  heads j = ⊎_elim
      (λ (e : j ≡ p). subst (λ q. ((frame last).head q).is_used ≡ ((frame first).head q).is_used) (sym e) (used_p ∙ ap (λ (h : Head). h.is_used) head_mid))
      (λ (ne : j ≢ p). ap (λ (h : Head). h.is_used) (but.heads j ne ∙ head_other j))
      (cases_eq j p)

  pub parent-used : (j : ℕ) → ((frame (put_inode (longer_image image d i target b1 b2 maps) p b3)).head j).is_used ≡ ((frame (put_inode image i b1)).head j).is_used
  unfolding last mid first
  parent-used = heads

  pub parent-sizes : ((frame (put_inode (longer_image image d i target b1 b2 maps) p b3)).isize ≡ (frame (put_inode image i b1)).isize) × ((frame (put_inode (longer_image image d i target b1 b2 maps) p b3)).fsize ≡ (frame (put_inode image i b1)).fsize)
  unfolding last mid first inner
  parent-sizes = let e = muted-sizes p inner first muted in (but.isize ∙ e.0, but.fsize ∙ e.1)
