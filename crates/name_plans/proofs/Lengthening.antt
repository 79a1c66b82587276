-- A directory gets longer by a slot: puts that don't show, and an inode that makes them appear.
use Rattle.std.proofs.Common.{◌≡◌, ◌≢◌, ℕ, ◌+◌, ◌-◌, ◌*◌, ◌/◌, ◌%◌, ◌<◌, ◌≤◌, true, false, cond, not, ◌==◌, List, [], ◌∷◌, length, get_or, set, refl, sym, ap, subst, ◌∙◌, arith, ⊎_elim, ltb, length-set, get_or-set_other, get_or-set_same, Some}
use Rattle.std.proofs.lemmas.Bool.{cases_eq, cases_lt, ne_eqb}
use Rattle.v7_layout.specs.declared.inode.Inode.{Inode}
use Rattle.v7_layout.specs.Numbers.{field, part}
use Rattle.files_model.specs.Answers.{zeros}
use Rattle.files_model.specs.Files.{Slot, sectors_of}
use Rattle.files_model.specs.Space.{size_limit}
use Rattle.stable.specs.Puts.{put_all}
use Rattle.stable.specs.Store.{Image}
use Rattle.v7_map.specs.Image.{sector_at, inode_at}
use Rattle.v7_map.specs.Frame.{Frame, Head, Place, Body, Single, Double, head_of, is_directory, address_of, listed, slot_of, frame}
use Rattle.v7_map.specs.Tree.{tree, is_walked, links, is_slot_of}
use Rattle.v7_map.specs.Weak.{IsWeak}
use Rattle.v7_map.proofs.AnyFrame.{frame-IsFrame}
use Rattle.v7_plans.specs.Placed.{IsMine}
use Rattle.v7_plans.specs.Quiet.{IsQuiet, IsMuted, AllMuted}
use Rattle.v7_plans.proofs.Local.{held-mine}
use Rattle.v7_plans.proofs.Muting.{quiet-muted}
use Rattle.v7_sets.specs.Sets.{IsFreeBlock}
use Rattle.v7_strokes.specs.Inodes.{longer_inode}
use Rattle.v7_strokes.specs.Slots.{IsPlain, PutsSlot, Appends, GrowsBy}
use Rattle.v7_strokes.specs.Targets.{IsTarget}
use Rattle.v7_strokes.proofs.DirMap.{map-inodes}
use Rattle.v7_strokes.proofs.Exempt.{free-mine}
use Rattle.v7_strokes.proofs.FreeQuiet.{free-quiet}
use Rattle.v7_strokes.proofs.Longer.{end-quiet, map-muted, longer-grows}
use Rattle.v7_strokes.proofs.SlotStep.{walked-dir}
use Rattle.name_plans.specs.Lengthening.{MapPuts, same, changed, PutsLonger}

-- ---- the blocks of an inode

module _ (image : Image) (h : Head) (used : h.is_used ≡ true) where
  pub place-direct : (l : ℕ) → l < 10 → address_of image h (Body l) ≡ get_or h.direct l 0
  unfolding address_of
  place-direct l lt = let b : ltb l 10 ≡ true = grind arith in
      (λ z. cond (used z) (cond (b z) (get_or h.direct l 0) (cond (ltb l 138) (listed image h.single (l - 10)) 0)) 0)

  pub place-listed : (l : ℕ) → 10 ≤ l → l < 138 → address_of image h (Body l) ≡ listed image h.single (l - 10)
  unfolding address_of
  place-listed l ge lt = let b : ltb l 10 ≡ false = grind arith in let c : ltb l 138 ≡ true = grind arith in
      (λ z. cond (used z) (cond (b z) (get_or h.direct l 0) (cond (c z) (listed image h.single (l - 10)) 0)) 0)

  pub place-past : (l : ℕ) → 138 ≤ l → address_of image h (Body l) ≡ 0
  unfolding address_of
  place-past l le = let b : ltb l 10 ≡ false = grind arith in let c : ltb l 138 ≡ false = grind arith in
      (λ z. cond (used z) (cond (b z) (get_or h.direct l 0) (cond (c z) (listed image h.single (l - 10)) 0)) 0)

  pub place-single : address_of image h Single ≡ h.single
  unfolding address_of
  place-single = ap (λ u. cond u h.single 0) used

  pub place-double : address_of image h Double ≡ h.double
  unfolding address_of
  place-double = ap (λ u. cond u h.double 0) used

-- an inode gives these blocks, if its direct ones and its block of addresses do
module _ (image : Image) (h : Head) (used : h.is_used ≡ true) (target : Place → ℕ) (direct : (l : ℕ) → l < 10 → get_or h.direct l 0 ≡ target (Body l)) (single : h.single ≡ target Single)
    (lists : (l : ℕ) → 10 ≤ l → l < 138 → listed image (target Single) (l - 10) ≡ target (Body l)) (past : (l : ℕ) → 138 ≤ l → target (Body l) ≡ 0) (double : h.double ≡ target Double) where
  gives : (p : Place) → address_of image h p ≡ target p
  gives (Body l) = ⊎_elim
      (λ (lt : l < 10). place-direct image h used l lt ∙ direct l lt)
      (λ (ge : 10 ≤ l). ⊎_elim
      (λ (lt : l < 138). place-listed image h used l ge lt ∙ ap (λ b. listed image b (l - 10)) single ∙ lists l ge lt)
      (λ (le : 138 ≤ l). place-past image h used l le ∙ sym (past l le))
      (cases_lt l 138))
      (cases_lt l 10)
  gives Single = place-single image h used ∙ single
  gives Double = place-double image h used ∙ double

appends-frame : (old new : Image) (d k : ℕ) (s : Slot) → frame new ≡ frame old → Appends old d k s → Appends new d k s
appends-frame old new d k s e x = record {
  weak = subst IsWeak (sym e) x.weak;
  walked = subst (λ f. is_walked (tree f) d ≡ true) (sym e) x.walked;
  end = subst (λ (f : Frame). k ≡ (f.head d).size / 16) (sym e) x.end;
  even = subst (λ (f : Frame). (f.head d).size % 16 ≡ 0) (sym e) x.even;
  within = subst (λ (f : Frame). (f.head d).size + 16 ≤ size_limit) (sym e) x.within;
  none_past = subst (λ (f : Frame). (l : ℕ) → k / 32 < l → f.address d (Body l) ≡ 0) (sym e) x.none_past;
  plain = subst (λ f. IsPlain (tree f) s) (sym e) x.plain;
  used = subst (λ (f : Frame). (j : ℕ) (name : List ℕ) → s ≡ Some (j, name) → ((f.head j).is_used ≡ true) × (name ≢ [])) (sym e) x.used;
  bound = subst (λ f. (j : ℕ) → is_slot_of j s ≡ true → links (tree f) j + 1 ≤ 65535) (sym e) x.bound;
}

module _ (image : Image) (d k now : ℕ) (s : Slot) (target : Place → ℕ) (bytes : List ℕ) (maps : List (ℕ × List ℕ)) (direct : List ℕ) (single : ℕ)
    (x : Appends image d k s) (none : (l : ℕ) → sectors_of ((frame image).head d).size ≤ l → (frame image).address d (Body l) ≡ 0)
    (y : PutsLonger image d k s target bytes maps direct single) where
  a : ℕ
  a = target (Body (k / 32))

  first : Image
  first = set image a bytes

  dir : is_directory ((frame image).head d) ≡ true
  dir = walked-dir image d x.walked

  used : ((frame image).head d).is_used ≡ true
  used = (frame-IsFrame image).directories d dir

  -- ---- where the blocks are to stand

  -- a sector but the new one is to stand where it stands
  stays : (l : ℕ) → l ≢ k / 32 → target (Body l) ≡ (frame image).address d (Body l)
  stays l ne = ⊎_elim
      (λ (z : (frame image).address d (Body l) ≡ 0). ⊎_elim
      (λ (t : target (Body l) ≡ 0). t ∙ sym z)
      (λ (nz : target (Body l) ≢ 0). absurd (ne (y.lays.added l z nz)))
      (cases_eq (target (Body l)) 0))
      (λ (nz : (frame image).address d (Body l) ≢ 0). y.lays.kept (Body l) nz)
      (cases_eq ((frame image).address d (Body l)) 0)

  within : k / 32 < 138
  within = let e = x.end in let w = x.within in omega arith

  past : (l : ℕ) → 138 ≤ l → target (Body l) ≡ 0
  past l le = stays l (λ e. let w = within in omega arith) ∙ ⊎_elim
      (λ (z : (frame image).address d (Body l) ≡ 0). z)
      (λ (nz : (frame image).address d (Body l) ≢ 0). let w : l < 138 = ((frame-IsFrame image).places d (Body l) nz).1 in absurd (omega arith))
      (cases_eq ((frame image).address d (Body l)) 0)

  own_double : (inode_at image d).double ≡ target Double
  unfolding frame
  own_double = sym (place-double image (head_of (inode_at image d)) used) ∙ x.weak.no_double d ∙ sym y.lays.double

  -- ---- the slot's sector doesn't show

  slot-quiet : IsQuiet image (a, bytes)
  unfolding a
  slot-quiet = ⊎_elim
      (λ (z : (frame image).address d (Body (k / 32)) ≡ 0). free-quiet image (target (Body (k / 32))) bytes x.weak (y.lays.fresh (Body (k / 32)) z y.lays.held) y.slot.long)
      (λ (nz : (frame image).address d (Body (k / 32)) ≢ 0). let e = y.lays.kept (Body (k / 32)) nz in
      let below : k / 32 < sectors_of ((frame image).head d).size = ⊎_elim
      (λ (lt : k / 32 < sectors_of ((frame image).head d).size). lt)
      (λ (ge : sectors_of ((frame image).head d).size ≤ k / 32). absurd (nz (none (k / 32) ge)))
      (cases_lt (k / 32) (sectors_of ((frame image).head d).size)) in
      subst (λ b. IsQuiet image (b, bytes)) (sym e) (end-quiet image d k bytes s x.weak x.walked x.end below
      (subst (λ b. PutsSlot (sector_at image b) k bytes s) e (subst (λ b. PutsSlot (cond b zeros (sector_at image (target (Body (k / 32))))) k bytes s) (ne_eqb ((frame image).address d (Body (k / 32))) 0 nz) y.slot))))
      (cases_eq ((frame image).address d (Body (k / 32))) 0)

  frame_first : frame first ≡ frame image
  unfolding first
  frame_first = slot-quiet.same_frame

  inode_first : inode_at first d ≡ inode_at image d
  unfolding first
  inode_first = slot-quiet.same_inodes d

  content_first : sector_at first a ≡ bytes
  unfolding first
  content_first = get_or-set_same image a bytes [] slot-quiet.inside

  x_first : Appends first d k s
  x_first = appends-frame image first d k s frame_first x

  lays_first : IsTarget (frame first) d (k / 32) target
  lays_first = subst (λ f. IsTarget f d (k / 32) target) (sym frame_first) y.lays

  holds : slot_of (part bytes (16 * (k % 32)) 16) ≡ s
  holds = y.slot.here

  used_longer : (m : Image) → inode_at m d ≡ inode_at image d → (head_of (longer_inode (inode_at m d) direct single now)).is_used ≡ true
  unfolding frame
  used_longer m e = ap (λ (n : Inode). not (n.mode == 0)) e ∙ used

  double_longer : (m : Image) → inode_at m d ≡ inode_at image d → (head_of (longer_inode (inode_at m d) direct single now)).double ≡ target Double
  double_longer m e = ap (λ (n : Inode). n.double) e ∙ own_double

  -- ---- no block of addresses changes

  module _ (reached : (frame image).address d (Body (k / 32)) ≡ 0 → k / 32 < 10) (through : target Single ≡ (frame image).address d Single) where
    lists_same : (l : ℕ) → 10 ≤ l → l < 138 → listed first (target Single) (l - 10) ≡ target (Body l)
    unfolding frame
    lists_same l ge lt =
        ap (λ b. listed first b (l - 10)) (through ∙ place-single image (head_of (inode_at image d)) used ∙ ap (λ (n : Inode). n.single) (sym inode_first))
        ∙ sym (place-listed first (head_of (inode_at first d)) (ap (λ (n : Inode). not (n.mode == 0)) inode_first ∙ used) l ge lt)
        ∙ ap (λ (f : Frame). f.address d (Body l)) frame_first ∙ ⊎_elim
        (λ (e : l ≡ k / 32). ⊎_elim
        (λ (z : (frame image).address d (Body (k / 32)) ≡ 0). let lt' = reached z in absurd (omega arith))
        (λ (nz : (frame image).address d (Body (k / 32)) ≢ 0). subst (λ q. (frame image).address d (Body q) ≡ target (Body q)) (sym e) (sym (y.lays.kept (Body (k / 32)) nz)))
        (cases_eq ((frame image).address d (Body (k / 32))) 0))
        (λ (ne : l ≢ k / 32). sym (stays l ne))
        (cases_eq l (k / 32))

    at_same : (p : Place) → address_of first (head_of (longer_inode (inode_at first d) direct single now)) p ≡ target p
    at_same = gives first (head_of (longer_inode (inode_at first d) direct single now)) (used_longer first inode_first) target y.own y.through lists_same past (double_longer first inode_first)

    grows_same : GrowsBy first d k (longer_inode (inode_at first d) direct single now) s
    unfolding a
    grows_same = longer-grows first d k now s direct single target x_first lays_first at_same (ap (λ b. slot_of (part b (16 * (k % 32)) 16)) content_first ∙ holds)

  -- ---- the block of addresses changes

  module _ (m : List ℕ) (ten : 10 ≤ k / 32) (new_sector : (frame image).address d (Body (k / 32)) ≡ 0) (some : target Single ≢ 0) (long : length m ≡ 512)
      (each : (l : ℕ) → 10 ≤ l → l < 138 → field m (4 * (l - 10)) 4 ≡ target (Body l)) where
    c : ℕ
    c = target Single

    second : Image
    second = set first c m

    apart : a ≢ c
    unfolding a c
    apart e = no_place (y.lays.apart (Body (k / 32)) Single y.lays.held e)
      where
        no_place : {l : ℕ} → Body l ≡ Single → ⊥
        no_place e = cc

    direct_stays : (l : ℕ) → l < 10 → target (Body l) ≡ (frame first).address d (Body l)
    direct_stays l lt = stays l (λ e. omega arith) ∙ ap (λ (f : Frame). f.address d (Body l)) (sym frame_first)

    dir_first : is_directory ((frame first).head d) ≡ true
    dir_first = ap (λ (f : Frame). is_directory (f.head d)) frame_first ∙ dir

    below_first : (l : ℕ) → 10 ≤ l → l < 138 → l < sectors_of ((frame first).head d).size → field m (4 * (l - 10)) 4 ≡ (frame first).address d (Body l)
    below_first l ge lt below = each l ge lt ∙ subst (λ (f : Frame). target (Body l) ≡ f.address d (Body l)) (sym frame_first)
        (y.lays.kept (Body l) (x.weak.needed d l dir (subst (λ (f : Frame). l < sectors_of (f.head d).size) frame_first below)))

    inside_c : c < length first
    unfolding c first frame
    inside_c = let l : length (set image a bytes) ≡ length image = length-set image a bytes in let w = x.weak.sizes.within in ⊎_elim
        (λ (z : (frame image).address d Single ≡ 0). let f = y.lays.fresh Single z some in let h = f.high in let r : target Single < length image = omega arith in subst (λ n. target Single < n) (sym l) r)
        (λ (nz : (frame image).address d Single ≢ 0). let h = (x.weak.data_block d Single nz).1 in let e = y.lays.kept Single nz in let r : target Single < length image = omega arith in subst (λ n. target Single < n) (sym l) r)
        (cases_eq ((frame image).address d Single) 0)

    content_c : sector_at second c ≡ m
    unfolding second
    content_c = get_or-set_same first c m [] inside_c

    content_a : sector_at second a ≡ bytes
    unfolding second
    content_a = get_or-set_other first c a m [] apart ∙ content_first

    lists : (l : ℕ) → 10 ≤ l → l < 138 → listed second (target Single) (l - 10) ≡ target (Body l)
    unfolding c
    lists l ge lt = ap (λ b. cond b 0 (field (sector_at second (target Single)) (4 * (l - 10)) 4)) (ne_eqb (target Single) 0 some)
        ∙ ap (λ b. field b (4 * (l - 10)) 4) content_c ∙ each l ge lt

    -- the block of addresses is new
    module _ (z : (frame image).address d Single ≡ 0) where
      free_c : IsFreeBlock (frame first) c
      unfolding c
      free_c = subst (λ f. IsFreeBlock f (target Single)) (sym frame_first) (y.lays.fresh Single z some)

      quiet_c : IsQuiet first (c, m)
      quiet_c = free-quiet first c m x_first.weak free_c long

      frame_new : frame second ≡ frame image
      unfolding second
      frame_new = quiet_c.same_frame ∙ frame_first

      inode_new : inode_at second d ≡ inode_at image d
      unfolding second
      inode_new = quiet_c.same_inodes d ∙ inode_first

      at_new : (p : Place) → address_of second (head_of (longer_inode (inode_at second d) direct single now)) p ≡ target p
      at_new = gives second (head_of (longer_inode (inode_at second d) direct single now)) (used_longer second inode_new) target y.own y.through lists past (double_longer second inode_new)

      grows_new : GrowsBy second d k (longer_inode (inode_at second d) direct single now) s
      unfolding a
      grows_new = longer-grows second d k now s direct single target (appends-frame image second d k s frame_new x) (subst (λ f. IsTarget f d (k / 32) target) (sym frame_new) y.lays) at_new
          (ap (λ b. slot_of (part b (16 * (k % 32)) 16)) content_a ∙ holds)

      muted_new : IsMuted d first (c, m)
      muted_new = quiet-muted d first (c, m) x_first.weak quiet_c

    -- the block of addresses stands already
    module _ (nz : (frame image).address d Single ≢ 0) where
      is_c : (frame first).address d Single ≡ c
      unfolding c
      is_c = ap (λ (f : Frame). f.address d Single) frame_first ∙ sym (y.lays.kept Single nz)

      inode_second : inode_at second d ≡ inode_at image d
      unfolding second c
      inode_second = map-inodes first d c m x_first.weak ((frame-IsFrame first).directories d dir_first) (λ _. below_first) is_c some d ∙ inode_first

      own_direct : (l : ℕ) → l < 10 → get_or (inode_at second d).direct l 0 ≡ target (Body l)
      unfolding frame
      own_direct l lt = ap (λ (n : Inode). get_or n.direct l 0) inode_second ∙ sym (place-direct image (head_of (inode_at image d)) used l lt) ∙ sym (stays l (λ e. omega arith))

      own_single : (inode_at second d).single ≡ target Single
      unfolding frame
      own_single = ap (λ (n : Inode). n.single) inode_second ∙ sym (place-single image (head_of (inode_at image d)) used) ∙ sym (y.lays.kept Single nz)

      -- the directory has the blocks already
      at_frame : (p : Place) → (frame second).address d p ≡ target p
      unfolding frame
      at_frame = gives second (head_of (inode_at second d)) (ap (λ (n : Inode). not (n.mode == 0)) inode_second ∙ used) target own_direct own_single lists past (double_longer second inode_second)

      mine : (p : Place) → target p ≢ 0 → IsMine (frame first) d (target p)
      mine p some_p = subst (λ f. IsMine f d (target p)) (sym frame_first) (⊎_elim
          (λ (z : (frame image).address d p ≡ 0). free-mine (frame image) d (target p) (y.lays.fresh p z some_p))
          (λ (h : (frame image).address d p ≢ 0). subst (IsMine (frame image) d) (sym (y.lays.kept p h)) (held-mine (frame image) d p x.weak h))
          (cases_eq ((frame image).address d p) 0))

      muted_c : IsMuted d first (c, m)
      unfolding second c
      muted_c = map-muted first d c m x_first.weak dir_first below_first is_c some long
          (λ r h. subst (IsMine (frame first) d) (sym (at_frame r)) (mine r (λ z. h (at_frame r ∙ z))))
          (λ q r h e. y.lays.apart q r (λ z. h (at_frame q ∙ z)) (sym (at_frame q) ∙ e ∙ at_frame r))
          (at_frame Double ∙ y.lays.double)

      lays_second : IsTarget (frame second) d (k / 32) target
      lays_second = record {
        kept = λ p h. sym (at_frame p);
        fresh = λ p z h. absurd (h (sym (at_frame p) ∙ z));
        apart = y.lays.apart;
        held = y.lays.held;
        added = λ l z h. absurd (h (sym (at_frame (Body l)) ∙ z));
        map_needed = y.lays.map_needed;
        double = y.lays.double;
      }

      head_second : (j : ℕ) → (frame second).head j ≡ (frame image).head j
      unfolding second
      head_second j = muted_c.same_heads j ∙ ap (λ (f : Frame). f.head j) frame_first

      tree_second : tree (frame second) ≡ tree (frame image)
      unfolding second
      tree_second = muted_c.same_tree ∙ ap tree frame_first

      x_second : Appends second d k s
      unfolding second first
      x_second = record {
        weak = muted_c.weak;
        walked = subst (λ t. is_walked t d ≡ true) (sym tree_second) x.walked;
        end = subst (λ (h : Head). k ≡ h.size / 16) (sym (head_second d)) x.end;
        even = subst (λ (h : Head). h.size % 16 ≡ 0) (sym (head_second d)) x.even;
        within = subst (λ (h : Head). h.size + 16 ≤ size_limit) (sym (head_second d)) x.within;
        none_past = λ l lt. at_frame (Body l) ∙ stays l (λ e. omega arith) ∙ x.none_past l lt;
        plain = subst (λ t. IsPlain t s) (sym tree_second) x.plain;
        used = λ j name e. (ap (λ (h : Head). h.is_used) (head_second j) ∙ (x.used j name e).0, (x.used j name e).1);
        bound = λ j e. subst (λ t. links t j + 1 ≤ 65535) (sym tree_second) (x.bound j e);
      }

      at_second : (p : Place) → address_of second (head_of (longer_inode (inode_at second d) direct single now)) p ≡ target p
      at_second = gives second (head_of (longer_inode (inode_at second d) direct single now)) (used_longer second inode_second) target y.own y.through lists past (double_longer second inode_second)

      grows_second : GrowsBy second d k (longer_inode (inode_at second d) direct single now) s
      unfolding a
      grows_second = longer-grows second d k now s direct single target x_second lays_second at_second (ap (λ b. slot_of (part b (16 * (k % 32)) 16)) content_a ∙ holds)

  -- ---- all of it

  record Longer (last : Image) : Type 0 where
    muted : AllMuted d maps first
    grows : GrowsBy last d k (longer_inode (inode_at last d) direct single now) s
    at : (p : Place) → address_of last (head_of (longer_inode (inode_at last d) direct single now)) p ≡ target p

  longer_of : (first' last : Image) → AllMuted d maps first' → first' ≡ first → last ≡ put_all maps first → GrowsBy last d k (longer_inode (inode_at last d) direct single now) s
      → ((p : Place) → address_of last (head_of (longer_inode (inode_at last d) direct single now)) p ≡ target p) → Longer (put_all maps first)
  longer_of first' last muted f l g t = record {
    muted = subst (AllMuted d maps) f muted;
    grows = subst (λ m. GrowsBy m d k (longer_inode (inode_at m d) direct single now) s) l g;
    at = subst (λ m. (p : Place) → address_of m (head_of (longer_inode (inode_at m d) direct single now)) p ≡ target p) l t;
  }

  by_map : MapPuts (frame image) d (k / 32) target maps → Longer (put_all maps first)
  unfolding second c
  by_map (same reached through is) = longer_of first first (subst (λ l. AllMuted d l first) (sym is) tt) refl (λ z. put_all (sym is z) first) (grows_same reached through) (at_same reached through)
  by_map (changed m ten new_sector some long each is) = ⊎_elim
      (λ (z : (frame image).address d Single ≡ 0). longer_of first (second m ten new_sector some long each) (subst (λ l. AllMuted d l first) (sym is) (muted_new m ten new_sector some long each z, tt)) refl
      (λ q. put_all (sym is q) first) (grows_new m ten new_sector some long each z) (at_new m ten new_sector some long each z))
      (λ (nz : (frame image).address d Single ≢ 0). longer_of first (second m ten new_sector some long each) (subst (λ l. AllMuted d l first) (sym is) (muted_c m ten new_sector some long each nz, tt)) refl
      (λ q. put_all (sym is q) first) (grows_second m ten new_sector some long each nz) (at_second m ten new_sector some long each nz))
      (cases_eq ((frame image).address d Single) 0)

  pub longer-muted : AllMuted d ((target (Body (k / 32)), bytes) ∷ maps) image
  unfolding first a
  longer-muted = (quiet-muted d image (target (Body (k / 32)), bytes) x.weak slot-quiet, (by_map y.map).muted)

  pub longer-grown : GrowsBy (put_all ((target (Body (k / 32)), bytes) ∷ maps) image) d k (longer_inode (inode_at (put_all ((target (Body (k / 32)), bytes) ∷ maps) image) d) direct single now) s
  unfolding first a
  longer-grown = (by_map y.map).grows

  pub longer-at : (p : Place) → address_of (put_all ((target (Body (k / 32)), bytes) ∷ maps) image) (head_of (longer_inode (inode_at (put_all ((target (Body (k / 32)), bytes) ∷ maps) image) d) direct single now)) p ≡ target p
  unfolding first a
  longer-at = (by_map y.map).at
