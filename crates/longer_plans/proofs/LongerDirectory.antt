-- A directory gets longer by a slot, whatever that names: the puts before its inode, which don't show.
use Rattle.std.proofs.Common.{◌≡◌, ◌≢◌, ℕ, ◌+◌, ◌-◌, ◌*◌, ◌/◌, ◌%◌, ◌<◌, ◌≤◌, true, cond, not, ◌==◌, List, [], ◌∷◌, length, get_or, set, sym, ap, subst, ◌∙◌, arith, ⊎_elim, length-set, get_or-set_other, get_or-set_same}
use Rattle.std.proofs.lemmas.Bool.{cases_eq, cases_lt, ne_eqb}
use Rattle.v7_layout.specs.declared.inode.Inode.{Inode}
use Rattle.v7_layout.specs.Numbers.{field, part}
use Rattle.files_model.specs.Answers.{zeros}
use Rattle.files_model.specs.Files.{Slot, sectors_of}
use Rattle.files_model.specs.Space.{size_limit}
use Rattle.stable.specs.Puts.{put_all}
use Rattle.stable.specs.Store.{Image}
use Rattle.v7_map.specs.Image.{sector_at, inode_at}
use Rattle.v7_map.specs.Frame.{Frame, Head, Place, Body, Single, Double, head_of, is_directory, address_of, listed, slot_in, slot_of, frame}
use Rattle.v7_map.specs.Tree.{tree, is_walked}
use Rattle.v7_map.proofs.AnyFrame.{frame-IsFrame}
use Rattle.v7_plans.specs.Placed.{IsMine}
use Rattle.v7_plans.specs.Quiet.{IsQuiet, IsMuted, AllMuted}
use Rattle.v7_plans.proofs.Local.{held-mine}
use Rattle.v7_plans.proofs.Muting.{quiet-muted}
use Rattle.v7_sets.specs.Sets.{IsFreeBlock}
use Rattle.v7_strokes.specs.Slots.{PutsSlot}
use Rattle.v7_strokes.specs.Targets.{IsTarget}
use Rattle.v7_strokes.proofs.DirMap.{map-inodes}
use Rattle.v7_strokes.proofs.Exempt.{free-mine}
use Rattle.v7_strokes.proofs.FreeQuiet.{free-quiet}
use Rattle.v7_strokes.proofs.Longer.{end-quiet, map-muted}
use Rattle.v7_strokes.proofs.SlotStep.{walked-dir}
use Rattle.name_plans.specs.Lengthening.{MapPuts, same, changed, PutsLonger}
use Rattle.name_plans.proofs.Lengthening.{place-direct, place-listed, place-single, place-double}
use Rattle.longer_plans.proofs.Blocks.{gives-blocks}
use Rattle.longer_plans.proofs.Room.{HasRoom, room-frame}

-- ---- the puts before it

module _ (image : Image) (d k : ℕ) (s : Slot) (target : Place → ℕ) (bytes : List ℕ) (maps : List (ℕ × List ℕ)) (direct : List ℕ) (single : ℕ)
    (x : HasRoom image d k) (none : (l : ℕ) → sectors_of ((frame image).head d).size ≤ l → (frame image).address d (Body l) ≡ 0)
    (y : PutsLonger image d k s target bytes maps direct single) where
  a : ℕ
  a = target (Body (k / 32))

  first : Image
  first = set image a bytes

  dir : is_directory ((frame image).head d) ≡ true
  dir = walked-dir image d x.walked

  used : ((frame image).head d).is_used ≡ true
  used = (frame-IsFrame image).directories d dir

  -- a sector but the new one is to stand where it stands
  stays : (l : ℕ) → l ≢ k / 32 → target (Body l) ≡ (frame image).address d (Body l)
  stays l ne = ⊎_elim
      (λ (z : (frame image).address d (Body l) ≡ 0). ⊎_elim
      (λ (t : target (Body l) ≡ 0). t ∙ sym z)
      (λ (nz : target (Body l) ≢ 0). absurd (ne (y.lays.added l z nz)))
      (cases_eq (target (Body l)) 0))
      (λ (nz : (frame image).address d (Body l) ≢ 0). y.lays.kept (Body l) nz)
      (cases_eq ((frame image).address d (Body l)) 0)

  within : k / 32 < 138
  within = let e = x.end in let w = x.within in omega arith

  past : (l : ℕ) → 138 ≤ l → target (Body l) ≡ 0
  past l le = stays l (λ e. let w = within in omega arith) ∙ ⊎_elim
      (λ (z : (frame image).address d (Body l) ≡ 0). z)
      (λ (nz : (frame image).address d (Body l) ≢ 0). let w : l < 138 = ((frame-IsFrame image).places d (Body l) nz).1 in absurd (omega arith))
      (cases_eq ((frame image).address d (Body l)) 0)

  own_double : (inode_at image d).double ≡ target Double
  unfolding frame
  own_double = sym (place-double image (head_of (inode_at image d)) used) ∙ x.weak.no_double d ∙ sym y.lays.double

  -- ---- the slot's sector doesn't show

  slot-quiet : IsQuiet image (a, bytes)
  unfolding a
  slot-quiet = ⊎_elim
      (λ (z : (frame image).address d (Body (k / 32)) ≡ 0). free-quiet image (target (Body (k / 32))) bytes x.weak (y.lays.fresh (Body (k / 32)) z y.lays.held) y.slot.long)
      (λ (nz : (frame image).address d (Body (k / 32)) ≢ 0). let e = y.lays.kept (Body (k / 32)) nz in
      let below : k / 32 < sectors_of ((frame image).head d).size = ⊎_elim
      (λ (lt : k / 32 < sectors_of ((frame image).head d).size). lt)
      (λ (ge : sectors_of ((frame image).head d).size ≤ k / 32). absurd (nz (none (k / 32) ge)))
      (cases_lt (k / 32) (sectors_of ((frame image).head d).size)) in
      subst (λ b. IsQuiet image (b, bytes)) (sym e) (end-quiet image d k bytes s x.weak x.walked x.end below
      (subst (λ b. PutsSlot (sector_at image b) k bytes s) e (subst (λ b. PutsSlot (cond b zeros (sector_at image (target (Body (k / 32))))) k bytes s) (ne_eqb ((frame image).address d (Body (k / 32))) 0 nz) y.slot))))
      (cases_eq ((frame image).address d (Body (k / 32))) 0)

  frame_first : frame first ≡ frame image
  unfolding first
  frame_first = slot-quiet.same_frame

  inode_first : inode_at first d ≡ inode_at image d
  unfolding first
  inode_first = slot-quiet.same_inodes d

  content_first : sector_at first a ≡ bytes
  unfolding first
  content_first = get_or-set_same image a bytes [] slot-quiet.inside

  room_first : HasRoom first d k
  room_first = room-frame image first d k frame_first x

  lays_first : IsTarget (frame first) d (k / 32) target
  lays_first = subst (λ f. IsTarget f d (k / 32) target) (sym frame_first) y.lays

  -- what is so after the puts: they didn't show, there is still room, and the directory may have its blocks at these places
  record Ready (last : Image) : Type 0 where
    muted : AllMuted d maps first
    room : HasRoom last d k
    lays : IsTarget (frame last) d (k / 32) target
    content : sector_at last a ≡ bytes
    inode : inode_at last d ≡ inode_at image d
    lists : (l : ℕ) → 10 ≤ l → l < 138 → listed last (target Single) (l - 10) ≡ target (Body l)

  -- ---- no block of addresses changes

  module _ (reached : (frame image).address d (Body (k / 32)) ≡ 0 → k / 32 < 10) (through : target Single ≡ (frame image).address d Single) where
    lists_same : (l : ℕ) → 10 ≤ l → l < 138 → listed first (target Single) (l - 10) ≡ target (Body l)
    unfolding frame
    lists_same l ge lt =
        ap (λ b. listed first b (l - 10)) (through ∙ place-single image (head_of (inode_at image d)) used ∙ ap (λ (n : Inode). n.single) (sym inode_first))
        ∙ sym (place-listed first (head_of (inode_at first d)) (ap (λ (n : Inode). not (n.mode == 0)) inode_first ∙ used) l ge lt)
        ∙ ap (λ (f : Frame). f.address d (Body l)) frame_first ∙ ⊎_elim
        (λ (e : l ≡ k / 32). ⊎_elim
        (λ (z : (frame image).address d (Body (k / 32)) ≡ 0). let lt' = reached z in absurd (omega arith))
        (λ (nz : (frame image).address d (Body (k / 32)) ≢ 0). subst (λ q. (frame image).address d (Body q) ≡ target (Body q)) (sym e) (sym (y.lays.kept (Body (k / 32)) nz)))
        (cases_eq ((frame image).address d (Body (k / 32))) 0))
        (λ (ne : l ≢ k / 32). sym (stays l ne))
        (cases_eq l (k / 32))

  -- ---- the block of addresses changes

  module _ (m : List ℕ) (ten : 10 ≤ k / 32) (new_sector : (frame image).address d (Body (k / 32)) ≡ 0) (some : target Single ≢ 0) (long : length m ≡ 512)
      (each : (l : ℕ) → 10 ≤ l → l < 138 → field m (4 * (l - 10)) 4 ≡ target (Body l)) where
    c : ℕ
    c = target Single

    second : Image
    second = set first c m

    apart : a ≢ c
    unfolding a c
    apart e = no_place (y.lays.apart (Body (k / 32)) Single y.lays.held e)
      where
        no_place : {l : ℕ} → Body l ≡ Single → ⊥
        no_place e = cc

    dir_first : is_directory ((frame first).head d) ≡ true
    dir_first = ap (λ (f : Frame). is_directory (f.head d)) frame_first ∙ dir

    below_first : (l : ℕ) → 10 ≤ l → l < 138 → l < sectors_of ((frame first).head d).size → field m (4 * (l - 10)) 4 ≡ (frame first).address d (Body l)
    below_first l ge lt below = each l ge lt ∙ subst (λ (f : Frame). target (Body l) ≡ f.address d (Body l)) (sym frame_first)
        (y.lays.kept (Body l) (x.weak.needed d l dir (subst (λ (f : Frame). l < sectors_of (f.head d).size) frame_first below)))

    inside_c : c < length first
    unfolding c first frame
    inside_c = let l : length (set image a bytes) ≡ length image = length-set image a bytes in let w = x.weak.sizes.within in ⊎_elim
        (λ (z : (frame image).address d Single ≡ 0). let f = y.lays.fresh Single z some in let h = f.high in let r : target Single < length image = omega arith in subst (λ n. target Single < n) (sym l) r)
        (λ (nz : (frame image).address d Single ≢ 0). let h = (x.weak.data_block d Single nz).1 in let e = y.lays.kept Single nz in let r : target Single < length image = omega arith in subst (λ n. target Single < n) (sym l) r)
        (cases_eq ((frame image).address d Single) 0)

    content_c : sector_at second c ≡ m
    unfolding second
    content_c = get_or-set_same first c m [] inside_c

    content_a : sector_at second a ≡ bytes
    unfolding second
    content_a = get_or-set_other first c a m [] apart ∙ content_first

    lists : (l : ℕ) → 10 ≤ l → l < 138 → listed second (target Single) (l - 10) ≡ target (Body l)
    unfolding c
    lists l ge lt = ap (λ b. cond b 0 (field (sector_at second (target Single)) (4 * (l - 10)) 4)) (ne_eqb (target Single) 0 some)
        ∙ ap (λ b. field b (4 * (l - 10)) 4) content_c ∙ each l ge lt

    -- the block of addresses is new
    module _ (z : (frame image).address d Single ≡ 0) where
      free_c : IsFreeBlock (frame first) c
      unfolding c
      free_c = subst (λ f. IsFreeBlock f (target Single)) (sym frame_first) (y.lays.fresh Single z some)

      quiet_c : IsQuiet first (c, m)
      quiet_c = free-quiet first c m room_first.weak free_c long

      frame_new : frame second ≡ frame image
      unfolding second
      frame_new = quiet_c.same_frame ∙ frame_first

      inode_new : inode_at second d ≡ inode_at image d
      unfolding second
      inode_new = quiet_c.same_inodes d ∙ inode_first

      muted_new : IsMuted d first (c, m)
      muted_new = quiet-muted d first (c, m) room_first.weak quiet_c

    -- the block of addresses stands already
    module _ (nz : (frame image).address d Single ≢ 0) where
      is_c : (frame first).address d Single ≡ c
      unfolding c
      is_c = ap (λ (f : Frame). f.address d Single) frame_first ∙ sym (y.lays.kept Single nz)

      inode_second : inode_at second d ≡ inode_at image d
      unfolding second c
      inode_second = map-inodes first d c m room_first.weak ((frame-IsFrame first).directories d dir_first) (λ _. below_first) is_c some d ∙ inode_first

      own_direct : (l : ℕ) → l < 10 → get_or (inode_at second d).direct l 0 ≡ target (Body l)
      unfolding frame
      own_direct l lt = ap (λ (n : Inode). get_or n.direct l 0) inode_second ∙ sym (place-direct image (head_of (inode_at image d)) used l lt) ∙ sym (stays l (λ e. omega arith))

      own_single : (inode_at second d).single ≡ target Single
      unfolding frame
      own_single = ap (λ (n : Inode). n.single) inode_second ∙ sym (place-single image (head_of (inode_at image d)) used) ∙ sym (y.lays.kept Single nz)

      -- the directory has the blocks already
      at_frame : (p : Place) → (frame second).address d p ≡ target p
      unfolding frame
      at_frame = gives-blocks second (head_of (inode_at second d)) (ap (λ (n : Inode). not (n.mode == 0)) inode_second ∙ used) target own_direct own_single lists past (ap (λ (n : Inode). n.double) inode_second ∙ own_double)

      mine : (p : Place) → target p ≢ 0 → IsMine (frame first) d (target p)
      mine p some_p = subst (λ f. IsMine f d (target p)) (sym frame_first) (⊎_elim
          (λ (z : (frame image).address d p ≡ 0). free-mine (frame image) d (target p) (y.lays.fresh p z some_p))
          (λ (h : (frame image).address d p ≢ 0). subst (IsMine (frame image) d) (sym (y.lays.kept p h)) (held-mine (frame image) d p x.weak h))
          (cases_eq ((frame image).address d p) 0))

      muted_c : IsMuted d first (c, m)
      unfolding second c
      muted_c = map-muted first d c m room_first.weak dir_first below_first is_c some long
          (λ r h. subst (IsMine (frame first) d) (sym (at_frame r)) (mine r (λ z. h (at_frame r ∙ z))))
          (λ q r h e. y.lays.apart q r (λ z. h (at_frame q ∙ z)) (sym (at_frame q) ∙ e ∙ at_frame r))
          (at_frame Double ∙ y.lays.double)

      lays_second : IsTarget (frame second) d (k / 32) target
      lays_second = record {
        kept = λ p h. sym (at_frame p);
        fresh = λ p z h. absurd (h (sym (at_frame p) ∙ z));
        apart = y.lays.apart;
        held = y.lays.held;
        added = λ l z h. absurd (h (sym (at_frame (Body l)) ∙ z));
        map_needed = y.lays.map_needed;
        double = y.lays.double;
      }

      head_second : (frame second).head d ≡ (frame image).head d
      unfolding second
      head_second = muted_c.same_heads d ∙ ap (λ (f : Frame). f.head d) frame_first

      room_second : HasRoom second d k
      unfolding second first
      room_second = record {
        weak = muted_c.weak;
        walked = subst (λ t. is_walked t d ≡ true) (sym (muted_c.same_tree ∙ ap tree frame_first)) x.walked;
        end = subst (λ (h : Head). k ≡ h.size / 16) (sym head_second) x.end;
        even = subst (λ (h : Head). h.size % 16 ≡ 0) (sym head_second) x.even;
        within = subst (λ (h : Head). h.size + 16 ≤ size_limit) (sym head_second) x.within;
        none_past = λ l lt. at_frame (Body l) ∙ stays l (λ e. omega arith) ∙ x.none_past l lt;
      }

  -- ---- all of it

  ready_same : (reached : (frame image).address d (Body (k / 32)) ≡ 0 → k / 32 < 10) → target Single ≡ (frame image).address d Single → maps ≡ [] → Ready first
  ready_same reached through is = record { muted = subst (λ l. AllMuted d l first) (sym is) tt; room = room_first; lays = lays_first; content = content_first; inode = inode_first; lists = lists_same reached through }

  by_map : MapPuts (frame image) d (k / 32) target maps → Ready (put_all maps first)
  unfolding second c
  by_map (same reached through is) = subst Ready (λ z. put_all (sym is z) first) (ready_same reached through is)
  by_map (changed m ten new_sector some long each is) = ⊎_elim
      (λ (z : (frame image).address d Single ≡ 0).
      let r : Ready (second m ten new_sector some long each) = record {
        muted = subst (λ l. AllMuted d l first) (sym is) (muted_new m ten new_sector some long each z, tt);
        room = room-frame image (second m ten new_sector some long each) d k (frame_new m ten new_sector some long each z) x;
        lays = subst (λ f. IsTarget f d (k / 32) target) (sym (frame_new m ten new_sector some long each z)) y.lays;
        content = content_a m ten new_sector some long each;
        inode = inode_new m ten new_sector some long each z;
        lists = lists m ten new_sector some long each;
      } in subst Ready (λ q. put_all (sym is q) first) r)
      (λ (nz : (frame image).address d Single ≢ 0).
      let r : Ready (second m ten new_sector some long each) = record {
        muted = subst (λ l. AllMuted d l first) (sym is) (muted_c m ten new_sector some long each nz, tt);
        room = room_second m ten new_sector some long each nz;
        lays = lays_second m ten new_sector some long each nz;
        content = content_a m ten new_sector some long each;
        inode = inode_second m ten new_sector some long each nz;
        lists = lists m ten new_sector some long each;
      } in subst Ready (λ q. put_all (sym is q) first) r)
      (cases_eq ((frame image).address d Single) 0)

  pub room-muted : AllMuted d ((target (Body (k / 32)), bytes) ∷ maps) image
  unfolding first a
  room-muted = (quiet-muted d image (target (Body (k / 32)), bytes) x.weak slot-quiet, (by_map y.map).muted)

  pub room-room : HasRoom (put_all ((target (Body (k / 32)), bytes) ∷ maps) image) d k
  unfolding first a
  room-room = (by_map y.map).room

  pub room-lays : IsTarget (frame (put_all ((target (Body (k / 32)), bytes) ∷ maps) image)) d (k / 32) target
  unfolding first a
  room-lays = (by_map y.map).lays

  -- an inode of the directory with these blocks gives them
  pub room-at : (n : Inode) → n.mode ≡ (inode_at image d).mode → n.double ≡ (inode_at image d).double → n.direct ≡ direct → n.single ≡ single
      → (p : Place) → address_of (put_all ((target (Body (k / 32)), bytes) ∷ maps) image) (head_of n) p ≡ target p
  unfolding first a frame
  room-at n mode double own through = gives-blocks (put_all ((target (Body (k / 32)), bytes) ∷ maps) image) (head_of n) (ap (λ m. not (m == 0)) mode ∙ used) target
      (λ l lt. ap (λ q. get_or q l 0) own ∙ y.own l lt) (through ∙ y.through) (by_map y.map).lists past (double ∙ own_double)

  pub room-content : (n : Inode) → address_of (put_all ((target (Body (k / 32)), bytes) ∷ maps) image) (head_of n) (Body (k / 32)) ≡ target (Body (k / 32))
      → slot_in (put_all ((target (Body (k / 32)), bytes) ∷ maps) image) (head_of n) k ≡ s
  unfolding first a
  room-content n at = ap (λ b. slot_of (part (sector_at (put_all ((target (Body (k / 32)), bytes) ∷ maps) image) b) (16 * (k % 32)) 16)) at
      ∙ ap (λ b. slot_of (part b (16 * (k % 32)) 16)) (by_map y.map).content ∙ y.slot.here
