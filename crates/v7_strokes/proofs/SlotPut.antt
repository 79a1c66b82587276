-- A put of a sector of a directory: the slots of that directory change, and the rest stays.
use Rattle.std.proofs.Common.{◌≡◌, ◌≢◌, ℕ, zero, suc, ◌+◌, ◌-◌, ◌*◌, ◌/◌, ◌%◌, ◌<◌, ◌≤◌, Bool, true, false, cond, List, [], map, length, get_or, set, refl, sym, ap, subst, ◌∙◌, arith, ⊎_elim, eqb, length-set, get_or-set_other, get_or-set_same, Some, None}
use Rattle.std.proofs.lemmas.Bool.{cases_eq, cases_lt}
use Rattle.std.proofs.lemmas.List.FromFn.{get_or-map-range_with_len, length-map-range_with_len}
use Rattle.std.specs.List.{range_with_len}
use Rattle.std.specs.FinMap.{empty}
use Rattle.v7_layout.specs.Numbers.{field, part}
use Rattle.files_model.specs.Files.{clipped, sectors_of, Slot, tabulated}
use Rattle.files_model.proofs.Maps.{tabulated_same}
use Rattle.stable.specs.Store.{Image}
use Rattle.v7_map.specs.Image.{sector_at, isize_of, inode_at, is_read_only}
use Rattle.v7_map.specs.Frame.{Place, Body, IsMap, head_of, is_directory, address_of, slots_of, slot_in, slot_of, frame}
use Rattle.v7_map.specs.Tree.{is_slot_of, tree}
use Rattle.v7_map.specs.Weak.{IsWeak, slot_at}
use Rattle.v7_strokes.specs.Slots.{SlotChange, PutsSlot}
use Rattle.v7_map.specs.View.{view, files_of, body_of, body_at, held}
use Rattle.v7_map.proofs.Frames.{same_places, same_slots_of, map_range_same}
use Rattle.v7_map.proofs.Data.{same_inode}

pub past_range : (f : ℕ → Slot) (a n l : ℕ) → n ≤ l → get_or (map f (range_with_len a n)) l None ≡ None
past_range f a zero l h = refl
past_range f a (suc n) zero h = absurd (omega arith)
past_range f a (suc n) (suc l) h = past_range f (a + 1) n l (omega arith)

module _ (old : Image) (d k a : ℕ) (bytes : List ℕ) (s : Slot) (weak : IsWeak (frame old)) (dir : is_directory ((frame old).head d) ≡ true)
    (below : k / 32 < sectors_of ((frame old).head d).size) (is : (frame old).address d (Body (k / 32)) ≡ a) (puts : PutsSlot (sector_at old a) k bytes s) where
  new : Image
  new = set old a bytes

  held_sector : (frame old).address d (Body (k / 32)) ≢ 0
  held_sector = weak.needed d (k / 32) dir below

  data_block : (isize_of old ≤ a) × (3 ≤ isize_of old) × (a < length old)
  unfolding frame
  data_block =
      let b = weak.data_block d (Body (k / 32)) held_sector in
      let within = weak.sizes.within in
      (subst (λ b. isize_of old ≤ b) is b.0, weak.sizes.low, (let h : a < (frame old).fsize = subst (λ b. b < (frame old).fsize) is b.1 in omega arith))

  below_same : (t : ℕ) → t < isize_of old → sector_at new t ≡ sector_at old t
  unfolding new
  below_same t h = let b = data_block in get_or-set_other old a t bytes [] (let low : isize_of old ≤ a = b.0 in λ e. omega arith)

  first : sector_at new 1 ≡ sector_at old 1
  first = let b = data_block in let low : 3 ≤ isize_of old = b.1 in below_same 1 (omega arith)

  inodes_same : (j : ℕ) → inode_at new j ≡ inode_at old j
  inodes_same j = same_inode old new first (λ t _ lt. below_same t lt) j

  elsewhere : (j : ℕ) (p : Place) → (frame old).address j p ≢ 0 → ((d ≡ j) × (Body (k / 32) ≡ p) → ⊥) → sector_at new ((frame old).address j p) ≡ sector_at old ((frame old).address j p)
  unfolding new
  elsewhere j p nonzero other = get_or-set_other old a ((frame old).address j p) bytes [] (λ e.
      other (weak.unshared d j (Body (k / 32)) p held_sector (is ∙ sym e)))

  addresses_same : (j : ℕ) (p : Place) → address_of new (head_of (inode_at new j)) p ≡ address_of old (head_of (inode_at old j)) p
  unfolding frame
  addresses_same j p = ap (λ m. address_of new (head_of m) p) (inodes_same j) ∙ same_places old new (head_of (inode_at old j)) (λ q m nonzero. elsewhere j q nonzero (λ e. subst IsMap (sym e.1) m)) p

  -- all but the slots
  pub slot-frame : frame (set old a bytes) ≡ record (frame old) { slots = (frame (set old a bytes)).slots }
  unfolding frame new
  slot-frame z = record {
    sectors = length-set old a bytes z;
    mark = field (first z) 440 4;
    isize = field (first z) 0 2;
    fsize = field (first z) 2 4;
    head = λ j. head_of (inodes_same j z);
    address = λ j p. addresses_same j p z;
    slots = (frame (set old a bytes)).slots;
  }

  pub slot-slots_other : (j : ℕ) → j ≢ d → (frame (set old a bytes)).slots j ≡ (frame old).slots j
  unfolding frame new
  slot-slots_other j ne = ap (λ m. slots_of new (head_of m)) (inodes_same j)
      ∙ same_slots_of old new (head_of (inode_at old j)) (same_places old new (head_of (inode_at old j)) (λ q m nonzero. elsewhere j q nonzero (λ e. subst IsMap (sym e.1) m)))
      (λ directory q lt. elsewhere j (Body q) (weak.needed j q directory lt) (λ e. ne (sym e.0)))

  count : ℕ
  count = ((frame old).head d).size / 16

  slots_new : (frame new).slots d ≡ map (slot_in new ((frame old).head d)) (range_with_len 0 count)
  unfolding frame slots_of count
  slots_new = ap (λ m. slots_of new (head_of m)) (inodes_same d) ∙ ap (λ b. cond b (map (slot_in new (head_of (inode_at old d))) (range_with_len 0 ((inode_at old d).size / 16))) []) dir

  slots_old : (frame old).slots d ≡ map (slot_in old ((frame old).head d)) (range_with_len 0 count)
  unfolding frame slots_of count
  slots_old = ap (λ b. cond b (map (slot_in old (head_of (inode_at old d))) (range_with_len 0 ((inode_at old d).size / 16))) []) dir

  place_same : (l : ℕ) → slot_in new ((frame old).head d) l ≡ slot_of (part (sector_at new ((frame old).address d (Body (l / 32)))) (16 * (l % 32)) 16)
  unfolding frame
  place_same l = ap (λ b. slot_of (part (sector_at new b) (16 * (l % 32)) 16)) (same_places old new (head_of (inode_at old d)) (λ q m nonzero. elsewhere d q nonzero (λ e. subst IsMap (sym e.1) m)) (Body (l / 32)))

  place_old : (l : ℕ) → slot_in old ((frame old).head d) l ≡ slot_of (part (sector_at old ((frame old).address d (Body (l / 32)))) (16 * (l % 32)) 16)
  unfolding frame
  place_old l = refl

  here : sector_at new a ≡ bytes
  unfolding new
  here = let b = data_block in get_or-set_same old a bytes [] b.2

  slot_same : (l : ℕ) → l < count → l ≢ k → slot_in new ((frame old).head d) l ≡ slot_in old ((frame old).head d) l
  unfolding count
  slot_same l lt ne = place_same l ∙ ⊎_elim
      (λ (e : l / 32 ≡ k / 32).
      (λ z. slot_of (part (sector_at new ((ap (λ q. (frame old).address d (Body q)) e ∙ is) z)) (16 * (l % 32)) 16)) ∙ ap (λ b. slot_of (part b (16 * (l % 32)) 16)) here ∙ puts.others l ne e
      ∙ (λ z. slot_of (part (sector_at old (sym (ap (λ q. (frame old).address d (Body q)) e ∙ is) z)) (16 * (l % 32)) 16)))
      (λ (other : l / 32 ≢ k / 32). ap (λ b. slot_of (part b (16 * (l % 32)) 16)) (elsewhere d (Body (l / 32)) (weak.needed d (l / 32) dir (omega arith)) (λ e. other (number e.1))))
      (cases_eq (l / 32) (k / 32)) ∙ sym (place_old l)
    where
      number : {p q : ℕ} → Body p ≡ Body q → q ≡ p
      number e = cc

  slot_here : slot_in new ((frame old).head d) k ≡ s
  slot_here = place_same k ∙ (λ z. slot_of (part (sector_at new (is z)) (16 * (k % 32)) 16)) ∙ ap (λ b. slot_of (part b (16 * (k % 32)) 16)) here ∙ puts.here

  pub slot-here : k < ((frame old).head d).size / 16 → slot_at (tree (frame (set old a bytes))) d k ≡ s
  unfolding new count
  slot-here inside = ap (λ l. get_or l k None) slots_new ∙ get_or-map-range_with_len (slot_in new ((frame old).head d)) 0 count k k None inside (omega arith) ∙ slot_here

  pub slot_rest : (l : ℕ) → l ≢ k → slot_at (tree (frame (set old a bytes))) d l ≡ slot_at (tree (frame old)) d l
  unfolding new
  slot_rest l ne = ⊎_elim
      (λ (lt : l < count). ap (λ q. get_or q l None) slots_new ∙ get_or-map-range_with_len (slot_in new ((frame old).head d)) 0 count l l None lt (omega arith) ∙ slot_same l lt ne
      ∙ sym (get_or-map-range_with_len (slot_in old ((frame old).head d)) 0 count l l None lt (omega arith)) ∙ ap (λ q. get_or q l None) (sym slots_old))
      (λ (ge : count ≤ l). ap (λ q. get_or q l None) slots_new ∙ past_range (slot_in new ((frame old).head d)) 0 count l ge ∙ sym (past_range (slot_in old ((frame old).head d)) 0 count l ge) ∙ ap (λ q. get_or q l None) (sym slots_old))
      (cases_lt l count)

  pub slot-change : k < ((frame old).head d).size / 16 → 2 ≤ k → ((j : ℕ) → (tree (frame old)).is_dir j ≡ true → is_slot_of j (slot_at (tree (frame old)) d k) ≡ is_slot_of j s)
      → SlotChange (tree (frame old)) (tree (record (frame old) { slots = (frame (set old a bytes)).slots })) d k
  unfolding new
  slot-change inside past alike = record {
    inodes = refl;
    dirs = λ j. refl;
    others = slot-slots_other;
    rest = slot_rest;
    past = past;
    alike = λ j dir'. alike j dir' ∙ ap (is_slot_of j) (sym (slot-here inside));
  }

  same_body : (j : ℕ) → body_at new (frame old) j ≡ body_at old (frame old) j
  unfolding body_of new
  same_body j = by_dir (is_directory ((frame old).head j)) refl
    where
      by_dir : (b : Bool) → is_directory ((frame old).head j) ≡ b → cond b empty (tabulated (λ q. held (set old a bytes) ((frame old).head j).size q ((frame old).address j (Body q))) (sectors_of ((frame old).head j).size))
          ≡ cond b empty (tabulated (λ q. held old ((frame old).head j).size q ((frame old).address j (Body q))) (sectors_of ((frame old).head j).size))
      by_dir true e = refl
      by_dir false e = tabulated_same _ _ _ (λ q lt. ⊎_elim
          (λ (z : (frame old).address j (Body q) ≡ 0). subst (λ b. held (set old a bytes) ((frame old).head j).size q b ≡ held old ((frame old).head j).size q b) (sym z) refl)
          (λ (nz : (frame old).address j (Body q) ≢ 0). ap (λ t. cond (eqb ((frame old).address j (Body q)) 0) None (Some (clipped ((frame old).head j).size q t)))
          (elsewhere j (Body q) nz (λ w. let yes : is_directory ((frame old).head j) ≡ true = subst (λ z. is_directory ((frame old).head z) ≡ true) w.0 dir in cc)))
          (cases_eq ((frame old).address j (Body q)) 0))

  -- the view is that of the new tree over the same inodes and bodies
  pub slot-view : view (set old a bytes) ≡ files_of (tree (record (frame old) { slots = (frame (set old a bytes)).slots })) ((frame old).fsize - (frame old).isize) (inode_at old) (body_at old (frame old)) (is_read_only (sector_at old 1))
  unfolding view new
  slot-view =
      (λ z. files_of (tree (slot-frame z)) ((slot-frame z).fsize - (slot-frame z).isize) (λ j. inodes_same j z) (body_at new (slot-frame z)) (is_read_only (first z)))
      ∙ (λ z. files_of (tree (record (frame old) { slots = (frame (set old a bytes)).slots })) ((frame old).fsize - (frame old).isize) (inode_at old) (λ j. same_body j z) (is_read_only (sector_at old 1)))

  pub slot-length : (length ((frame (set old a bytes)).slots d) ≡ ((frame old).head d).size / 16) × (length ((frame old).slots d) ≡ ((frame old).head d).size / 16)
  unfolding new count
  slot-length = (ap length slots_new ∙ length-map-range_with_len (slot_in new ((frame old).head d)) 0 count, ap length slots_old ∙ length-map-range_with_len (slot_in old ((frame old).head d)) 0 count)

  pub slot-first : sector_at (set old a bytes) 1 ≡ sector_at old 1
  unfolding new
  slot-first = first

  pub slot-inodes : (j : ℕ) → inode_at (set old a bytes) j ≡ inode_at old j
  unfolding new
  slot-inodes = inodes_same

  pub slot-bodies : (j : ℕ) → body_at (set old a bytes) (frame (set old a bytes)) j ≡ body_at old (frame old) j
  unfolding new
  slot-bodies j = (λ z. body_of (set old a bytes) ((slot-frame z).head j) ((slot-frame z).address j)) ∙ same_body j

  -- slots past the size aren't seen: nothing changes
  module _ (outside : ((frame old).head d).size / 16 ≤ k) where
    same_slots : (frame new).slots d ≡ (frame old).slots d
    unfolding count
    same_slots = slots_new ∙ map_range_same (slot_in new ((frame old).head d)) (slot_in old ((frame old).head d)) 0 count (λ l lt. let lt' : l < count = omega arith in slot_same l (omega arith) (λ e. omega arith)) ∙ sym slots_old

    all_slots : (j : ℕ) → (frame new).slots j ≡ (frame old).slots j
    unfolding new
    all_slots j = ⊎_elim (λ (e : j ≡ d). subst (λ z. (frame (set old a bytes)).slots z ≡ (frame old).slots z) (sym e) same_slots) (λ (ne : j ≢ d). slot-slots_other j ne) (cases_eq j d)

    pub past-frame : frame (set old a bytes) ≡ frame old
    unfolding new
    past-frame = slot-frame ∙ (λ z. record (frame old) { slots = λ j. all_slots j z })

    pub past-first : sector_at (set old a bytes) 1 ≡ sector_at old 1
    unfolding new
    past-first = first

    pub past-inodes : (j : ℕ) → inode_at (set old a bytes) j ≡ inode_at old j
    unfolding new
    past-inodes = inodes_same

    pub past-bodies : (j : ℕ) → body_at (set old a bytes) (frame (set old a bytes)) j ≡ body_at old (frame old) j
    unfolding new
    past-bodies j = ap (λ f. body_at (set old a bytes) f j) past-frame ∙ same_body j
