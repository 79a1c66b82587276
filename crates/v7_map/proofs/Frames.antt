-- Which writes keep the frame of an image.
use Rattle.std.proofs.Common.{◌≡◌, ◌≢◌, ℕ, zero, suc, ◌+◌, ◌-◌, ◌*◌, ◌/◌, ◌%◌, ◌<◌, Bool, true, false, cond, ◌&&◌, [], ◌∷◌, map, length, get_or, refl, sym, ap, subst, ◌∙◌, arith, eqb, ltb}
use Rattle.std.specs.List.{range_with_len}
use Rattle.v7_layout.specs.Numbers.{part, field}
use Rattle.files_model.specs.Files.{sectors_of}
use Rattle.stable.specs.Store.{Image}
use Rattle.v7_map.specs.Image.{sector_at, inode_at}
use Rattle.v7_map.specs.Frame.{Head, Place, Body, Single, Double, IsMap, address_of, slot_of, head_of, is_directory, frame, slot_in, slots_of}

pub cond_same : {A : Type 0} (b : Bool) (x y z : A) → (b ≡ true → x ≡ y) → cond b x z ≡ cond b y z
cond_same true x y z h = h refl
cond_same false x y z h = refl

pub and_left : (a b : Bool) → (a && b) ≡ true → a ≡ true
and_left true b e = refl
and_left false b e = e

pub and_right : (a b : Bool) → (a && b) ≡ true → b ≡ true
and_right true b e = e
and_right false b e = absurd (cc)

pub map_range_same : {X : Type 0} (f g : ℕ → X) (a n : ℕ) → ((k : ℕ) → k < a + n → f k ≡ g k) → map f (range_with_len a n) ≡ map g (range_with_len a n)
map_range_same f g a zero h = refl
map_range_same f g a (suc n) h = λ i. h a (omega arith) i ∷ map_range_same f g (a + 1) n (λ k lt. h k (omega arith)) i

-- What is read to find things stays: sector 1, the inodes but for what frames put aside, the indirect blocks, and the sectors of directories.
pub record KeepsFrame (old new : Image) : Type 0 where
  pub length : length new ≡ length old
  pub first : sector_at new 1 ≡ sector_at old 1
  pub heads : (i : ℕ) → head_of (inode_at new i) ≡ head_of (inode_at old i)
  pub maps : (i : ℕ) (p : Place) → IsMap p → (frame old).address i p ≢ 0 → sector_at new ((frame old).address i p) ≡ sector_at old ((frame old).address i p)
  pub directories : (i k : ℕ) → is_directory ((frame old).head i) ≡ true → k < sectors_of ((frame old).head i).size
      → sector_at new ((frame old).address i (Body k)) ≡ sector_at old ((frame old).address i (Body k))

zero_or : (block : ℕ) (x y : ℕ) → (block ≢ 0 → x ≡ y) → cond (eqb block 0) 0 x ≡ cond (eqb block 0) 0 y
zero_or block x y h = elim (eqb block 0) as (λ b. eqb block 0 ≡ b → cond b 0 x ≡ cond b 0 y) [ true ↦ λ e. refl | false ↦ λ e. h (λ z. let yes : eqb 0 0 ≡ false = subst (λ q. eqb q 0 ≡ false) z e in cc) ] refl

module _ (old new : Image) where
  -- an inode's places have the same blocks where its blocks of addresses stay
  pub same_places : (h : Head) → ((p : Place) → IsMap p → address_of old h p ≢ 0 → sector_at new (address_of old h p) ≡ sector_at old (address_of old h p)) → (p : Place) → address_of new h p ≡ address_of old h p
  unfolding address_of
  same_places h maps (Body k) = cond_same h.is_used _ _ 0 (λ used. ap (cond (ltb k 10) (get_or h.direct k 0)) (cond_same (ltb k 138) _ _ 0 (λ in'.
      zero_or h.single _ _ (λ nonzero. ap (λ bytes. field bytes (4 * (k - 10)) 4)
      (let is : cond h.is_used h.single 0 ≡ h.single = ap (λ b. cond b h.single 0) used in
      subst (λ a. sector_at new a ≡ sector_at old a) is (maps Single tt (λ z. nonzero (sym is ∙ z))))))))
  same_places h maps Single = refl
  same_places h maps Double = refl

  -- a directory's slots stay where its sectors do
  pub same_slots_of : (h : Head) → ((p : Place) → address_of new h p ≡ address_of old h p)
      → (is_directory h ≡ true → (k : ℕ) → k < sectors_of h.size → sector_at new (address_of old h (Body k)) ≡ sector_at old (address_of old h (Body k)))
      → slots_of new h ≡ slots_of old h
  unfolding slots_of
  same_slots_of h places sectors = cond_same (is_directory h) _ _ [] (λ d. map_range_same (slot_in new h) (slot_in old h) 0 (h.size / 16) (λ k lt.
      ap (λ a. slot_of (part (sector_at new a) (16 * (k % 32)) 16)) (places (Body (k / 32)))
      ∙ ap (λ bytes. slot_of (part bytes (16 * (k % 32)) 16)) (sectors d (k / 32) (omega arith))))

-- what is no directory has no slots
pub no_slots : (image : Image) (h : Head) → is_directory h ≡ false → slots_of image h ≡ []
unfolding slots_of
no_slots image h e = ap (λ b. cond b (map (slot_in image h) (range_with_len 0 (h.size / 16))) []) e

module _ (old new : Image) (keeps : KeepsFrame old new) where
  same_address : (i : ℕ) (p : Place) → address_of new (head_of (inode_at new i)) p ≡ address_of old (head_of (inode_at old i)) p
  unfolding frame
  same_address i p = ap (λ h. address_of new h p) (keeps.heads i) ∙ same_places old new (head_of (inode_at old i)) (keeps.maps i) p

  same_slots : (i : ℕ) → slots_of new (head_of (inode_at new i)) ≡ slots_of old (head_of (inode_at old i))
  unfolding frame
  same_slots i = ap (slots_of new) (keeps.heads i) ∙ same_slots_of old new (head_of (inode_at old i)) (same_places old new (head_of (inode_at old i)) (keeps.maps i)) (λ d k lt. keeps.directories i k d lt)

  pub same_frame : frame new ≡ frame old
  unfolding frame
  same_frame z = record {
    sectors = keeps.length z;
    mark = field (keeps.first z) 440 4;
    isize = field (keeps.first z) 0 2;
    fsize = field (keeps.first z) 2 4;
    head = λ i. keeps.heads i z;
    address = λ i p. same_address i p z;
    slots = λ i. same_slots i z;
  }
