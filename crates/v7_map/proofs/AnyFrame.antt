-- What holds of the frame of any image.
use Rattle.std.proofs.Common.{◌≡◌, ◌≢◌, ℕ, ◌+◌, ◌-◌, ◌*◌, ◌/◌, ◌%◌, ◌<◌, ◌≤◌, Bool, true, false, cond, not, [], get_or, refl, ap, subst, ◌∙◌, arith, ⊎_elim, ltb, ◌==◌, eq-eqb}
use Rattle.std.proofs.lemmas.Bool.{cases_lt, cases_Bool, leb-true, eqb-true, ne_eqb, le-ltb}
use Rattle.v7_layout.specs.Numbers.{part, field}
use Rattle.v7_layout.specs.Records.{inode_of}
use Rattle.stable.specs.Store.{Image}
use Rattle.v7_map.specs.Image.{sector_at, inode_at, is_inode, isize_of}
use Rattle.v7_map.specs.Frame.{IsFrame, CanHold, Head, Place, Body, Single, Double, head_of, place_of, address_of, frame}
use Rattle.v7_map.proofs.Frames.{and_left, and_right, cond_same}

free_outside : (image : Image) (i : ℕ) → is_inode image i ≡ false → (inode_at image i).mode ≡ 0
unfolding inode_at inode_of field part
free_outside image i e = ap (λ b. (cond b (inode_of (part (sector_at image (2 + (i - 1) / 8)) (64 * ((i - 1) % 8)) 64)) (inode_of [])).mode) e

used_mode : (mode : ℕ) → not (mode == 0) ≡ true → mode ≢ 0
used_mode mode e z = let yes : (mode == 0) ≡ true = eq-eqb mode 0 z in clash (mode == 0) yes e
  where
    clash : (b : Bool) → b ≡ true → not b ≡ true → ⊥
    clash true t u = cc
    clash false t u = cc

cond_both : (b : Bool) (x : ℕ) → cond b x x ≡ x
cond_both true x = refl
cond_both false x = refl

pub frame-IsFrame : (image : Image) → IsFrame (frame image)
unfolding frame address_of
frame-IsFrame image = record {
  numbers = λ i used. ⊎_elim
      (λ (yes : is_inode image i ≡ true). (leb-true 1 i (and_left _ _ yes), leb-true i ((isize_of image - 2) * 8) (and_right _ _ yes)))
      (λ (no : is_inode image i ≡ false). absurd (used_mode (inode_at image i).mode used (free_outside image i no)))
      (cases_Bool (is_inode image i));
  directories = λ i dir. let four : (inode_at image i).mode / 4096 ≡ 4 = eqb-true _ 4 dir in
      ap not (ne_eqb (inode_at image i).mode 0 (λ z. omega arith));
  through = λ i k le z. past (head_of (inode_at image i)) k le z;
  places = λ i p nonzero. by_used (head_of (inode_at image i)) p (head_of (inode_at image i)).is_used refl nonzero;
}
  where
    can : (h : Head) (p : Place) → place_of image h p ≢ 0 → CanHold p
    can h (Body k) nonzero = ⊎_elim
        (λ (lt : k < 138). lt)
        (λ (ge : 138 ≤ k). absurd (nonzero ((λ z. cond (le-ltb k 10 (omega arith) z) (get_or h.direct k 0) (cond (le-ltb k 138 ge z) (cond (h.single == 0) 0 (field (sector_at image h.single) (4 * (k - 10)) 4)) 0)))))
        (cases_lt k 138)
    can h Single nonzero = tt
    can h Double nonzero = tt

    past : (h : Head) (k : ℕ) → 10 ≤ k → cond h.is_used h.single 0 ≡ 0 → cond h.is_used (place_of image h (Body k)) 0 ≡ 0
    past h k le z = cond_same h.is_used (place_of image h (Body k)) 0 0 (λ used.
        let none : h.single ≡ 0 = subst (λ b. cond b h.single 0 ≡ 0) used z in
        (λ q. cond (le-ltb k 10 le q) (get_or h.direct k 0) (cond (ltb k 138) (cond (none q == 0) 0 (field (sector_at image (none q)) (4 * (k - 10)) 4)) 0))
        ∙ cond_both (ltb k 138) 0) ∙ cond_both h.is_used 0

    by_used : (h : Head) (p : Place) (b : Bool) → h.is_used ≡ b → cond h.is_used (place_of image h p) 0 ≢ 0 → (h.is_used ≡ true) × CanHold p
    by_used h p true e nonzero = (e, can h p (subst (λ b. cond b (place_of image h p) 0 ≢ 0) e nonzero))
    by_used h p false e nonzero = absurd (subst (λ b. cond b (place_of image h p) 0 ≢ 0) e nonzero refl)
