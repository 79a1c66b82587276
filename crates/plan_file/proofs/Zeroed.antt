-- Zeros past a size that grows, put before the inode: they don't show, and afterwards nothing stands past the old size.
use Rattle.std.proofs.Common.{◌≡◌, ◌≢◌, ◌⊎◌, ℕ, ◌+◌, ◌-◌, ◌*◌, ◌/◌, ◌%◌, ◌<◌, ◌≤◌, true, false, cond, not, ◌==◌, List, [], ◌∷◌, length, replicate, set, sym, ap, subst, ◌∙◌, arith, ⊎_elim, inl, inr, drop_of_length-le, get_or-set_same, get_or-set_other}
use Rattle.std.proofs.lemmas.Bool.{cases_eq, cases_lt, lt-ltb, le-ltb}
use Rattle.std.specs.List.{AllByRecursion}
use Rattle.files_model.specs.Files.{sectors_of, clipped}
use Rattle.files_model.proofs.Clips.{clipped_fixed, clipped_twice, length-clipped}
use Rattle.stable.specs.Puts.{put_all}
use Rattle.stable.specs.Store.{Image}
use Rattle.v7_layout.specs.declared.inode.Inode.{Inode}
use Rattle.v7_map.specs.Frame.{Place, Body, is_directory, frame}
use Rattle.v7_map.specs.Image.{IsImage, sector_at, inode_at, isize_of}
use Rattle.v7_map.specs.Stored.{sector_in, stored_sector}
use Rattle.v7_map.specs.Weak.{IsStrong}
use Rattle.v7_map.proofs.Contents.{sector-some}
use Rattle.v7_map.proofs.Ranges.{address-inside}
use Rattle.v7_map.proofs.SectorOf.{sector_in-address}
use Rattle.v7_plans.specs.Quiet.{AllQuiet, IsQuiet}
use Rattle.v7_plans.proofs.CutQuiet.{cut-quiet}
use Rattle.v7_plans.proofs.SetPlans.{clean-shorter}
use Rattle.plan_file.specs.Set.{held_put, zero_puts}
use Rattle.plan_file.proofs.Zeros.{zeros-lower, zeros-even, zeros-cut}

-- what they are for
pub record AreZeros (image : Image) (i size : ℕ) (first : List (ℕ × List ℕ)) : Type 0 where
  pub quiet : AllQuiet first image
  pub high : AllByRecursion (λ (put : ℕ × List ℕ). isize_of image ≤ put.0) first
  pub clean : (k : ℕ) → k < sectors_of size → (frame image).address i (Body k) ≢ 0
      → clipped size k (sector_at (put_all first image) ((frame image).address i (Body k))) ≡ clipped size k (clipped (inode_at image i).size k (sector_at (put_all first image) ((frame image).address i (Body k))))

module _ (image : Image) (strong : IsStrong (frame image)) (whole : IsImage image) (i size : ℕ) (used : not ((inode_at image i).mode == 0) ≡ true) where
  abbrev n : Inode
  n = inode_at image i

  -- a sector that the old size doesn't cut
  full : (k : ℕ) (b : List ℕ) → length b ≡ 512 → 512 * k + 512 ≤ n.size → clipped n.size k b ≡ b
  full k b long le = let none : 512 - (n.size - 512 * k) ≡ 0 = omega arith in clipped_fixed n.size k b (drop_of_length-le b (omega arith) ∙ ap (λ z. replicate z 0) (sym none))

  long_at : (k : ℕ) → (frame image).address i (Body k) ≢ 0 → length (sector_at image ((frame image).address i (Body k))) ≡ 512
  long_at k nz = whole ((frame image).address i (Body k)) [] (address-inside image strong.weak i (Body k) nz).2

  -- a held sector is below the old size
  below : (k : ℕ) → (frame image).address i (Body k) ≢ 0 → k < sectors_of n.size
  unfolding frame
  below k nz = ⊎_elim (λ (lt : k < sectors_of n.size). lt) (λ (ge : sectors_of n.size ≤ k). absurd (nz (strong.none_past i k ge))) (cases_lt k (sectors_of n.size))

  none_put : ((k : ℕ) → (frame image).address i (Body k) ≢ 0 → 512 * k + 512 ≤ n.size) → AreZeros image i size []
  none_put all = record { quiet = tt; high = tt; clean = λ k lt nz. ap (clipped size k) (sym (full k (sector_at image ((frame image).address i (Body k))) (long_at k nz) (all k nz))) }

  pub zeroed : n.size ≤ size → (n.size < size → is_directory ((frame image).head i) ≡ false) → AreZeros image i size (zero_puts image n size)
  unfolding frame
  zeroed le file = ⊎_elim same_size larger (cases_le n.size size)
    where
      cases_le : (x y : ℕ) → (y ≤ x) ⊎ (x < y)
      cases_le x y = ⊎_elim (λ (l : x < y). inr l) (λ (g : y ≤ x). inl g) (cases_lt x y)

      same_size : size ≤ n.size → AreZeros image i size (zero_puts image n size)
      same_size ge = subst (AreZeros image i size) (sym (zeros-lower image n size ge)) (record { quiet = tt; high = tt; clean = clean-shorter image i size strong.weak whole ge })

      larger : n.size < size → AreZeros image i size (zero_puts image n size)
      larger lt = ⊎_elim
          (λ (even : n.size % 512 ≡ 0). subst (AreZeros image i size) (sym (zeros-even image n size even)) (none_put (λ k nz. let b = below k nz in omega arith)))
          (λ (odd : n.size % 512 ≢ 0). subst (AreZeros image i size) (sym (zeros-cut image n size lt odd)) (by_held odd))
          (cases_eq (n.size % 512) 0)
        where
          q : ℕ
          q = n.size / 512

          a_is : (frame image).address i (Body (n.size / 512)) ≡ sector_in image n (n.size / 512)
          a_is = sector_in-address image strong.weak i used (n.size / 512)

          by_held : n.size % 512 ≢ 0 → AreZeros image i size (held_put (sector_in image n (n.size / 512)) (stored_sector image n (n.size / 512)))
          by_held odd = ⊎_elim
              (λ (low : sector_in image n (n.size / 512) < 2).
              subst (AreZeros image i size) (λ z. cond (sym (lt-ltb (sector_in image n (n.size / 512)) 2 low) z) [] ((sector_in image n (n.size / 512), stored_sector image n (n.size / 512)) ∷ []))
              (none_put (λ k nz. let b = below k nz in
              let inside = (address-inside image strong.weak i (Body k) nz).0 in
              let apart : k ≢ n.size / 512 = λ e. let here : (frame image).address i (Body k) ≡ sector_in image n (n.size / 512) = ap (λ j. (frame image).address i (Body j)) e ∙ a_is in omega arith in omega arith)))
              (λ (high : 2 ≤ sector_in image n (n.size / 512)).
              subst (AreZeros image i size) (λ z. cond (sym (le-ltb (sector_in image n (n.size / 512)) 2 high) z) [] ((sector_in image n (n.size / 512), stored_sector image n (n.size / 512)) ∷ [])) (one_put high))
              (cases_lt (sector_in image n (n.size / 512)) 2)
            where
              a : ℕ
              a = sector_in image n (n.size / 512)

              one_put : 2 ≤ sector_in image n (n.size / 512) → AreZeros image i size ((sector_in image n (n.size / 512), stored_sector image n (n.size / 512)) ∷ [])
              one_put high =
                  let there : sector_in image n (n.size / 512) ≢ 0 = λ z. omega arith in
                  let held : (frame image).address i (Body (n.size / 512)) ≢ 0 = λ z. there (sym a_is ∙ z) in
                  let bytes : stored_sector image n (n.size / 512) ≡ clipped n.size (n.size / 512) (sector_at image (sector_in image n (n.size / 512))) = sector-some image n (n.size / 512) there in
                  let long : length (sector_at image (sector_in image n (n.size / 512))) ≡ 512 = ap (λ x. length (sector_at image x)) (sym a_is) ∙ long_at (n.size / 512) held in
                  let long' : length (stored_sector image n (n.size / 512)) ≡ 512 = ap length bytes ∙ length-clipped n.size (n.size / 512) (sector_at image (sector_in image n (n.size / 512))) long in
                  let fixed : clipped n.size (n.size / 512) (stored_sector image n (n.size / 512)) ≡ stored_sector image n (n.size / 512) = ap (clipped n.size (n.size / 512)) bytes ∙ clipped_twice n.size (n.size / 512) (sector_at image (sector_in image n (n.size / 512))) long ∙ sym bytes in
                  let inside = address-inside image strong.weak i (Body (n.size / 512)) held in
                  let low : isize_of image ≤ sector_in image n (n.size / 512) = subst (λ x. isize_of image ≤ x) a_is inside.1 in
                  let within : sector_in image n (n.size / 512) < length image = subst (λ x. x < length image) a_is inside.2 in record {
                    quiet = (cut_quiet there fixed bytes long', tt);
                    high = (low, tt);
                    clean = λ k lt' nz. ⊎_elim
                        (λ (e : k ≡ n.size / 512).
                        let at : sector_at (set image (sector_in image n (n.size / 512)) (stored_sector image n (n.size / 512))) ((frame image).address i (Body k)) ≡ stored_sector image n (n.size / 512) =
                        ap (sector_at (set image (sector_in image n (n.size / 512)) (stored_sector image n (n.size / 512)))) (ap (λ j. (frame image).address i (Body j)) e ∙ a_is) ∙ get_or-set_same image (sector_in image n (n.size / 512)) (stored_sector image n (n.size / 512)) [] within in
                        ap (clipped size k) (at ∙ sym fixed ∙ ap (λ j. clipped n.size j (stored_sector image n (n.size / 512))) (sym e) ∙ ap (clipped n.size k) (sym at)))
                        (λ (ne : k ≢ n.size / 512).
                        let b = below k nz in
                        let other : sector_at (set image (sector_in image n (n.size / 512)) (stored_sector image n (n.size / 512))) ((frame image).address i (Body k)) ≡ sector_at image ((frame image).address i (Body k)) =
                        get_or-set_other image (sector_in image n (n.size / 512)) ((frame image).address i (Body k)) (stored_sector image n (n.size / 512)) [] (λ e. ne (numbers k (n.size / 512) ((strong.weak.unshared i i (Body k) (Body (n.size / 512)) nz (e ∙ sym a_is)).1))) in
                        ap (clipped size k) (other ∙ sym (full k (sector_at image ((frame image).address i (Body k))) (long_at k nz) (omega arith)) ∙ ap (clipped n.size k) (sym other)))
                        (cases_eq k (n.size / 512));
                  }
                where
                  number_of : Place → ℕ
                  number_of (Body k) = k
                  number_of other_place = 0

                  numbers : (k l : ℕ) → Body k ≡ Body l → k ≡ l
                  numbers k l e = ap number_of e

                  cut_quiet : sector_in image n (n.size / 512) ≢ 0 → clipped n.size (n.size / 512) (stored_sector image n (n.size / 512)) ≡ stored_sector image n (n.size / 512)
                      → stored_sector image n (n.size / 512) ≡ clipped n.size (n.size / 512) (sector_at image (sector_in image n (n.size / 512))) → length (stored_sector image n (n.size / 512)) ≡ 512
                      → IsQuiet image (sector_in image n (n.size / 512), stored_sector image n (n.size / 512))
                  cut_quiet there fixed bytes long' = cut-quiet image i (n.size / 512) (sector_in image n (n.size / 512)) (stored_sector image n (n.size / 512)) strong.weak (file lt) a_is there (fixed ∙ bytes) long'
