-- The bytes of a read, sector by sector.
use Rattle.std.proofs.Common.{◌≡◌, ℕ, ◌+◌, ◌-◌, ◌*◌, ◌<◌, ◌≤◌, min, max, Bool, true, false, cond, ◌==◌, [], get_or, List, ◌++◌, length, take, drop, refl, sym, ap, ◌∙◌, arith, ⊎_elim, length-drop}
use Rattle.std.proofs.lemmas.Bool.{cases_lt}
use Rattle.std.proofs.lemmas.List.{drop-replicate, take_all}
use Rattle.files_model.specs.declared.attributes.FileId.{FileId}
use Rattle.files_model.specs.Files.{clipped}
use Rattle.files_model.specs.Step.{most_read, zeros}
use Rattle.files_model.proofs.Clips.{clipped_fixed}
use Rattle.plan_file.specs.Contents.{old_content}
use Rattle.plan_file.specs.Places.{ArePlaces}
use Rattle.plan_file.specs.declared.places.Places.{Places}
use Rattle.plan_file.proofs.Known.{at_body}
use Rattle.stable.specs.Store.{Image}
use Rattle.v7_layout.specs.declared.inode.Inode.{Inode}
use Rattle.v7_map.specs.Image.{IsImage}
use Rattle.v7_map.specs.Frame.{frame}
use Rattle.v7_map.specs.Stored.{sector_in, stored_sector, stored_content, read_bytes}
use Rattle.v7_map.specs.Weak.{IsStrong}
use Rattle.v7_map.proofs.Frames.{and_left, and_right}
use Rattle.v7_map.proofs.SectorOf.{sector_in-address}
use Rattle.v7_map.proofs.Contents.{take-more, content-part, length-content}
use Rattle.v7_read.specs.declared.found.Found.{Found}
use Rattle.v7_read.specs.Found.{IsFile}

take-least : (m : ℕ) (ys : List ℕ) → take (min m (length ys)) ys ≡ take m ys
take-least m ys = ⊎_elim
    (λ (more : length ys < m). let least : min m (length ys) ≡ length ys = omega (arith, more) in ap (λ n. take n ys) least ∙ take_all (length ys) ys (omega arith) ∙ sym (take_all m ys (omega (arith, more))))
    (λ (few : m ≤ length ys). let least : min m (length ys) ≡ m = omega (arith, few) in ap (λ n. take n ys) least)
    (cases_lt (length ys) m)

module _ (image : Image) (n : Inode) (whole : IsImage image) where
  -- all of them
  pub read_whole : (offset count end : ℕ) → end ≡ min (offset + min count most_read) n.size → take (end - offset) (drop offset (stored_content image n)) ≡ read_bytes image n offset count
  read_whole offset count end is =
      let ys : List ℕ = drop offset (stored_content image n) in
      let long : length ys ≡ n.size - offset = length-drop offset (stored_content image n) ∙ ap (λ m. m - offset) (length-content image n whole) in
      let least : end - offset ≡ min (min count most_read) (length ys) = omega (arith, is, long) in
      ap (λ m. take m ys) least ∙ take-least (min count most_read) ys

  -- one sector, by its block
  pub part_stored : (k a : ℕ) → a ≡ sector_in image n k → old_content image n.size k a ≡ stored_sector image n k
  unfolding stored_sector
  part_stored k a is = ap (old_content image n.size k) is ∙ by_block (sector_in image n k == 0)
    where
      by_block : (t : Bool) → clipped n.size k (cond t zeros (get_or image (sector_in image n k) [])) ≡ cond t zeros (clipped n.size k (get_or image (sector_in image n k) []))
      by_block true = clipped_fixed n.size k zeros (drop-replicate (n.size - 512 * k) 512 0)
      by_block false = refl

  -- those up to one sector more
  pub read_more : (offset end k : ℕ) → offset < 512 * k + 512 → 512 * k < end → end ≤ n.size → offset ≤ end
      → take (min (512 * k + 512) end - offset) (drop offset (stored_content image n))
      ≡ take (min (512 * k) end - offset) (drop offset (stored_content image n)) ++ take (min end (512 * k + 512) - max offset (512 * k)) (drop (max offset (512 * k) - 512 * k) (stored_sector image n k))
  read_more offset end k starts ends below some =
      let so_far : ℕ = min (512 * k) end - offset in
      let more : ℕ = min end (512 * k + 512) - max offset (512 * k) in
      let skipped : ℕ = max offset (512 * k) - 512 * k in
      let both : min (512 * k + 512) end - offset ≡ so_far + more = omega (arith, starts, ends, some) in
      let at : offset + so_far ≡ 512 * k + skipped = omega (arith, starts, ends, some) in
      ap (λ m. take m (drop offset (stored_content image n))) both
      ∙ take-more so_far more offset (stored_content image n)
      ∙ ap (λ m. take so_far (drop offset (stored_content image n)) ++ take more (drop m (stored_content image n))) at
      ∙ ap (λ ys. take so_far (drop offset (stored_content image n)) ++ ys) (content-part image n whole k skipped more (omega (arith, starts, ends, some)) (omega (arith, starts, ends, below, some)))

-- the places of a file that stands are where its sectors are
pub places_in : (image : Image) → IsStrong (frame image) → IsImage image → (file : FileId) (found : Found) → IsFile image file found → (places : Places) (sectors : ℕ) → sectors ≡ min (length image) 1048576
    → ArePlaces image sectors found.inode places → (k : ℕ) → k < 138 → get_or places.body k 0 ≡ sector_in image found.inode k
places_in image strong whole file found is places sectors s_is are k lt =
    at_body image strong whole file found is places sectors s_is are k lt
    ∙ sector_in-address image strong.weak file.ino (and_left _ _ (and_right _ _ is.stands)) k
    ∙ ap (λ (n : Inode). sector_in image n k) (sym is.inode)
