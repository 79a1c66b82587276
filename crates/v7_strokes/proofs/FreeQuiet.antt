-- A data block that stands at no place takes a put quietly.
use Rattle.std.proofs.Common.{◌≡◌, ◌≢◌, ℕ, cond, List, [], length, set, ap, ◌∙◌, arith, eqb, get_or-set_other, Some, None}
use Rattle.std.specs.FinMap.{empty}
use Rattle.files_model.specs.Files.{clipped}
use Rattle.files_model.proofs.Maps.{tabulated_same}
use Rattle.stable.specs.Store.{Image}
use Rattle.v7_map.specs.Image.{sector_at, inode_at}
use Rattle.v7_map.specs.Frame.{Body, is_directory, frame}
use Rattle.v7_map.specs.Weak.{IsWeak}
use Rattle.v7_map.specs.View.{body_of, body_at}
use Rattle.v7_map.proofs.Data.{same_inode}
use Rattle.v7_map.proofs.Unheld.{unheld-frame}
use Rattle.v7_plans.specs.Quiet.{IsQuiet}
use Rattle.v7_sets.specs.Sets.{IsFreeBlock}

module _ (image : Image) (a : ℕ) (bytes : List ℕ) (weak : IsWeak (frame image)) (free : IsFreeBlock (frame image) a) where
  new : Image
  new = set image a bytes

  other : (s : ℕ) → s ≢ a → sector_at new s ≡ sector_at image s
  unfolding new
  other s ne = get_or-set_other image a s bytes [] ne

  first : sector_at new 1 ≡ sector_at image 1
  first = let low = weak.sizes.low in let from = free.low in other 1 (λ e. omega arith)

  inodes : (j : ℕ) → inode_at new j ≡ inode_at image j
  unfolding frame
  inodes j = let from = free.low in same_inode image new first (λ s _ lt. other s (λ e. omega arith)) j

  bodies : (j : ℕ) → body_at new (frame new) j ≡ body_at image (frame image) j
  unfolding body_of new frame
  bodies j = ap (λ f. body_at (set image a bytes) f j) (unheld-frame image a bytes weak free.low free.nowhere)
      ∙ ap (cond (is_directory ((frame image).head j)) empty) (tabulated_same _ _ _ (λ q lt.
      ap (λ s. cond (eqb ((frame image).address j (Body q)) 0) None (Some (clipped ((frame image).head j).size q s))) (other ((frame image).address j (Body q)) (free.nowhere j (Body q)))))

  pub free-quiet : length bytes ≡ 512 → IsQuiet image (a, bytes)
  unfolding frame new
  free-quiet long = let low = weak.sizes.low in let within = weak.sizes.within in let from = free.low in let to = free.high in record {
    past = omega arith;
    inside = omega arith;
    whole = long;
    same_frame = unheld-frame image a bytes weak free.low free.nowhere;
    same_first = first;
    same_inodes = inodes;
    same_bodies = bodies;
  }
