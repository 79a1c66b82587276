-- The sectors of a store are whole.
use Rattle.std.proofs.Common.{◌≡◌, ◌<◌, ℕ, length, arith}
use Rattle.stable.specs.Moments.{IsClocked}
use Rattle.stable.specs.Store.{Image, HasSectors}
use Rattle.v7_map.specs.Image.{sector_at}
use Rattle.v7_map.proofs.Whole.{as_long}

module _ {S : Type 0} {tells : Type 0} {image : S → Image} {moment : S → ℕ} {since : S → ℕ → Image → Type 0} (count : S → ℕ) (clocked : IsClocked tells image moment since)
    (shape : (s : S) (t : ℕ) (i : Image) → since s t i → HasSectors (count s) i) (s : S) (told : tells) where
  pub long_sectors : (k : ℕ) → k < length (image s) → length (sector_at (image s) k) ≡ 512
  long_sectors k lt = let all = as_long count clocked shape s told in let size = all.size in all.long k (omega (arith, size, lt))
