-- What a plan keeps, whatever its calls.
use Rattle.std.proofs.Common.{◌≡◌, ℕ, zero, suc, ◌<◌, List, [], ◌∷◌, take}
use Rattle.std.specs.List.{AllByRecursion}
use Rattle.files_model.specs.Torn.{Asked}
use Rattle.stable.specs.Store.{Image}
use Rattle.v7_map.specs.Image.{IsImage, sector_at}
use Rattle.stable.specs.Puts.{put_all}
use Rattle.v7_map.specs.Plans.{IsTornImage, IsPlanOf}
use Rattle.v7_map.specs.View.{view}
use Rattle.v7_map.proofs.Prefixes.{prefix-at}
use Rattle.v7_map.proofs.Puts.{put_all-below, put_all-image}

all_take : {X : Type 0} (P : X → Type 0) (m : ℕ) (xs : List X) → AllByRecursion P xs → AllByRecursion P (take m xs)
all_take P zero [] h = tt
all_take P (suc m) [] h = tt
all_take P zero (x ∷ xs) h = tt
all_take P (suc m) (x ∷ xs) h = (h.0, all_take P m xs h.1)

module _ (image : Image) (calls : List Asked) (now : ℕ) (puts : List (ℕ × List ℕ)) (plan : IsPlanOf image calls now puts) where
  -- after any number of its puts the image can be mended, and its files are torn
  pub plan-torn : (m : ℕ) → IsTornImage (view image) calls now (put_all (take m puts) image)
  plan-torn = prefix-at (IsTornImage (view image) calls now) puts image plan.prefixes

  -- each sector has 512 bytes
  pub plan-image : (m : ℕ) → IsImage image → IsImage (put_all (take m puts) image)
  plan-image m whole = put_all-image (take m puts) image (all_take _ m puts plan.whole) whole

  -- the boot block and the super-block stay
  pub plan-super : (m s : ℕ) → s < 2 → sector_at (put_all (take m puts) image) s ≡ sector_at image s
  plan-super m s low = put_all-below (take m puts) image 2 s (all_take _ m puts plan.past) low
