-- An image after puts.
use Rattle.std.proofs.Common.{◌≡◌, ℕ, ◌<◌, ◌≤◌, List, [], ◌∷◌, ◌++◌, length, set, refl, arith, ◌∙◌, length-set, get_or-set_other}
use Rattle.std.proofs.lemmas.List.Elements.{All-set}
use Rattle.std.specs.List.{AllByRecursion}
use Rattle.stable.specs.Store.{Image}
use Rattle.v7_map.specs.Image.{sector_at, IsImage}
use Rattle.stable.specs.Puts.{put_all}

pub length-put_all : (puts : List (ℕ × List ℕ)) (image : Image) → length (put_all puts image) ≡ length image
length-put_all [] image = refl
length-put_all (p ∷ ps) image = length-put_all ps (set image p.0 p.1) ∙ length-set image p.0 p.1

-- sectors below all of these puts stay
pub put_all-below : (puts : List (ℕ × List ℕ)) (image : Image) (low s : ℕ) → AllByRecursion (λ (p : ℕ × List ℕ). low ≤ p.0) puts → s < low → sector_at (put_all puts image) s ≡ sector_at image s
put_all-below [] image low s h lt = refl
put_all-below (p ∷ ps) image low s h lt = let le : low ≤ p.0 = h.0 in put_all-below ps (set image p.0 p.1) low s h.1 lt ∙ get_or-set_other image p.0 s p.1 [] (λ e. omega arith)

pub put_all-image : (puts : List (ℕ × List ℕ)) (image : Image) → AllByRecursion (λ (p : ℕ × List ℕ). length p.1 ≡ 512) puts → IsImage image → IsImage (put_all puts image)
put_all-image [] image h whole = whole
put_all-image (p ∷ ps) image h whole = put_all-image ps (set image p.0 p.1) h.1 (All-set (λ bytes. length bytes ≡ 512) image p.0 p.1 h.0 whole)

pub all_append : {X : Type 0} (P : X → Type 0) (xs ys : List X) → AllByRecursion P xs → AllByRecursion P ys → AllByRecursion P (xs ++ ys)
all_append P [] ys h k = k
all_append P (x ∷ xs) ys h k = (h.0, all_append P xs ys h.1 k)
