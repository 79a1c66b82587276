-- The volume's name through calls and puts.
use Rattle.std.proofs.Common.{◌≡◌, ℕ, zero, suc, List, [], ◌∷◌, take, set, refl, ap, ◌∙◌, arith, get_or-set_other}
use Rattle.stable.specs.Puts.{put_all, AfterSome, AllPastSuperBlock}
use Rattle.stable.specs.Store.{Image, name_in}
use Rattle.v7_map.specs.Image.{sector_at}
use Rattle.volume.specs.Keeps.{SameName}

-- nothing has changed
pub name_same : (old d : Image) → d ≡ old → SameName old d
name_same old d same = ap (λ (x : Image). name_in (sector_at x 1)) same

first_puts : (puts : List (ℕ × List ℕ)) (n : ℕ) (image : Image) → AllPastSuperBlock puts → sector_at (put_all (take n puts) image) 1 ≡ sector_at image 1
first_puts puts zero image past = refl
first_puts [] (suc n) image past = refl
first_puts (put ∷ puts) (suc n) image past =
    let low = past.0 in
    first_puts puts n (set image put.0 put.1) past.1 ∙ get_or-set_other image put.0 1 put.1 [] (λ e. omega (arith, low, e))

-- some of a plan was put, none of it on the super-block
pub name_planned : (puts : List (ℕ × List ℕ)) (old mid d : Image) → mid ≡ old → AllPastSuperBlock puts → AfterSome puts mid d → SameName old d
name_planned puts old mid d same past some =
    ap (λ (x : Image). name_in (sector_at x 1)) some.2 ∙ ap name_in (first_puts puts some.0 mid past) ∙ name_same old mid same
