-- Lists mixed, and events heard, one run after another.
use Rattle.std.proofs.Common.{List, [], ◌∷◌, ◌++◌, Option, refl, subst}
use Rattle.rig.specs.Links.{Heard, Takes}
use Rattle.nfs_worker.specs.Worker.{Mixes, Hears}
use Rattle.nfs_worker.specs.Worker.Mixes.{neither, first, second}

pub mixes_both : {A : Type 0} (xs ys zs us vs ws : List A) → Mixes xs ys zs → Mixes us vs ws → Mixes (xs ++ us) (ys ++ vs) (zs ++ ws)
mixes_both [] [] [] us vs ws neither q = q
mixes_both [] (y ∷ ys) [] us vs ws p q = elim p [ ]
mixes_both (x ∷ xs) ys [] us vs ws p q = elim p [ ]
mixes_both (x ∷ xs) ys (z ∷ zs) us vs ws (first x' xs' ys' zs' p) q = first x' (xs' ++ us) (ys' ++ vs) (zs' ++ ws) (mixes_both xs' ys' zs' us vs ws p q)
mixes_both xs (y ∷ ys) (z ∷ zs) us vs ws (second y' xs' ys' zs' p) q = second y' (xs' ++ us) (ys' ++ vs) (zs' ++ ws) (mixes_both xs' ys' zs' us vs ws p q)

pub mixes_first : {A : Type 0} (xs : List A) → Mixes xs [] xs
mixes_first [] = neither
mixes_first (x ∷ xs) = first x xs [] xs (mixes_first xs)

pub mixes_second : {A : Type 0} (ys : List A) → Mixes [] ys ys
mixes_second [] = neither
mixes_second (y ∷ ys) = second y [] ys ys (mixes_second ys)

pub hears_both : (a b c : Option (List Heard)) (xs ys : List Heard) → Hears a xs b → Hears b ys c → Hears a (xs ++ ys) c
hears_both a b c [] ys p q = subst (λ (left : Option (List Heard)). Hears left ys c) p q
hears_both a b c (x ∷ xs) ys p q = (p.0, p.1, hears_both p.0 b c xs ys p.2 q)

pub hears_one : (left now : Option (List Heard)) (heard : Heard) → Takes left heard now → Hears left (heard ∷ []) now
hears_one left now heard takes = (now, takes, refl)
